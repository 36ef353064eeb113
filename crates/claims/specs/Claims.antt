-- Ranges of numbers that are claimed one after another: the first that claims a number has it.
use Rattle.std.specs.Prelude.{◌≡◌, ℕ, ℤ, ◌≤ℤ◌, int_le, int_lt, Bool, true, false, ◌&&◌, IsTrue, List, [], ◌∷◌, if◌then◌else◌, Option, Some, None}
use Rattle.std.specs.declared.cmp.Ordering.{Ordering}
use Rattle.std.specs.declared.cmp.Ordering.TheVariants.{Less, Equal, Greater}
use Rattle.claims.specs.declared.claim.Claim.{Claim}

-- a claim takes a number of a lane, ends included: a test of lanes says which lane is meant
abbrev pub takes : {K : Type 0} → (K → Bool) → ℤ → Claim K → Bool
takes is_lane n c = is_lane c.lane && (int_le c.from n && int_le n c.to)

-- who has a number of a lane: the first that claims it
abbrev pub owner : {K : Type 0} → (K → Bool) → ℤ → List (Claim K) → Option ℕ
owner is_lane n [] = None
owner is_lane n (c ∷ cs) = if takes is_lane n c then Some c.by else owner is_lane n cs

-- a test passes for the lanes that the order takes for one, and for no other
pub record IsLane {K : Type 0} (R : K → K → Ordering) (is_lane : K → Bool) : Type 0 where
  pub one : (a b : K) → is_lane a ≡ true → is_lane b ≡ true → R a b ≡ Equal
  pub whole : (a b : K) → R a b ≡ Equal → is_lane a ≡ is_lane b

-- on an earlier lane, or on the same one and below
abbrev pub before_by : Ordering → ℤ → ℤ → Bool
before_by Less m n = true
before_by Equal m n = int_lt m n
before_by Greater m n = false

abbrev pub is_before : {K : Type 0} → (K → K → Ordering) → Claim K → Claim K → Bool
is_before R a b = before_by (R a.lane b.lane) a.to b.from

abbrev pub BeforeAll : {K : Type 0} → (K → K → Ordering) → Claim K → List (Claim K) → Type 0
BeforeAll R c [] = Unit {0}
BeforeAll R c (d ∷ ds) = (is_before R c d ≡ true) × BeforeAll R c ds

-- no claim is empty, and each lies before all behind it
abbrev pub AreApart : {K : Type 0} → (K → K → Ordering) → List (Claim K) → Type 0
AreApart R [] = Unit {0}
AreApart R (c ∷ cs) = (c.from ≤ℤ c.to) × BeforeAll R c cs × AreApart R cs
