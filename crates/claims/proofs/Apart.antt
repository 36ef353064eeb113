-- Claims that lie apart and in order.
use Rattle.std.proofs.Common.{◌≡◌, ℤ, ◌≤ℤ◌, ◌<ℤ◌, int_lt, Bool, true, false, List, [], ◌∷◌, ◌++◌, ◌⊎◌, inl, inr, refl, sym, ap, ◌∙◌, subst, arith}
use Rattle.std.proofs.lemmas.Int.{ints}
use Rattle.std.specs.declared.cmp.Ordering.{Ordering}
use Rattle.std.specs.declared.cmp.Ordering.TheVariants.{Less, Equal, Greater}
use Rattle.std.specs.Ordering.{ordering_reverse}
use Rattle.std.specs.Cmp.{IsTotalOrder}
use Rattle.claims.specs.declared.claim.Claim.{Claim}
use Rattle.claims.specs.Claims.{before_by, is_before, BeforeAll, AreApart}
use Rattle.claims.proofs.Numbers.{lt_true, true_lt}

reach : (a b c d : ℤ) → a <ℤ b → b ≤ℤ c → c <ℤ d → a <ℤ d
reach a b c d h k l = omega (arith, ints)

below : (a b c : ℤ) → a <ℤ b → b ≤ℤ c → a <ℤ c
below a b c h k = omega (arith, ints)

under : (a b c : ℤ) → a ≤ℤ b → b <ℤ c → a <ℤ c
under a b c h k = omega (arith, ints)

module _ {K : Type 0} (R : K → K → Ordering) (o : IsTotalOrder R) where
  pub turned : (a b : K) (z : Ordering) → R a b ≡ z → R b a ≡ ordering_reverse z
  turned a b z e = o.antisymm b a ∙ ap ordering_reverse e

  -- lanes that the order takes for one stand alike to others
  left_alike : (a b c : K) (z : Ordering) → R a b ≡ Equal → R a c ≡ z → R b c ≡ z
  left_alike a b c z e f = sym (o.congr a b c e) ∙ f

  pub right_alike : (a b c : K) (z : Ordering) → R b c ≡ Equal → R a b ≡ z → R a c ≡ z
  right_alike a b c z e f =
      o.antisymm a c ∙ (ap ordering_reverse (o.congr c b a (turned b c Equal e)) ∙ (sym (o.antisymm a b) ∙ f))

  -- a claim lies before another so
  abbrev Lies : Claim K → Claim K → Type 0
  Lies a b = (R a.lane b.lane ≡ Less) ⊎ ((R a.lane b.lane ≡ Equal) × (a.to <ℤ b.from))

  pub lies : (a b : Claim K) → is_before R a b ≡ true → Lies a b
  lies a b h = by_order (R a.lane b.lane) refl h
    where
      by_order : (z : Ordering) → R a.lane b.lane ≡ z → before_by z a.to b.from ≡ true → Lies a b
      by_order Less e k = inl e
      by_order Equal e k = inr (e, true_lt a.to b.from k)
      by_order Greater e k = absurd (cc)

  pub before : (a b : Claim K) → Lies a b → is_before R a b ≡ true
  before a b (inl e) = ap (λ z. before_by z a.to b.from) e
  before a b (inr p) = ap (λ z. before_by z a.to b.from) p.0 ∙ lt_true a.to b.from p.1

  lies_on : (a b c : Claim K) → Lies a b → Lies b c → b.from ≤ℤ b.to → Lies a c
  lies_on a b c (inl e) (inl f) n = inl (o.trans a.lane b.lane c.lane e f)
  lies_on a b c (inl e) (inr f) n = inl (right_alike a.lane b.lane c.lane Less f.0 e)
  lies_on a b c (inr e) (inl f) n = inl (o.congr a.lane b.lane c.lane e.0 ∙ f)
  lies_on a b c (inr e) (inr f) n = inr (o.congr a.lane b.lane c.lane e.0 ∙ f.0, reach a.to b.from b.to c.from e.1 n f.1)

  pub before_on : (a b c : Claim K) → is_before R a b ≡ true → is_before R b c ≡ true → b.from ≤ℤ b.to → is_before R a c ≡ true
  before_on a b c h k n = before a c (lies_on a b c (lies a b h) (lies b c k) n)

  -- what lies within a claim
  pub record IsWithin (d e : Claim K) : Type 0 where
    pub lane : R d.lane e.lane ≡ Equal
    pub from : e.from ≤ℤ d.from
    pub to : d.to ≤ℤ e.to

  pub before_within : (c d e : Claim K) → IsWithin d e → is_before R c e ≡ true → is_before R c d ≡ true
  before_within c d e w h = before c d (by (lies c e h))
    where
      by : Lies c e → Lies c d
      by (inl f) = inl (right_alike c.lane e.lane d.lane Less (turned d.lane e.lane Equal w.lane) f)
      by (inr f) = inr (right_alike c.lane e.lane d.lane Equal (turned d.lane e.lane Equal w.lane) f.0, below c.to e.from d.from f.1 w.from)

  pub within_before : (d e c : Claim K) → IsWithin d e → is_before R e c ≡ true → is_before R d c ≡ true
  within_before d e c w h = before d c (by (lies e c h))
    where
      by : Lies e c → Lies d c
      by (inl f) = inl (o.congr d.lane e.lane c.lane w.lane ∙ f)
      by (inr f) = inr (o.congr d.lane e.lane c.lane w.lane ∙ f.0, under d.to e.to c.from w.to f.1)

  -- ---- all of a list

  pub all_joined : (c : Claim K) (xs ys : List (Claim K)) → BeforeAll R c xs → BeforeAll R c ys → BeforeAll R c (xs ++ ys)
  all_joined c [] ys h k = k
  all_joined c (x ∷ xs) ys h k = (h.0, all_joined c xs ys h.1 k)

  pub all_left : (c : Claim K) (xs ys : List (Claim K)) → BeforeAll R c (xs ++ ys) → BeforeAll R c xs
  all_left c [] ys h = tt
  all_left c (x ∷ xs) ys h = (h.0, all_left c xs ys h.1)

  pub all_right : (c : Claim K) (xs ys : List (Claim K)) → BeforeAll R c (xs ++ ys) → BeforeAll R c ys
  all_right c [] ys h = h
  all_right c (x ∷ xs) ys h = all_right c xs ys h.1

  pub all_on : (a b : Claim K) (xs : List (Claim K)) → is_before R a b ≡ true → b.from ≤ℤ b.to → BeforeAll R b xs → BeforeAll R a xs
  all_on a b [] h n k = tt
  all_on a b (x ∷ xs) h n k = (before_on a b x h k.0 n, all_on a b xs h n k.1)

  pub all_within : (d e : Claim K) (xs : List (Claim K)) → IsWithin d e → BeforeAll R e xs → BeforeAll R d xs
  all_within d e [] w h = tt
  all_within d e (x ∷ xs) w h = (within_before d e x w h.0, all_within d e xs w h.1)

  -- ---- lists that lie apart

  -- a claim goes in where it lies before what follows
  pub apart_with : (out xs ys : List (Claim K)) (c : Claim K) → AreApart R (out ++ c ∷ xs) → AreApart R (out ++ ys) → BeforeAll R c ys → AreApart R (out ++ c ∷ ys)
  apart_with [] xs ys c h k b = (h.0, b, k)
  apart_with (d ∷ out) xs ys c h k b = (
    h.0,
    all_joined d out (c ∷ ys) (all_left d out (c ∷ xs) h.1) ((all_right d out (c ∷ xs) h.1).0, all_right d out ys k.1),
    apart_with out xs ys c h.2 k.2 b,
  )

  -- and out
  pub apart_without : (out xs : List (Claim K)) (c : Claim K) → AreApart R (out ++ c ∷ xs) → AreApart R (out ++ xs)
  apart_without [] xs c h = h.2
  apart_without (d ∷ out) xs c h = (
    h.0,
    all_joined d out xs (all_left d out (c ∷ xs) h.1) (all_right d out (c ∷ xs) h.1).1,
    apart_without out xs c h.2,
  )

  -- or gives way to one that lies within it
  pub apart_within : (out xs : List (Claim K)) (d e : Claim K) → IsWithin d e → d.from ≤ℤ d.to → AreApart R (out ++ e ∷ xs) → AreApart R (out ++ d ∷ xs)
  apart_within [] xs d e w n h = (n, all_within d e xs w h.1, h.2)
  apart_within (c ∷ out) xs d e w n h = (
    h.0,
    all_joined c out (d ∷ xs) (all_left c out (e ∷ xs) h.1) (before_within c d e w (all_right c out (e ∷ xs) h.1).0, (all_right c out (e ∷ xs) h.1).1),
    apart_within out xs d e w n h.2,
  )

  pub apart_head : (out xs : List (Claim K)) (c : Claim K) → AreApart R (out ++ c ∷ xs) → (c.from ≤ℤ c.to) × BeforeAll R c xs
  apart_head [] xs c h = (h.0, h.1)
  apart_head (d ∷ out) xs c h = apart_head out xs c h.2
