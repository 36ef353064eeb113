-- Numbers of a choice that no earlier case takes.
use Rattle.std.specs.Prelude.{◌≡◌, ℕ, ℤ, ◌≤ℤ◌, Bool, true, false, ◌&&◌, List, [], ◌∷◌, drop, All, ◌⊎◌, Option, Some, None}
use Rattle.std.specs.List.{list_any}
use Rattle.std.specs.Option.{IsSomeAnd}
use Rattle.claims.specs.declared.claim.Claim.{Claim}
use Rattle.claims.specs.Claims.{takes, owner}
use Rattle.contract.specs.Names.declared.bound.Bound.{Bound}
use Rattle.contract.specs.Names.Equal.{same_choice_id}
use Rattle.contract.specs.Names.declared.choice_id.ChoiceId.{ChoiceId}
use Rattle.contract.specs.declared.input.Input.TheVariants.{Choice}
use Rattle.contract.specs.declared.interval.Interval.{Interval}
use Rattle.contract.specs.declared.tree.Case.{Case}
use Rattle.contract.specs.Tree.{ActionTree, action_tree}
use Rattle.std.specs.FinMap.{insert}
use Rattle.contract.specs.declared.payment.Payment.{Payment}
use Rattle.contract.specs.States.States.{StateMaps}
use Rattle.analysis_walk.specs.Limits.{Scope}
use Rattle.analysis_values.specs.Known.{Known, IsDescribed}
use Rattle.semantics.specs.Applying.{in_bound, matches}

abbrev pub IsIn : List ActionTree → ActionTree → Type 0
IsIn [] a = ⊥
IsIn (e ∷ es) a = (a ≡ e) ⊎ IsIn es a

-- the action of each case is among these
abbrev pub HasActions : List ActionTree → List Case → Type 0
HasActions es = All (λ (k : Case). IsIn es (action_tree k.action))

abbrev pub IsFromTo : Bound → ℤ → Type 0
IsFromTo b n = (b.from ≤ℤ n) × (n ≤ℤ b.to)

-- there is a range, and the number lies in it
abbrev pub IsWithin : Option Bound → ℤ → Type 0
IsWithin o n = IsSomeAnd o (λ b. IsFromTo b n)

-- a range has each number within one of the bounds
abbrev pub IsHull : List Bound → Option Bound → Type 0
IsHull bounds o = (n : ℤ) → list_any (in_bound n) bounds ≡ true → IsWithin o n

-- in some interval and state, a case doesn't take the number of a choice
abbrev pub IsPassed : ChoiceId → ℤ → Case → Type 0
IsPassed id n k = (i : Interval) × (s : StateMaps) × (matches i s (Choice id n) (action_tree k.action) ≡ false)

-- a claim of the numbers within a bound, on the lane of the choice: by 0, the earlier cases, or by 1, the bounds of the choice
abbrev pub claim_of : ℕ → Bound → Claim Bool
claim_of by b = record { lane = true; from = b.from; to = b.to; by = by }

abbrev pub claims_of : ℕ → List Bound → List (Claim Bool)
claims_of by [] = []
claims_of by (b ∷ bs) = claim_of by b ∷ claims_of by bs

abbrev pub is_lane : Bool → Bool
is_lane lane = lane

abbrev pub IsUnclaimed : ℤ → List (Claim Bool) → Type 0
IsUnclaimed n cs = owner is_lane n cs ≡ None

-- it has the number for the bounds of the choice
abbrev pub Owns : ℤ → Claim Bool → Type 0
Owns n c = (c.by ≡ 1) × (takes is_lane n c ≡ true)

-- a range has each number that the bounds have
abbrev pub IsHullOfClaims : List (Claim Bool) → Option Bound → Type 0
IsHullOfClaims cs o = (n : ℤ) → owner is_lane n cs ≡ Some 1 → IsWithin o n

-- a number that a case doesn't take stays unclaimed
abbrev pub ClaimsPassed : ChoiceId → Case → List (Claim Bool) → List (Claim Bool) → Type 0
ClaimsPassed id k old new = (n : ℤ) → IsPassed id n k → IsUnclaimed n old → IsUnclaimed n new

-- .. that a case of a choice doesn't take
abbrev pub ClaimsOutside : ChoiceId → ChoiceId → List Bound → List (Claim Bool) → List (Claim Bool) → Type 0
ClaimsOutside id of bounds old new = (n : ℤ) → (same_choice_id id of && list_any (in_bound n) bounds) ≡ false → IsUnclaimed n old → IsUnclaimed n new

-- the last items
abbrev pub IsEndOf : List Case → List Case → Type 0
IsEndOf ks ls = (n : ℕ) × (ls ≡ drop n ks)

-- what is known is true once any number in the range is chosen
abbrev pub IsChosen : Known → ChoiceId → Bound → Known → Type 0
IsChosen k id b m =
    (scope : Scope) (i : Interval) (s : StateMaps) (ps : List Payment) (n : ℤ) → IsDescribed scope k i s ps → IsFromTo b n → IsDescribed scope m i (record s { choices = insert s.choices id n }) ps
