-- No reader needs this file: it serves private functions. Which numbers each case claims, and what it gets of them.
use Rattle.std.specs.Prelude.{◌≡◌, ℕ, suc, ◌^◌, ◌<◌, ◌==◌, ℤ, pos, neg_ℤ, ◌+ℤ◌, Bool, true, false, List, [], ◌∷◌, length, slice_get, if◌then◌else◌, Option, Some, None, option_map}
use Rattle.std.specs.List.{AllByRecursion}
use Rattle.std.specs.Ordering.{eq_by_cmp, int_eq}
use Rattle.claims.specs.declared.claim.Claim.{Claim}
use Rattle.claims.specs.Claims.{owner}
use Rattle.contract.specs.Names.declared.bound.Bound.{Bound}
use Rattle.contract.specs.declared.input.Input.{Input}
use Rattle.contract.specs.declared.input.Input.TheVariants as inputs
use Rattle.contract.specs.declared.interval.Interval.{Interval}
use Rattle.contract.specs.States.States.{StateMaps}
use Rattle.contract.specs.Tree.{ValueTree, ObservationTree, ActionTree, deposit, choice, notify, ContractTree}
use Rattle.semantics.specs.Evaluation.Numbers.{fits, all_fit}
use Rattle.semantics.specs.Evaluation.Evaluation.{eval, visited, holds, looked}
use Rattle.semantics.specs.Evaluation.declared.form.Wait.{Wait}
use Rattle.semantics.specs.Evaluation.declared.form.Wait.TheVariants as waits
use Rattle.semantics.specs.Evaluation.Parts.{wait_tree}
use Rattle.semantics.specs.Applying.{matches, tried}
use Rattle.next_inputs.specs.declared.lane.Lane.{Lane}
use Rattle.next_inputs.specs.declared.lane.Lane.TheVariants as lanes
use Rattle.next_inputs.specs.declared.offer.Offer.{Offer}
use Rattle.next_inputs.specs.declared.offer.Offer.TheVariants.{Nothing, Deposit, Choice, Notify, Leaves128}
use Rattle.next_inputs.specs.Taking.{number_of}
use Rattle.next_inputs.specs.Lanes.{Way, deposits, chooses, notifies, way, way_in, way_cmp}

-- ---- what stops an input

-- a case that the input matches, or in which a number leaves 128 bits
abbrev pub stops : Interval → StateMaps → Input → ActionTree → Bool
stops i s x k = if all_fit (tried i s x k) then matches i s x k else fits (number_of x)

-- the first case that passes a test, by its index
abbrev pub first_case : (ActionTree → Bool) → List (ActionTree × ContractTree) → Option ℕ
first_case p [] = None
first_case p (k ∷ ks) = if p k.0 then Some 0 else option_map suc (first_case p ks)

abbrev pub stop_case : Interval → StateMaps → Input → List (ActionTree × ContractTree) → Option ℕ
stop_case i s x = first_case (stops i s x)

-- what stops an input of a way with a number, where a notify may have any of 128 bits
abbrev pub stops_at : Interval → StateMaps → Way → ℤ → ActionTree → Bool
stops_at i s (deposits a p t) n = stops i s (inputs.Deposit a p t n)
stops_at i s (chooses id) n = stops i s (inputs.Choice id n)
stops_at i s notifies n = λ k. if fits n then stops i s inputs.Notify k else false

-- ---- what a case claims

abbrev pub all_numbers : Bound
all_numbers = record { from = neg_ℤ (pos (2 ^ 127)); to = pos 170141183460469231731687303715884105727 }

abbrev pub deposit_range : Bool → ℤ → Bound
deposit_range fit n = if fit then record { from = n; to = n } else all_numbers

abbrev pub notify_ranges : Bool → Bool → List Bound
notify_ranges fit is_true = if fit then (if is_true then all_numbers ∷ [] else []) else all_numbers ∷ []

abbrev pub range_of_deposit : Interval → StateMaps → ValueTree → Bound
range_of_deposit i s v = deposit_range (all_fit (visited i s v)) (eval i s v)

abbrev pub ranges_of_notify : Interval → StateMaps → ObservationTree → List Bound
ranges_of_notify i s o = notify_ranges (all_fit (looked i s o)) (holds i s o)

abbrev pub ranges : Interval → StateMaps → ActionTree → List Bound
ranges i s (deposit a p t v) = range_of_deposit i s v ∷ []
ranges i s (choice id bounds) = bounds
ranges i s (notify o) = ranges_of_notify i s o

abbrev pub claim_of : Lane → ℕ → Bound → Claim Lane
claim_of lane n b = record { lane = lane; from = b.from; to = b.to; by = n }

abbrev pub claims_for : Lane → ℕ → List Bound → List (Claim Lane)
claims_for lane n [] = []
claims_for lane n (b ∷ bs) = claim_of lane n b ∷ claims_for lane n bs

abbrev pub lane_of : {V O : Type 0} → Wait V O → Lane
lane_of (waits.Deposit a p t v) = lanes.Deposit a p t
lane_of (waits.Choice id bounds) = lanes.Choice id
lane_of (waits.Notify o) = lanes.Notify

-- the claims of a wait by a case, whose value or observation has a tree
abbrev pub claims_of_wait : {V O : Type 0} → (V → ValueTree) → (O → ObservationTree) → Interval → StateMaps → ℕ → Wait V O → List (Claim Lane)
claims_of_wait value_of observation_of i s n w = claims_for (lane_of w) n (ranges i s (wait_tree value_of observation_of w))

-- a test of lanes
abbrev pub is_way : Way → Lane → Bool
is_way w lane = eq_by_cmp way_cmp w (way lane)

-- a claim is one of a case
abbrev pub IsOf : List (ActionTree × ContractTree) → Claim Lane → Type 0
IsOf ks c = (k : ActionTree × ContractTree) × (slice_get ks c.by ≡ Some k) × (is_way (way_in k.0) c.lane ≡ true)

-- claims by these cases: a number of a way is first claimed by the case that stops an input of that way with that number
pub record AreClaims (i : Interval) (s : StateMaps) (ks : List (ActionTree × ContractTree)) (cs : List (Claim Lane)) : Type 0 where
  pub owners : (w : Way) (n : ℤ) → owner (is_way w) n cs ≡ first_case (stops_at i s w n) ks
  pub cases : AllByRecursion (IsOf ks) cs

-- ---- what a case gets

-- a bound behind others: one with the last, where no number lies between
abbrev pub put : List Bound → ℤ → ℤ → List Bound
put [] from to = record { from = from; to = to } ∷ []
put (b ∷ []) from to = if int_eq (b.to +ℤ pos 1) from then record { from = b.from; to = to } ∷ [] else b ∷ record { from = from; to = to } ∷ []
put (b ∷ c ∷ bs) from to = b ∷ put (c ∷ bs) from to

-- what the case at an index gets, behind what it has
abbrev pub gathered : List Bound → ℕ → List (Claim Lane) → List Bound
gathered bs n [] = bs
gathered bs n (c ∷ cs) = gathered (if c.by == n then put bs c.from c.to else bs) n cs

-- each case has what it gets
abbrev pub AreShares : List (List Bound) → List (Claim Lane) → Type 0
AreShares shares cs = (n : ℕ) (bs : List Bound) → slice_get shares n ≡ Some bs → bs ≡ gathered [] n cs

-- ---- what it offers

abbrev pub some_offer : Interval → StateMaps → ActionTree → List Bound → Offer
some_offer i s (deposit a p t v) bs = if all_fit (visited i s v) then Deposit (eval i s v) else Leaves128
some_offer i s (choice id bounds) bs = Choice bs
some_offer i s (notify o) bs = if all_fit (looked i s o) then Notify else Leaves128

abbrev pub offer_of : Interval → StateMaps → ActionTree → List Bound → Offer
offer_of i s k [] = Nothing
offer_of i s k (b ∷ bs) = some_offer i s k (b ∷ bs)

abbrev pub offers_of : Interval → StateMaps → List (ActionTree × ContractTree) → List (List Bound) → List Offer
offers_of i s [] shares = []
offers_of i s (k ∷ ks) [] = []
offers_of i s (k ∷ ks) (bs ∷ shares) = offer_of i s k.0 bs ∷ offers_of i s ks shares

-- a claim is by one of so many
abbrev pub IsBy : ℕ → Claim Lane → Type 0
IsBy count c = c.by < count
