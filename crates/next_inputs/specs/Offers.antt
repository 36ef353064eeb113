-- What the cases of a contract offer to the next input: exactly the inputs that they take.
use Rattle.std.specs.Prelude.{◌≡◌, ◌≢◌, ◌↔◌, ℕ, zero, suc, ℤ, pos, ◌+ℤ◌, ◌≤ℤ◌, ◌<ℤ◌, Bool, true, false, ◌&&◌, List, [], ◌∷◌, length, slice_get, Some}
use Rattle.std.specs.List.{list_any, AllByRecursion}
use Rattle.std.specs.Ordering.{int_eq}
use Rattle.contract.specs.Names.Equal.{same_choice_id}
use Rattle.contract.specs.Names.declared.bound.Bound.{Bound}
use Rattle.contract.specs.declared.input.Input.{Input}
use Rattle.contract.specs.declared.input.Input.TheVariants as inputs
use Rattle.contract.specs.declared.interval.Interval.{Interval}
use Rattle.contract.specs.declared.outcome.Outcome.{Outcome}
use Rattle.contract.specs.States.States.{StateMaps}
use Rattle.contract.specs.Tree.{ActionTree, deposit, choice, notify, ContractTree}
use Rattle.semantics.specs.Evaluation.Numbers.{fits}
use Rattle.semantics.specs.Evaluation.Path.{waits_for}
use Rattle.semantics.specs.Applying.{agrees, in_bound}
use Rattle.next_inputs.specs.declared.offer.Offer.{Offer}
use Rattle.next_inputs.specs.declared.offer.Offer.TheVariants.{Nothing, Deposit, Choice, Notify, Leaves128}
use Rattle.next_inputs.specs.Taking.{taken_case, leaving_case, number_of}
use Rattle.next_inputs.specs.Opening.{next_case}

-- an offer of an action has the input: a deposit of that amount, a choice of a number in the bounds, or a notify
abbrev pub has : ActionTree → Offer → Input → Bool
has (deposit b q u v) (Deposit m) (inputs.Deposit a p t n) = agrees a p t b q u && int_eq n m
has (choice jd numbers) (Choice bounds) (inputs.Choice id n) = same_choice_id id jd && list_any (in_bound n) bounds
has (notify o) Notify inputs.Notify = true
has k f x = false

-- the offer of the case at an index has it
abbrev pub offered : List (ActionTree × ContractTree) → List Offer → ℕ → Input → Bool
offered [] fs n x = false
offered (k ∷ ks) [] n x = false
offered (k ∷ ks) (f ∷ fs) zero x = has k.0 f x
offered (k ∷ ks) (f ∷ fs) (suc n) x = offered ks fs n x

-- bounds that aren't empty, with a number between each and the next
abbrev pub AreApart : List Bound → Type 0
AreApart [] = Unit {0}
AreApart (b ∷ []) = b.from ≤ℤ b.to
AreApart (b ∷ c ∷ bs) = (b.from ≤ℤ b.to) × ((b.to +ℤ pos 1) <ℤ c.from) × AreApart (c ∷ bs)

abbrev pub IsLaidOut : Offer → Type 0
IsLaidOut (Choice bounds) = (bounds ≢ []) × AreApart bounds
IsLaidOut f = Unit {0}

-- each case offers just the inputs that it takes. Leaves128 is told where some input that can be made comes to the case
-- and a number of the case leaves 128 bits
pub record AreOffers (i : Interval) (s : StateMaps) (ks : List (ActionTree × ContractTree)) (fs : List Offer) : Type 0 where
  pub each : length fs ≡ length ks
  pub exact : (x : Input) (n : ℕ) → (offered ks fs n x ≡ true) ↔ (taken_case i s x ks ≡ Some n)
  pub leaving : (n : ℕ) → (slice_get fs n ≡ Some Leaves128) ↔ ((x : Input) × (fits (number_of x) ≡ true) × (leaving_case i s x ks ≡ Some n))
  pub laid_out : AllByRecursion IsLaidOut fs

-- .. the cases of the contract that an outcome leaves, whose place has a tree
abbrev pub AreOffersAt : {P : Type 0} → (P → ContractTree) → Interval → Outcome P → List Offer → Type 0
AreOffersAt tree i o fs = AreOffers i o.state (waits_for (tree o.place)) fs

-- a case of what is left offers an input just where that input, alone in a transaction over the interval, takes the case
abbrev pub OffersWhatIsTaken : {P : Type 0} → (P → ContractTree) → Interval → StateMaps → P → Outcome P → List Offer → Type 0
OffersWhatIsTaken tree i s from o fs = (x : Input) (n : ℕ) → (offered (waits_for (tree o.place)) fs n x ≡ true) ↔ (next_case i s (tree from) x ≡ Some n)
