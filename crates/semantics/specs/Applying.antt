-- One input (Marlowe specification version 3, "Apply input" and "Apply cases").
use Rattle.std.specs.Prelude.{◌≡◌, ℕ, suc, ◌<◌, ℤ, pos, ◌+ℤ◌, int_le, int_lt, Bool, true, false, ◌&&◌, List, [], ◌∷◌, ◌++◌, take, slice_get, if◌then◌else◌, ◌⊎◌, Some, Result, Ok, Err}
use Rattle.std.specs.List.{list_any}
use Rattle.std.specs.Ordering.{int_eq}
use Rattle.std.specs.FinMap.{insert}
use Rattle.contract.specs.Names.Equal.{same_party, same_token, same_choice_id}
use Rattle.contract.specs.Names.declared.party.Party.{Party}
use Rattle.contract.specs.Names.declared.token.Token.{Token}
use Rattle.contract.specs.Names.declared.bound.Bound.{Bound}
use Rattle.contract.specs.declared.fault.SemFault.{SemFault}
use Rattle.contract.specs.declared.fault.SemFault.TheVariants.{NoMatch}
use Rattle.contract.specs.declared.input.Input.{Input}
use Rattle.contract.specs.declared.input.Input.TheVariants.{Deposit, Choice, Notify}
use Rattle.contract.specs.declared.interval.Interval.{Interval}
use Rattle.contract.specs.declared.warning.Warning.{Warning}
use Rattle.contract.specs.declared.warning.Warning.TheVariants.{NonPositiveDeposit}
use Rattle.contract.specs.States.States.{StateMaps, with_money}
use Rattle.contract.specs.Tree.{ActionTree, deposit, choice, notify, ContractTree}
use Rattle.evaluation.specs.Numbers.{within}
use Rattle.evaluation.specs.Evaluation.{eval, visited, holds, looked}
use Rattle.semantics.specs.Reduction.{account_of, balance}
use Rattle.semantics.specs.Walk.{in_case, Standing, standing, Walk}
use Rattle.evaluation.specs.Path.{waits_for}

-- account, party and token of a deposit are those of a case
abbrev pub agrees : Party → Party → Token → Party → Party → Token → Bool
agrees a p t b q u = same_party a b && (same_party p q && same_token t u)

-- a number lies in a bound, ends included
abbrev pub in_bound : ℤ → Bound → Bool
in_bound n b = int_le b.from n && int_le n b.to

-- an input matches an action
abbrev pub matches : Interval → StateMaps → Input → ActionTree → Bool
matches i s (Deposit a p t n) (deposit b q u v) = agrees a p t b q u && int_eq n (eval i s v)
matches i s (Choice id n) (choice jd bounds) = same_choice_id id jd && list_any (in_bound n) bounds
matches i s Notify (notify o) = holds i s o
matches i s _ _ = false

-- the numbers that are visited when an action is tried: none unless it is of the input's kind, and of
-- a deposit none unless account, party and token agree
abbrev pub tried : Interval → StateMaps → Input → ActionTree → List ℤ
tried i s (Deposit a p t n) (deposit b q u v) = if agrees a p t b q u then visited i s v else []
tried i s Notify (notify o) = looked i s o
tried i s _ _ = []

-- whether it matches, where all of these fit
abbrev pub matches_within : Interval → StateMaps → Input → ActionTree → Result Bool SemFault
matches_within i s x k = within (tried i s x k) (matches i s x k)

-- the numbers that are visited when all of these cases are tried
abbrev pub all_tried : Interval → StateMaps → Input → List (ActionTree × ContractTree) → List ℤ
all_tried i s x [] = []
all_tried i s x (k ∷ ks) = tried i s x k.0 ++ all_tried i s x ks

-- the case at the place matches, and none before it does
pub record IsFirstMatch (i : Interval) (s : StateMaps) (x : Input) (ks : List (ActionTree × ContractTree)) (n : ℕ) (k : ActionTree × ContractTree) : Type 0 where
  pub stands : slice_get ks n ≡ Some k
  pub matched : matches i s x k.0 ≡ true
  pub first : (m : ℕ) (j : ActionTree × ContractTree) → m < n → slice_get ks m ≡ Some j → matches i s x j.0 ≡ false

-- no case matches
abbrev pub NoneMatches : Interval → StateMaps → Input → List (ActionTree × ContractTree) → Type 0
NoneMatches i s x ks = (m : ℕ) (j : ActionTree × ContractTree) → slice_get ks m ≡ Some j → matches i s x j.0 ≡ false

-- what an input does to the state, the sums that it makes, and what it warns of
abbrev pub taken : StateMaps → Input → StateMaps
taken s (Deposit a p t n) = if int_lt (pos 0) n then with_money s (account_of a t) (balance s a t +ℤ n) else s
taken s (Choice id n) = record s { choices = insert s.choices id n }
taken s Notify = s

abbrev pub taken_numbers : StateMaps → Input → List ℤ
taken_numbers s (Deposit a p t n) = if int_lt (pos 0) n then (balance s a t +ℤ n) ∷ [] else []
taken_numbers s _ = []

abbrev pub taken_warnings : Input → List Warning
taken_warnings (Deposit a p t n) = if int_lt (pos 0) n then [] else NonPositiveDeposit a p t n ∷ []
taken_warnings _ = []

-- the case at a place is taken
abbrev pub taking : StateMaps → Input → List ℤ → ℕ → ContractTree → Walk
taking s x ns n c = record { numbers = ns ++ taken_numbers s x; warnings = taken_warnings x; payments = []; turns = in_case n ∷ []; end = Ok (standing (taken s x) c) }

-- no case is taken
abbrev pub unmatched : List ℤ → Walk
unmatched ns = record { numbers = ns; warnings = []; payments = []; turns = []; end = Err NoMatch }

-- an input applies so: the first case that matches is taken, where there is one
abbrev pub Applies : Interval → Input → Standing → Walk → Type 0
Applies i x a w =
    ((n : ℕ) × (k : ActionTree × ContractTree) × IsFirstMatch i a.state x (waits_for a.contract) n k
    × (w ≡ taking a.state x (all_tried i a.state x (take (suc n) (waits_for a.contract))) n k.1))
    ⊎ (NoneMatches i a.state x (waits_for a.contract) × (w ≡ unmatched (all_tried i a.state x (waits_for a.contract))))
