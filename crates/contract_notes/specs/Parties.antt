-- Parties, by the places at which a contract names them.
use Rattle.std.specs.Prelude.{Bool, if◌then◌else◌, is_some, List, [], ◌∷◌, ◌++◌}
use Rattle.std.specs.FinMap.Entries.{find, put}
use Rattle.contract.specs.Names.Orders.{party_cmp}
use Rattle.contract.specs.Names.declared.party.Party.{Party}
use Rattle.contract.specs.Names.declared.payee.Payee.{Payee}
use Rattle.contract.specs.Names.declared.payee.Payee.TheVariants as payees
use Rattle.contract.specs.Tree.{ValueTree, available_money, constant, neg_value, add_value, sub_value, mul_value, div_value, choice_value, time_interval_start, time_interval_end, use_value, cond_value}
use Rattle.contract.specs.Tree.{ObservationTree, and_obs, or_obs, not_obs, chose_something, value_ge, value_gt, value_lt, value_le, value_eq, true_obs, false_obs}
use Rattle.contract.specs.Tree.{ActionTree, deposit, choice, notify, ContractTree, CaseTrees, close, pay, if_obs, when, let_be, assert, no_cases, case_then}

abbrev pub payee_party : Payee → Party
payee_party (payees.Account p) = p
payee_party (payees.Party p) = p

abbrev mutual
  -- the parties that a value names, in order
  pub parties_of : ValueTree → List Party
  parties_of (available_money p t) = p ∷ []
  parties_of (constant n) = []
  parties_of (neg_value v) = parties_of v
  parties_of (add_value v w) = parties_of v ++ parties_of w
  parties_of (sub_value v w) = parties_of v ++ parties_of w
  parties_of (mul_value v w) = parties_of v ++ parties_of w
  parties_of (div_value v w) = parties_of v ++ parties_of w
  parties_of (choice_value id) = id.owner ∷ []
  parties_of time_interval_start = []
  parties_of time_interval_end = []
  parties_of (use_value x) = []
  parties_of (cond_value o v w) = parties_in o ++ (parties_of v ++ parties_of w)

  -- .. an observation
  pub parties_in : ObservationTree → List Party
  parties_in (and_obs o q) = parties_in o ++ parties_in q
  parties_in (or_obs o q) = parties_in o ++ parties_in q
  parties_in (not_obs o) = parties_in o
  parties_in (chose_something id) = id.owner ∷ []
  parties_in (value_ge v w) = parties_of v ++ parties_of w
  parties_in (value_gt v w) = parties_of v ++ parties_of w
  parties_in (value_lt v w) = parties_of v ++ parties_of w
  parties_in (value_le v w) = parties_of v ++ parties_of w
  parties_in (value_eq v w) = parties_of v ++ parties_of w
  parties_in true_obs = []
  parties_in false_obs = []

-- .. what a case waits for
abbrev pub parties_awaited : ActionTree → List Party
parties_awaited (deposit q p t v) = q ∷ p ∷ parties_of v
parties_awaited (choice id bounds) = id.owner ∷ []
parties_awaited (notify o) = parties_in o

abbrev mutual
  -- .. a contract
  pub parties_named : ContractTree → List Party
  parties_named close = []
  parties_named (pay p y t v c) = p ∷ payee_party y ∷ (parties_of v ++ parties_named c)
  parties_named (if_obs o c d) = parties_in o ++ (parties_named c ++ parties_named d)
  parties_named (when ks t c) = parties_by ks ++ parties_named c
  parties_named (let_be x v c) = parties_of v ++ parties_named c
  parties_named (assert o c) = parties_in o ++ parties_named c

  pub parties_by : CaseTrees → List Party
  parties_by no_cases = []
  parties_by (case_then a c ks) = (parties_awaited a ++ parties_named c) ++ parties_by ks

-- ---- those that are named once

-- parties that were seen, each with whether it was seen again
abbrev pub Seen : Type 0
Seen = List (Party × Bool)

abbrev pub tallied : Party → Seen → Seen
tallied p seen = put party_cmp p (is_some (find party_cmp p seen)) seen

abbrev pub tally : Seen → List Party → Seen
tally seen [] = seen
tally seen (p ∷ ps) = tally (tallied p seen) ps

abbrev pub not_again : Seen → List Party
not_again [] = []
not_again ((p, again) ∷ seen) = if again then not_again seen else p ∷ not_again seen

abbrev pub once_of : List Party → List Party
once_of ps = not_again (tally [] ps)
