-- A part of a contract that can be written can be written.
use Rattle.std.proofs.Common.{◌≡◌, ℕ, zero, suc, true, ◌&&◌, List, [], ◌∷◌, Option, Some, None, refl, subst}
use Rattle.std.specs.Prelude.{slice_get, option_map}
use Rattle.std.specs.Option.{option_and_then}
use Rattle.std.proofs.lemmas.Bool.{and_parts}
use Rattle.contract.specs.Tree.{ContractTree, close, pay, if_obs, when, let_be, assert, CaseTrees, no_cases, case_then}
use Rattle.semantics.specs.Evaluation.Path.{Turn, refund, next, then_branch, else_branch, timed_out, in_case, case_list, part, along}
use Rattle.json_write_contracts.specs.WrittenNames.{time_fits}
use Rattle.json_write_contracts.specs.WrittenValues.{value_fits, observation_fits}
use Rattle.json_write_contracts.specs.WrittenContract.{action_fits, contract_fits, cases_fit}

-- where there is a part, it can be written
abbrev Fit : Option ContractTree → Type 0
Fit None = Unit {0}
Fit (Some c) = contract_fits c ≡ true

case-fits : (ks : CaseTrees) (n : ℕ) → cases_fit ks ≡ true → Fit (option_map (λ k. k.1) (slice_get (case_list ks) n))
case-fits no_cases n h = tt
case-fits (case_then a c ks) zero h = (and_parts (action_fits a) (contract_fits c) (and_parts (action_fits a && contract_fits c) (cases_fit ks) h).0).1
case-fits (case_then a c ks) (suc n) h = case-fits ks n (and_parts (action_fits a && contract_fits c) (cases_fit ks) h).1

part-fits : (c : ContractTree) (t : Turn) → contract_fits c ≡ true → Fit (part c t)
part-fits close refund h = refl
part-fits (pay p y t v c) next h = (and_parts (value_fits v) (contract_fits c) h).1
part-fits (let_be x v c) next h = (and_parts (value_fits v) (contract_fits c) h).1
part-fits (assert o c) next h = (and_parts (observation_fits o) (contract_fits c) h).1
part-fits (if_obs o c d) then_branch h = (and_parts (observation_fits o) (contract_fits c) (and_parts (observation_fits o && contract_fits c) (contract_fits d) h).0).1
part-fits (if_obs o c d) else_branch h = (and_parts (observation_fits o && contract_fits c) (contract_fits d) h).1
part-fits (when ks t c) timed_out h = (and_parts (cases_fit ks && time_fits t) (contract_fits c) h).1
part-fits (when ks t c) (in_case n) h = case-fits ks n (and_parts (cases_fit ks) (time_fits t) (and_parts (cases_fit ks && time_fits t) (contract_fits c) h).0).0
part-fits _ _ h = tt

-- a part, and where further turns lead from it
from-part : (o : Option ContractTree) (ts : List Turn) → Fit o → ((c : ContractTree) → contract_fits c ≡ true → Fit (along c ts)) → Fit (option_and_then (λ d. along d ts) o)
from-part None ts h k = tt
from-part (Some c) ts h k = k c h

along-fits : (ts : List Turn) (c : ContractTree) → contract_fits c ≡ true → Fit (along c ts)
along-fits [] c h = h
along-fits (t ∷ ts) c h = from-part (part c t) ts (part-fits c t h) (λ d. along-fits ts d)

-- turns lead from a contract that can be written to one that can
pub parts-fit : (c : ContractTree) (ts : List Turn) (d : ContractTree) → contract_fits c ≡ true → along c ts ≡ Some d → contract_fits d ≡ true
parts-fit c ts d h e = subst Fit e (along-fits ts c h)

pub ruleset parts_fit = parts-fit
