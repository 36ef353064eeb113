-- The way to a place in the text of a contract.
use Rattle.std.specs.Prelude.{ℕ, zero, suc, List, [], ◌∷◌, ◌++◌, flat_map, Option, Some, None}
use Rattle.contract.specs.Tree.{ActionTree, deposit, choice, notify, ContractTree, CaseTrees, close, pay, if_obs, when, let_be, assert, no_cases, case_then}
use Rattle.analysis_spec.specs.declared.path.PathStep.{PathStep}
use Rattle.analysis_spec.specs.declared.path.PathStep.TheVariants as steps
use Rattle.analysis_spec.specs.Places.{part_behind}
use Rattle.places.specs.declared.key.Key.{Key}
use Rattle.places.specs.declared.key.Key.TheVariants as keys

-- the keys of a step
abbrev pub step_keys : PathStep → List Key
step_keys steps.Then = keys.Then ∷ []
step_keys steps.Else = keys.Else ∷ []
step_keys steps.TimeoutContinuation = keys.TimeoutContinuation ∷ []
step_keys (steps.Case n) = keys.When ∷ keys.Item n ∷ keys.Then ∷ []
step_keys (steps.Action n) = keys.When ∷ keys.Item n ∷ keys.Case ∷ []

-- those of a path
abbrev pub path_keys : List PathStep → List Key
path_keys = flat_map step_keys

-- the first key of a contract's form; Close, which has none, is told by its name
abbrev pub form_key : ContractTree → Key
form_key close = keys.Close
form_key (pay p y t v c) = keys.Pay
form_key (if_obs o c d) = keys.If
form_key (when ks t c) = keys.When
form_key (let_be x v c) = keys.Let
form_key (assert o c) = keys.Assert

-- that of the action of a case, if there is such a case
abbrev pub action_key : ActionTree → Key
action_key (deposit a p t v) = keys.Deposits
action_key (choice id bounds) = keys.ChooseBetween
action_key (notify o) = keys.NotifyIf

abbrev pub case_key : CaseTrees → ℕ → List Key
case_key no_cases n = []
case_key (case_then a c ks) zero = action_key a ∷ []
case_key (case_then a c ks) (suc n) = case_key ks n

abbrev pub last_key : ContractTree → PathStep → List Key
last_key (when ks t c) (steps.Action n) = case_key ks n
last_key c step = []

-- the keys behind a step: those of the part that it leads to, or the last one
abbrev pub keys_behind : (ContractTree → List Key) → List Key → Option ContractTree → List Key
keys_behind f last None = last
keys_behind f last (Some c) = f c

-- the keys that lead to a place, and the first one of the form that stands there
abbrev pub keys_of : List PathStep → ContractTree → List Key
keys_of [] c = form_key c ∷ []
keys_of (step ∷ place) c = step_keys step ++ keys_behind (keys_of place) (last_key c step) (part_behind c step)
