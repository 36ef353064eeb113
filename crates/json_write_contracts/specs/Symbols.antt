-- Currency symbols are made of bytes. The types of the code see to that; a tree of specs/ could hold any number there.
use Rattle.std.specs.Prelude.{⊤, List, [], ◌∷◌}
use Rattle.hex.specs.Hex.{IsBytes}
use Rattle.contract.specs.Tree.{ValueTree, available_money, constant, neg_value, add_value, sub_value, mul_value, div_value, choice_value, time_interval_start, time_interval_end, use_value, cond_value}
use Rattle.contract.specs.Tree.{ObservationTree, and_obs, or_obs, not_obs, chose_something, value_ge, value_gt, value_lt, value_le, value_eq, true_obs, false_obs}
use Rattle.contract.specs.Tree.{ActionTree, deposit, choice, notify, ContractTree, close, pay, if_obs, when, let_be, assert, CaseTrees, no_cases, case_then}

abbrev mutual
  pub ValueSymbols : ValueTree → Type 0
  ValueSymbols (available_money p t) = IsBytes t.symbol
  ValueSymbols (constant n) = ⊤
  ValueSymbols (neg_value v) = ValueSymbols v
  ValueSymbols (add_value v w) = ValueSymbols v × ValueSymbols w
  ValueSymbols (sub_value v w) = ValueSymbols v × ValueSymbols w
  ValueSymbols (mul_value v w) = ValueSymbols v × ValueSymbols w
  ValueSymbols (div_value v w) = ValueSymbols v × ValueSymbols w
  ValueSymbols (choice_value id) = ⊤
  ValueSymbols time_interval_start = ⊤
  ValueSymbols time_interval_end = ⊤
  ValueSymbols (use_value x) = ⊤
  ValueSymbols (cond_value o v w) = ObservationSymbols o × (ValueSymbols v × ValueSymbols w)

  pub ObservationSymbols : ObservationTree → Type 0
  ObservationSymbols (and_obs o p) = ObservationSymbols o × ObservationSymbols p
  ObservationSymbols (or_obs o p) = ObservationSymbols o × ObservationSymbols p
  ObservationSymbols (not_obs o) = ObservationSymbols o
  ObservationSymbols (chose_something id) = ⊤
  ObservationSymbols (value_ge v w) = ValueSymbols v × ValueSymbols w
  ObservationSymbols (value_gt v w) = ValueSymbols v × ValueSymbols w
  ObservationSymbols (value_lt v w) = ValueSymbols v × ValueSymbols w
  ObservationSymbols (value_le v w) = ValueSymbols v × ValueSymbols w
  ObservationSymbols (value_eq v w) = ValueSymbols v × ValueSymbols w
  ObservationSymbols true_obs = ⊤
  ObservationSymbols false_obs = ⊤

abbrev pub ActionSymbols : ActionTree → Type 0
ActionSymbols (deposit a p t v) = IsBytes t.symbol × ValueSymbols v
ActionSymbols (choice id bounds) = ⊤
ActionSymbols (notify o) = ObservationSymbols o

abbrev mutual
  pub ContractSymbols : ContractTree → Type 0
  ContractSymbols close = ⊤
  ContractSymbols (pay a p t v c) = IsBytes t.symbol × (ValueSymbols v × ContractSymbols c)
  ContractSymbols (if_obs o c d) = ObservationSymbols o × (ContractSymbols c × ContractSymbols d)
  ContractSymbols (when ks t c) = CasesSymbols ks × ContractSymbols c
  ContractSymbols (let_be x v c) = ValueSymbols v × ContractSymbols c
  ContractSymbols (assert o c) = ObservationSymbols o × ContractSymbols c

  pub CasesSymbols : CaseTrees → Type 0
  CasesSymbols no_cases = ⊤
  CasesSymbols (case_then a c ks) = (ActionSymbols a × ContractSymbols c) × CasesSymbols ks

abbrev pub CaseSymbols : ActionTree × ContractTree → Type 0
CaseSymbols k = ActionSymbols k.0 × ContractSymbols k.1

-- the same of the cases in a list, which no reader needs: it serves the proofs of this crate
abbrev pub ListSymbols : List (ActionTree × ContractTree) → Type 0
ListSymbols [] = ⊤
ListSymbols (k ∷ ks) = CaseSymbols k × ListSymbols ks
