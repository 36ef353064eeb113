-- What reads the number of a name or of a choice, told along values, observations and contracts. That a choice was made
-- (`chose_something`) doesn't read its number.
use Rattle.std.specs.Prelude.{Bool, false, ◌||◌}
use Rattle.contract.specs.Names.Equal.{same_text, same_choice_id}
use Rattle.contract.specs.Tree.{ValueTree, available_money, constant, neg_value, add_value, sub_value, mul_value, div_value, choice_value, time_interval_start, time_interval_end, use_value, cond_value}
use Rattle.contract.specs.Tree.{ObservationTree, and_obs, or_obs, not_obs, chose_something, value_ge, value_gt, value_lt, value_le, value_eq, true_obs, false_obs}
use Rattle.contract.specs.Tree.{ActionTree, deposit, choice, notify, ContractTree, CaseTrees, close, pay, if_obs, when, let_be, assert, no_cases, case_then}
use Rattle.contract_notes.specs.declared.note.Source.{Source}
use Rattle.contract_notes.specs.declared.note.Source.TheVariants.{Name, Choice}

abbrev pub same_source : Source → Source → Bool
same_source (Name x) (Name y) = same_text x y
same_source (Choice i) (Choice j) = same_choice_id i j
same_source (Name x) (Choice j) = false
same_source (Choice i) (Name y) = false

abbrev mutual
  -- a value reads it
  pub reads : Source → ValueTree → Bool
  reads a (available_money p t) = false
  reads a (constant n) = false
  reads a (neg_value v) = reads a v
  reads a (add_value v w) = reads a v || reads a w
  reads a (sub_value v w) = reads a v || reads a w
  reads a (mul_value v w) = reads a v || reads a w
  reads a (div_value v w) = reads a v || reads a w
  reads a (choice_value id) = same_source a (Choice id)
  reads a time_interval_start = false
  reads a time_interval_end = false
  reads a (use_value x) = same_source a (Name x)
  reads a (cond_value o v w) = looks_at a o || (reads a v || reads a w)

  -- an observation does
  pub looks_at : Source → ObservationTree → Bool
  looks_at a (and_obs o q) = looks_at a o || looks_at a q
  looks_at a (or_obs o q) = looks_at a o || looks_at a q
  looks_at a (not_obs o) = looks_at a o
  looks_at a (chose_something id) = false
  looks_at a (value_ge v w) = reads a v || reads a w
  looks_at a (value_gt v w) = reads a v || reads a w
  looks_at a (value_lt v w) = reads a v || reads a w
  looks_at a (value_le v w) = reads a v || reads a w
  looks_at a (value_eq v w) = reads a v || reads a w
  looks_at a true_obs = false
  looks_at a false_obs = false

-- what a case waits for does
abbrev pub waits_on : Source → ActionTree → Bool
waits_on a (deposit q p t v) = reads a v
waits_on a (choice id bounds) = false
waits_on a (notify o) = looks_at a o

abbrev mutual
  -- some place of a contract does
  pub is_read_in : Source → ContractTree → Bool
  is_read_in a close = false
  is_read_in a (pay p y t v c) = reads a v || is_read_in a c
  is_read_in a (if_obs o c d) = looks_at a o || (is_read_in a c || is_read_in a d)
  is_read_in a (when ks t c) = is_read_by a ks || is_read_in a c
  is_read_in a (let_be x v c) = reads a v || is_read_in a c
  is_read_in a (assert o c) = looks_at a o || is_read_in a c

  -- some case of a When does, or what follows it
  pub is_read_by : Source → CaseTrees → Bool
  is_read_by a no_cases = false
  is_read_by a (case_then b c ks) = (waits_on a b || is_read_in a c) || is_read_by a ks
