-- What is noted of names and choices, in the order of the contract.
use Rattle.std.specs.Prelude.{ℕ, zero, suc, ℤ, int_lt, Bool, false, not, ◌&&◌, ◌||◌, if◌then◌else◌, is_some, List, [], ◌∷◌, ◌++◌, map, Option, Some, None}
use Rattle.std.specs.List.{list_any, list_all}
use Rattle.std.specs.Ordering.{int_eq}
use Rattle.std.specs.FinMap.{get}
use Rattle.contract.specs.Names.declared.bound.Bound.{Bound}
use Rattle.contract.specs.Tree.{ValueTree, available_money, constant, neg_value, add_value, sub_value, mul_value, div_value, choice_value, time_interval_start, time_interval_end, use_value, cond_value}
use Rattle.contract.specs.Tree.{ObservationTree, and_obs, or_obs, not_obs, chose_something, value_ge, value_gt, value_lt, value_le, value_eq, true_obs, false_obs}
use Rattle.contract.specs.Tree.{ActionTree, deposit, choice, notify, ContractTree, CaseTrees, close, pay, if_obs, when, let_be, assert, no_cases, case_then}
use Rattle.contract.specs.States.States.{StateMaps}
use Rattle.analysis_spec.specs.declared.path.PathStep.{PathStep}
use Rattle.analysis_spec.specs.declared.path.PathStep.TheVariants.{Then, Else, TimeoutContinuation, Case, Action}
use Rattle.analysis_spec.specs.Places.{part_behind}
use Rattle.contract_notes.specs.declared.note.Source.{Source}
use Rattle.contract_notes.specs.declared.note.Source.TheVariants.{Name, Choice}
use Rattle.contract_notes.specs.declared.note.Remark.TheVariants.{Unbound, Unread}
use Rattle.contract_notes.specs.declared.note.Note.{Note}
use Rattle.contract_notes.specs.Reads.{same_source, is_read_in}

-- ---- what is bound or made on the way to a place

-- a state has it
abbrev pub has : StateMaps → Source → Bool
has s (Name x) = is_some (get s.bound_values x)
has s (Choice id) = is_some (get s.choices id)

-- what a case waits for makes it
abbrev pub makes_it : Source → ActionTree → Bool
makes_it a (deposit q p t v) = false
makes_it a (choice id bounds) = same_source a (Choice id)
makes_it a (notify o) = false

-- the case at an index does
abbrev pub makes : Source → CaseTrees → ℕ → Bool
makes a no_cases n = false
makes a (case_then b c ks) zero = makes_it a b
makes a (case_then b c ks) (suc n) = makes a ks n

-- a step from a contract binds or makes it
abbrev pub gives : Source → ContractTree → PathStep → Bool
gives a (let_be x v c) Then = same_source a (Name x)
gives a (when ks t c) (Case n) = makes a ks n
gives a c step = false

-- some step of a path does
abbrev pub is_given_along : Source → Option ContractTree → List PathStep → Bool
is_given_along a None steps = false
is_given_along a (Some c) [] = false
is_given_along a (Some c) (step ∷ steps) = gives a c step || is_given_along a (part_behind c step) steps

-- it isn't missing at a place: the start state has it, or the way from the root gives it
abbrev pub is_known : StateMaps → ContractTree → List PathStep → Source → Bool
is_known s root here a = has s a || is_given_along a (Some root) here

-- ---- what is read and missing, each once, in the order in which it is read

abbrev pub with_missing : (Source → Bool) → List Source → Source → List Source
with_missing known found a = if known a || list_any (same_source a) found then found else found ++ a ∷ []

abbrev mutual
  pub missing : (Source → Bool) → List Source → ValueTree → List Source
  missing k found (available_money p t) = found
  missing k found (constant n) = found
  missing k found (neg_value v) = missing k found v
  missing k found (add_value v w) = missing k (missing k found v) w
  missing k found (sub_value v w) = missing k (missing k found v) w
  missing k found (mul_value v w) = missing k (missing k found v) w
  missing k found (div_value v w) = missing k (missing k found v) w
  missing k found (choice_value id) = with_missing k found (Choice id)
  missing k found time_interval_start = found
  missing k found time_interval_end = found
  missing k found (use_value x) = with_missing k found (Name x)
  missing k found (cond_value o v w) = missing k (missing k (missing_in k found o) v) w

  pub missing_in : (Source → Bool) → List Source → ObservationTree → List Source
  missing_in k found (and_obs o q) = missing_in k (missing_in k found o) q
  missing_in k found (or_obs o q) = missing_in k (missing_in k found o) q
  missing_in k found (not_obs o) = missing_in k found o
  missing_in k found (chose_something id) = found
  missing_in k found (value_ge v w) = missing k (missing k found v) w
  missing_in k found (value_gt v w) = missing k (missing k found v) w
  missing_in k found (value_lt v w) = missing k (missing k found v) w
  missing_in k found (value_le v w) = missing k (missing k found v) w
  missing_in k found (value_eq v w) = missing k (missing k found v) w
  missing_in k found true_obs = found
  missing_in k found false_obs = found

-- ---- choices of more than one number

-- a bound holds no other number than this
abbrev pub holds_only : ℤ → Bound → Bool
holds_only n b = int_lt b.to b.from || (int_eq b.from n && int_eq b.to n)

-- the first number of the first bound that has one
abbrev pub first_number : List Bound → Option ℤ
first_number [] = None
first_number (b ∷ bs) = if int_lt b.to b.from then first_number bs else Some b.from

-- some bound holds another number than that
abbrev pub is_varied_from : Option ℤ → List Bound → Bool
is_varied_from None bs = false
is_varied_from (Some n) bs = not (list_all (holds_only n) bs)

abbrev pub is_varied : List Bound → Bool
is_varied bs = is_varied_from (first_number bs) bs

-- ---- notes

abbrev pub unbound_at : List PathStep → List Source → List Note
unbound_at at found = map (λ a. let n : Note = record { place = at; remark = Unbound a } in n) found

-- where nothing behind reads it
abbrev pub unread_at : List PathStep → Source → ContractTree → List Note
unread_at at a c = if is_read_in a c then [] else (let n : Note = record { place = at; remark = Unread a } in n ∷ [])

-- of what a case waits for, and of the choice that it makes
abbrev pub action_notes : (Source → Bool) → List PathStep → ActionTree → ContractTree → List Note
action_notes k at (deposit q p t v) c = unbound_at at (missing k [] v)
action_notes k at (choice id bounds) c = if is_varied bounds then unread_at at (Choice id) c else []
action_notes k at (notify o) c = unbound_at at (missing_in k [] o)

module _ (s : StateMaps) (root : ContractTree) where
  abbrev mutual
    -- of a part to which a path leads, and of all that lies in it
    pub notes_in : List PathStep → ContractTree → List Note
    notes_in here close = []
    notes_in here (pay p y t v c) = unbound_at here (missing (is_known s root here) [] v) ++ notes_in (here ++ Then ∷ []) c
    notes_in here (if_obs o c d) = unbound_at here (missing_in (is_known s root here) [] o) ++ (notes_in (here ++ Then ∷ []) c ++ notes_in (here ++ Else ∷ []) d)
    notes_in here (when ks t c) = notes_of_cases here 0 ks ++ notes_in (here ++ TimeoutContinuation ∷ []) c
    notes_in here (let_be x v c) = unbound_at here (missing (is_known s root here) [] v) ++ (unread_at here (Name x) c ++ notes_in (here ++ Then ∷ []) c)
    notes_in here (assert o c) = unbound_at here (missing_in (is_known s root here) [] o) ++ notes_in (here ++ Then ∷ []) c

    -- of cases from an index on
    pub notes_of_cases : List PathStep → ℕ → CaseTrees → List Note
    notes_of_cases here n no_cases = []
    notes_of_cases here n (case_then a c ks) =
        action_notes (is_known s root here) (here ++ Action n ∷ []) a c ++ (notes_in (here ++ Case n ∷ []) c ++ notes_of_cases here (suc n) ks)

-- of a contract that starts in a state
abbrev pub notes_of : StateMaps → ContractTree → List Note
notes_of s c = notes_in s c [] c
