-- The marks of a transaction have all its numbers and warnings, in order.
use Rattle.std.proofs.Common.{◌≡◌, ℕ, suc, ℤ, int_lt, int_le, Bool, true, false, cond, List, [], ◌∷◌, ◌++◌, ◌&&◌, append_assoc, refl, sym, ap, ◌∙◌, Result, Ok, Err, is_ok, Option, Some, None}
use Rattle.std.specs.Prelude.{slice_get, flat_map}
use Rattle.std.specs.Option.{is_none}
use Rattle.std.proofs.lemmas.List.{append-nil}
use Rattle.std.proofs.lemmas.Grind.{flat_map-append}
use Rattle.contract.specs.declared.fault.SemFault.{SemFault}
use Rattle.contract.specs.declared.fault.SemFault.TheVariants.{InvalidInterval, IntervalInPast, Ambiguous, NoMatch, Useless, Leaves128}
use Rattle.contract.specs.declared.input.Input.{Input}
use Rattle.contract.specs.declared.interval.Interval.{Interval}
use Rattle.contract.specs.declared.transaction.Transaction.{Transaction}
use Rattle.contract.specs.declared.warning.Warning.{Warning}
use Rattle.contract.specs.Tree.{ActionTree, ContractTree, close, pay, if_obs, when, let_be, assert}
use Rattle.contract.specs.States.States.{StateMaps}
use Rattle.semantics.specs.Evaluation.Evaluation.{eval, visited, holds, looked}
use Rattle.semantics.specs.Evaluation.Path.{waits_for}
use Rattle.semantics.specs.Walk.{Standing, standing, Walk, ended, joined, then_from, then_walk}
use Rattle.semantics.specs.Reduction.{Reduction, choosing, timing_out, binding, asserting}
use Rattle.semantics.specs.Settling.{reduction_then}
use Rattle.semantics.specs.Applying.{matches, tried, taken_numbers, taken_warnings}
use Rattle.semantics.specs.Transaction.{trimmed, finished}
use Rattle.semantics.specs.Computed.{pay_step, settled, first_match, first_match_index, tried_to_match, take_match, applied, one_input, all_inputs, from_start, computed}
use Rattle.analysis_spec.specs.declared.path.PathStep.{PathStep}
use Rattle.analysis_spec.specs.declared.path.PathStep.TheVariants.{Then, Else, TimeoutContinuation, Action}
use Rattle.analysis_spec.specs.Runs.{walk_from}
use Rattle.analysis_spec.specs.Marks.{led, Mark, mark, behind, settling, trying, taking_one, taking_all, marks_from, marks_of}

abbrev pub numbers_in : List Mark → List ℤ
numbers_in = flat_map (λ (m : Mark). m.numbers)

abbrev pub warnings_in : List Mark → List Warning
warnings_in = flat_map (λ (m : Mark). m.warnings)

-- marks tell all that a part of a transaction visits and warns of; and its end is none for a number
pub record Tells (ms : List Mark) (w : Walk) : Type 0 where
  pub numbers : numbers_in ms ≡ w.numbers
  pub warnings : warnings_in ms ≡ w.warnings
  pub faults : w.end ≡ Err Leaves128 → ⊥

-- ---- parts

ended_so : (end : Result Standing SemFault) → (end ≡ Err Leaves128 → ⊥) → Tells [] (ended end)
ended_so end h = record { numbers = refl; warnings = refl; faults = h }

tells_after : (ms : List Mark) (here : List PathStep) (r : Reduction) (w : Walk) → Tells ms w → Tells (mark here r.numbers r.warnings ∷ ms) (reduction_then r w)
tells_after ms here r w h = record { numbers = ap (λ ns. r.numbers ++ ns) h.numbers; warnings = ap (λ ws. r.warnings ++ ws) h.warnings; faults = h.faults }

joined_numbers : (ms ns : List Mark) (w v : Walk) → numbers_in ms ≡ w.numbers → numbers_in ns ≡ v.numbers → numbers_in (ms ++ ns) ≡ w.numbers ++ v.numbers
joined_numbers ms ns w v h k = flat_map-append (λ (m : Mark). m.numbers) ms ns ∙ ap (λ xs. xs ++ numbers_in ns) h ∙ ap (λ xs. w.numbers ++ xs) k

joined_warnings : (ms ns : List Mark) (w v : Walk) → warnings_in ms ≡ w.warnings → warnings_in ns ≡ v.warnings → warnings_in (ms ++ ns) ≡ w.warnings ++ v.warnings
joined_warnings ms ns w v h k = flat_map-append (λ (m : Mark). m.warnings) ms ns ∙ ap (λ xs. xs ++ warnings_in ns) h ∙ ap (λ xs. w.warnings ++ xs) k

tells_from : (ms : List Mark) (w : Walk) (end : Result Standing SemFault) (f : Standing → List Mark) (g : Standing → Walk) → Tells ms w → ((b : Standing) → Tells (f b) (g b)) → Tells (ms ++ behind end f) (then_from w end g)
tells_from ms w (Ok b) f g h k =
    let l = k b in
    record { numbers = joined_numbers ms (f b) w (g b) h.numbers l.numbers; warnings = joined_warnings ms (f b) w (g b) h.warnings l.warnings; faults = l.faults }
tells_from ms w (Err e) f g h k = record { numbers = ap numbers_in (append-nil ms) ∙ h.numbers; warnings = ap warnings_in (append-nil ms) ∙ h.warnings; faults = h.faults }

tells_then : (ms : List Mark) (w : Walk) (f : Standing → List Mark) (g : Standing → Walk) → Tells ms w → ((b : Standing) → Tells (f b) (g b)) → Tells (ms ++ behind w.end f) (then_walk w g)
tells_then ms w f g h k = tells_from ms w w.end f g h k

-- ---- a settling

either_tells : (b : Bool) (ms ns : List Mark) (w v : Walk) → Tells ms w → Tells ns v → Tells (cond b ms ns) (cond b w v)
either_tells true ms ns w v h k = h
either_tells false ms ns w v h k = k

-- a reduction that visits and warns of nothing has no mark
unmarked : (ms : List Mark) (s : StateMaps) (c : ContractTree) (w : Walk) → Tells ms w → Tells ms (reduction_then (timing_out s c) w)
unmarked ms s c w h = record { numbers = h.numbers; warnings = h.warnings; faults = h.faults }

pub settling_tells : (here : List PathStep) (i : Interval) (s : StateMaps) (c : ContractTree) → Tells (settling here i s c) (settled i s c)
settling_tells here i s close = record { numbers = refl; warnings = refl; faults = λ e. cc }
settling_tells here i s (pay p y t v c) =
    let r = pay_step s p y t (eval i s v) (visited i s v) c in
    tells_after (settling (here ++ Then ∷ []) i r.state c) here r (settled i r.state c) (settling_tells (here ++ Then ∷ []) i r.state c)
settling_tells here i s (if_obs o c d) =
    let b = holds i s o in
    tells_after (cond b (settling (here ++ Then ∷ []) i s c) (settling (here ++ Else ∷ []) i s d)) here (choosing s b (looked i s o) c d) (cond b (settled i s c) (settled i s d))
    (either_tells b (settling (here ++ Then ∷ []) i s c) (settling (here ++ Else ∷ []) i s d) (settled i s c) (settled i s d) (settling_tells (here ++ Then ∷ []) i s c) (settling_tells (here ++ Else ∷ []) i s d))
settling_tells here i s (when ks t c) =
    either_tells (int_lt i.to t) [] _ (ended (Ok (standing s (when ks t c)))) _ (ended_so _ (λ e. cc))
    (either_tells (int_le t i.from) (settling (here ++ TimeoutContinuation ∷ []) i s c) [] (reduction_then (timing_out s c) (settled i s c)) (ended (Err Ambiguous))
    (unmarked (settling (here ++ TimeoutContinuation ∷ []) i s c) s c (settled i s c) (settling_tells (here ++ TimeoutContinuation ∷ []) i s c)) (ended_so _ (λ e. cc)))
settling_tells here i s (let_be x v c) =
    let r = binding s x (eval i s v) (visited i s v) c in
    tells_after (settling (here ++ Then ∷ []) i r.state c) here r (settled i r.state c) (settling_tells (here ++ Then ∷ []) i r.state c)
settling_tells here i s (assert o c) =
    let r = asserting s (holds i s o) (looked i s o) c in
    tells_after (settling (here ++ Then ∷ []) i s c) here r (settled i s c) (settling_tells (here ++ Then ∷ []) i s c)

-- ---- an input

tried_before : (here : List PathStep) (s : StateMaps) (x : Input) (m : ℕ) (ts ns : List ℤ) (ms : List Mark) (o : Option ContractTree) → Tells ms (take_match s x ns m o) → Tells (mark here ts [] ∷ ms) (take_match s x (ts ++ ns) m o)
tried_before here s x m ts ns ms None h = record { numbers = ap (λ l. ts ++ l) h.numbers; warnings = h.warnings; faults = λ e. cc }
tried_before here s x m ts ns ms (Some c) h = record { numbers = ap (λ l. ts ++ l) h.numbers ∙ sym (append_assoc ts ns (taken_numbers s x)); warnings = h.warnings; faults = λ e. cc }

trying_tells : (here : List PathStep) (n m : ℕ) (i : Interval) (s : StateMaps) (x : Input) (ks : List (ActionTree × ContractTree)) → Tells (trying here n i s x ks) (take_match s x (tried_to_match i s x ks) m (first_match i s x ks))
trying_tells here n m i s x [] = record { numbers = refl; warnings = refl; faults = λ e. cc }
trying_tells here n m i s x (k ∷ ks) = by_match (trying_tells here (suc n) m i s x ks) (matches i s x k.0)
  where
    ts : List ℤ
    ts = tried i s x k.0

    by_match : Tells (trying here (suc n) i s x ks) (take_match s x (tried_to_match i s x ks) m (first_match i s x ks)) → (b : Bool)
        → Tells (cond b (mark (here ++ Action n ∷ []) (ts ++ taken_numbers s x) (taken_warnings x) ∷ []) (mark (here ++ Action n ∷ []) ts [] ∷ trying here (suc n) i s x ks))
        (take_match s x (ts ++ cond b [] (tried_to_match i s x ks)) m (cond b (Some k.1) (first_match i s x ks)))
    by_match h true = record {
      numbers = append-nil (ts ++ taken_numbers s x) ∙ ap (λ l. l ++ taken_numbers s x) (sym (append-nil ts));
      warnings = append-nil (taken_warnings x);
      faults = λ e. cc;
    }
    by_match h false = tried_before (here ++ Action n ∷ []) s x m ts (tried_to_match i s x ks) (trying here (suc n) i s x ks) (first_match i s x ks) h

one_tells : (here : List PathStep) (i : Interval) (x : Input) (a : Standing) → Tells (taking_one here i x a) (one_input i x a)
unfolding one_input applied
one_tells here i x a =
    let ks = waits_for a.contract in
    tells_then (trying here 0 i a.state x ks) (applied i x a) (λ b. settling (led here (applied i x a).turns) i b.state b.contract) (λ b. settled i b.state b.contract)
    (trying_tells here 0 (first_match_index i a.state x ks) i a.state x ks) (λ b. settling_tells (led here (applied i x a).turns) i b.state b.contract)

all_tells : (here : List PathStep) (i : Interval) (xs : List Input) (a : Standing) → Tells (taking_all here i xs a) (all_inputs i xs a)
all_tells here i [] a = ended_so (Ok a) (λ e. cc)
all_tells here i (x ∷ xs) a =
    let w = one_input i x a in
    tells_then (taking_one here i x a) w (taking_all (led here w.turns) i xs) (all_inputs i xs) (one_tells here i x a) (λ b. all_tells (led here w.turns) i xs b)

-- ---- a transaction

finished_tells : (ms : List Mark) (w : Walk) → Tells ms w → Tells ms (finished w)
finished_tells ms w h = record { numbers = h.numbers; warnings = h.warnings; faults = by_turns (is_ok w.end && is_none (slice_get w.turns 0)) }
  where
    by_turns : (b : Bool) → cond b (Err Useless) w.end ≡ Err Leaves128 → ⊥
    by_turns true e = cc
    by_turns false e = h.faults e

from_tells : (here : List PathStep) (i : Interval) (s : StateMaps) (c : ContractTree) (xs : List Input) → Tells (marks_from here i (record s { min_time = i.from }) c xs) (from_start i s c xs)
unfolding from_start
from_tells here i s c xs =
    let u : StateMaps = record s { min_time = i.from } in
    let w = settled i u c in
    finished_tells (marks_from here i u c xs) (then_walk w (all_inputs i xs))
    (tells_then (settling here i u c) w (taking_all (led here w.turns) i xs) (all_inputs i xs) (settling_tells here i u c) (λ b. all_tells (led here w.turns) i xs b))

pub marks_tell : (here : List PathStep) (a : Standing) (t : Transaction) → Tells (marks_of here a t) (walk_from a t)
unfolding computed
marks_tell here a t =
    let i = trimmed t.interval a.state in
    either_tells (int_lt t.interval.to t.interval.from) [] _ (ended (Err InvalidInterval)) _ (ended_so _ (λ e. cc))
    (either_tells (int_lt t.interval.to a.state.min_time) [] (marks_from here i (record a.state { min_time = i.from }) a.contract t.inputs) (ended (Err IntervalInPast)) (from_start i a.state a.contract t.inputs)
    (ended_so _ (λ e. cc)) (from_tells here i a.state a.contract t.inputs))
