-- With what a transaction is refused.
use Rattle.std.proofs.Common.{◌≡◌, ℕ, ℤ, Bool, true, false, cond, ◌&&◌, List, [], ◌∷◌, refl, sym, ◌∙◌, Result, Ok, Err, is_ok, Option, Some, None, inl, inr}
use Rattle.std.specs.Prelude.{slice_get}
use Rattle.std.specs.Option.{is_none}
use Rattle.contract.specs.declared.fault.SemFault.{SemFault}
use Rattle.contract.specs.declared.fault.SemFault.TheVariants.{Ambiguous, Useless, Leaves128, Memory}
use Rattle.contract.specs.declared.input.Input.{Input}
use Rattle.contract.specs.declared.interval.Interval.{Interval}
use Rattle.contract.specs.States.States.{StateMaps}
use Rattle.contract.specs.Tree.{ContractTree}
use Rattle.evaluation.specs.Numbers.{all_fit}
use Rattle.semantics.specs.Walk.{Standing, Walk, then_from, then_walk, answer_of}
use Rattle.evaluation.specs.Path.{waits_for}
use Rattle.semantics.specs.Settling.{Ends}
use Rattle.semantics.specs.Transaction.{trimmed, finished}
use Rattle.semantics.specs.Computed.{settled, first_match, first_match_index, tried_to_match, take_match, applied, one_input, all_inputs, from_start, computed}
use Rattle.semantics.proofs.Relations.{settles_so}
use Rattle.semantics.proofs.Computing.{computed_by}

-- a walk that doesn't end for want of memory
abbrev Sound : Walk → Type 0
Sound w = w.end ≡ Err Memory → ⊥

sound_from : (w : Walk) (end : Result Standing SemFault) (f : Standing → Walk) → w.end ≡ end → Sound w → ((a : Standing) → Sound (f a)) → Sound (then_from w end f)
sound_from w (Ok a) f q h k = k a
sound_from w (Err e) f q h k = h

sound_then : (w : Walk) (f : Standing → Walk) → Sound w → ((a : Standing) → Sound (f a)) → Sound (then_walk w f)
sound_then w f h k = sound_from w w.end f refl h k

sound_ends : (i : Interval) (a : Standing) (end : Result Standing SemFault) → Ends i a end → end ≡ Err Memory → ⊥
sound_ends i a end (inl h) e = let k : ◌≡◌ {A = Result Standing SemFault} (Ok a) (Err Memory) = sym h.1 ∙ e in cc
sound_ends i a end (inr h) e = let k : ◌≡◌ {A = Result Standing SemFault} (Err Ambiguous) (Err Memory) = sym h.1 ∙ e in cc

sound_settled : (i : Interval) (s : StateMaps) (c : ContractTree) → Sound (settled i s c)
sound_settled i s c = let g = settles_so i s c in sound_ends i g.last _ g.ends

sound_match : (s : StateMaps) (x : Input) (ns : List ℤ) (n : ℕ) (o : Option ContractTree) → Sound (take_match s x ns n o)
sound_match s x ns n None e = cc
sound_match s x ns n (Some c) e = cc

sound_input : (i : Interval) (x : Input) (a : Standing) → Sound (one_input i x a)
unfolding one_input applied
sound_input i x a =
    let ks = waits_for a.contract in
    sound_then (applied i x a) (λ b. settled i b.state b.contract)
    (sound_match a.state x (tried_to_match i a.state x ks) (first_match_index i a.state x ks) (first_match i a.state x ks)) (λ b. sound_settled i b.state b.contract)

sound_inputs : (i : Interval) (xs : List Input) (a : Standing) → Sound (all_inputs i xs a)
sound_inputs i [] a = λ e. cc
sound_inputs i (x ∷ xs) a = sound_then (one_input i x a) (all_inputs i xs) (sound_input i x a) (sound_inputs i xs)

sound_finished : (w : Walk) → Sound w → Sound (finished w)
sound_finished w h = by_turns (is_ok w.end && is_none (slice_get w.turns 0))
  where
    by_turns : (b : Bool) → Sound (record w { end = cond b (Err Useless) w.end })
    by_turns true = λ e. cc
    by_turns false = h

sound_start : (i : Interval) (s : StateMaps) (c : ContractTree) (xs : List Input) → Sound (from_start i s c xs)
unfolding from_start
sound_start i s c xs =
    let t : StateMaps = record s { min_time = i.from } in
    sound_finished (then_walk (settled i t c) (all_inputs i xs)) (sound_then (settled i t c) (all_inputs i xs) (sound_settled i t c) (sound_inputs i xs))

sound_computed : (i : Interval) (s : StateMaps) (c : ContractTree) (xs : List Input) → Sound (computed i s c xs)
sound_computed i s c xs = computed_by Sound i s c xs (λ e. cc) (λ e. cc) (sound_start (trimmed i s) s c xs)

sound_answer : (b : Bool) (end : Result Standing SemFault) → (end ≡ Err Memory → ⊥) → cond b end (Err Leaves128) ≡ Err Memory → ⊥
sound_answer true end h = h
sound_answer false end h = λ e. cc

pub never_memory : (i : Interval) (s : StateMaps) (c : ContractTree) (xs : List Input) → answer_of (computed i s c xs) ≡ Err Memory → ⊥
never_memory i s c xs = let w = computed i s c xs in sound_answer (all_fit w.numbers) w.end (sound_computed i s c xs)
