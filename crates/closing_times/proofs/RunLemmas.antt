-- What a run leaves of a contract has no later timeout than the contract, so it closes from there on.
use Rattle.std.proofs.Common.{◌≡◌, ℤ, Bool, true, false, cond, List, [], ◌∷◌, refl, inl, inr, Result, Ok, Err}
use Rattle.std.specs.Result.{result_unwrap_or}
use Rattle.contract.specs.declared.fault.SemFault.{SemFault}
use Rattle.contract.specs.declared.fault.SemFault.TheVariants.{Leaves128}
use Rattle.contract.specs.declared.interval.Interval.{Interval}
use Rattle.contract.specs.declared.transaction.Transaction.{Transaction}
use Rattle.semantics.specs.Evaluation.Numbers.{all_fit}
use Rattle.semantics.specs.Evaluation.Timeouts.{last}
use Rattle.semantics.specs.Walk.{Standing, standing, answer_of}
use Rattle.semantics.specs.Computed.{computed}
use Rattle.semantics.specs.Closing.{HasReached, ClosesSo, ClosesAfterLast}
use Rattle.semantics.specs.Laws.{TurnsLead}
use Rattle.analysis_spec.specs.Runs.{walk_from, standing_after, stands_after}
use Rattle.closing_times.specs.Closing.{LeavesNothing, ClosesFromLast}
use Rattle.closing_times.proofs.LastLemmas.{along_reached}

ok_end : (b : Bool) (end : Result Standing SemFault) (a : Standing) → cond b end (Err Leaves128) ≡ Ok a → end ≡ Ok a
ok_end true end a h = h
ok_end false end a h = absurd (cc)

-- a transaction
one_reached : TurnsLead → (a : Standing) (t : Transaction) (n : ℤ) → HasReached (last a.contract) n → HasReached (last (standing_after a t).contract) n
one_reached T a t n h = by_answer (answer_of (walk_from a t)) refl
  where
    by_answer : (r : Result Standing SemFault) → answer_of (walk_from a t) ≡ r → HasReached (last (result_unwrap_or r a).contract) n
    by_answer (Ok d) e = along_reached a.contract (walk_from a t).turns d.contract n (T t.interval a.state a.contract t.inputs d (ok_end (all_fit (walk_from a t).numbers) (walk_from a t).end d e)) h
    by_answer (Err f) e = h

-- and a run
run_reached : TurnsLead → (a : Standing) (ts : List Transaction) (n : ℤ) → HasReached (last a.contract) n → HasReached (last (stands_after a ts).contract) n
run_reached T a [] n h = h
run_reached T a (t ∷ ts) n h = run_reached T (standing_after a t) ts n (one_reached T a t n h)

-- where no number leaves 128 bits, closing leaves nothing
leaves : (i : Interval) (a : Standing) (r : Result Standing SemFault) → ClosesSo i a.state a.contract r → (r ≡ Err Leaves128 → ⊥) → LeavesNothing a r
leaves i a (Ok b) h k = h.0
leaves i a (Err f) (inl e) k = absurd (k (cc))
leaves i a (Err f) (inr h) k = h

pub closes_from_last : ClosesAfterLast → TurnsLead → ClosesFromLast
closes_from_last C T s c stays ts i written from to reached ordered late =
    let a = stands_after (standing s c) ts in
    leaves i a (answer_of (computed i a.state a.contract [])) (C i a.state a.contract (run_reached T (standing s c) ts i.from reached) ordered late)
    (stays ts (record { interval = i; inputs = [] }) ((from, to), written))
