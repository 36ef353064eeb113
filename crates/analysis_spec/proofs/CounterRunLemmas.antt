-- A run that ends in an alarm breaks the promise that none comes.
use Rattle.std.proofs.Common.{◌≡◌, ◌≢◌, List, [], ◌∷◌, inl, inr, refl, Err}
use Rattle.std.specs.List.{AllByRecursion}
use Rattle.contract.specs.declared.fault.SemFault.TheVariants as faults
use Rattle.contract.specs.declared.transaction.Transaction.{Transaction}
use Rattle.contract.specs.declared.warning.Warning.{Warning}
use Rattle.semantics.specs.Walk.{Standing, Walk, standing, answer_of}
use Rattle.analysis_spec.specs.declared.kind.AlarmKind.{AlarmKind}
use Rattle.analysis_spec.specs.declared.kind.AlarmKind.TheVariants.{NonPositiveDeposit, NonPositivePay, PartialPay, Shadowing, AssertionFailed, Leaves128}
use Rattle.analysis_spec.specs.Runs.{walk_from, standing_after, stands_after}
use Rattle.analysis_spec.specs.Promises.{kind_of, HasKind, HasWrittenTimes}
use Rattle.analysis_spec.specs.CounterRuns.{WarnsOf, Tells, EndsIn, WarningsBreakPromises, LeavingBreaksPromises}

-- where each warning is of another kind, none is of this one
none_of : (kind : AlarmKind) (ws : List Warning) → HasKind kind ws → AllByRecursion (λ w. kind_of w ≢ kind) ws → ⊥
none_of kind [] h all = h
none_of kind (w ∷ ws) (inl e) all = all.0 e
none_of kind (w ∷ ws) (inr h) all = none_of kind ws h all.1

told_warns : (kind : AlarmKind) (w : Walk) → (kind ≡ Leaves128 → ⊥) → Tells kind w → WarnsOf kind w
told_warns NonPositiveDeposit w other h = h
told_warns NonPositivePay w other h = h
told_warns PartialPay w other h = h
told_warns Shadowing w other h = h
told_warns AssertionFailed w other h = h
told_warns Leaves128 w other h = absurd (other refl)

-- the promises from wherever a contract stands
abbrev NeverWarnsFrom : AlarmKind → Standing → Type 0
NeverWarnsFrom kind a = (earlier : List Transaction) (t : Transaction) → AllByRecursion (λ w. kind_of w ≢ kind) (walk_from (stands_after a earlier) t).warnings

abbrev StaysFrom : Standing → Type 0
StaysFrom a = (earlier : List Transaction) (t : Transaction) → AllByRecursion HasWrittenTimes (t ∷ earlier) → answer_of (walk_from (stands_after a earlier) t) ≢ Err faults.Leaves128

warnings_break : (kind : AlarmKind) (a : Standing) (ts : List Transaction) → (kind ≡ Leaves128 → ⊥) → EndsIn kind a ts → NeverWarnsFrom kind a → ⊥
warnings_break kind a [] other h never = h
warnings_break kind a (t ∷ []) other h never = none_of kind (walk_from a t).warnings (told_warns kind (walk_from a t) other h).1 (never [] t)
warnings_break kind a (t ∷ u ∷ ts) other h never = warnings_break kind (standing_after a t) (u ∷ ts) other h.1 (λ earlier v. never (t ∷ earlier) v)

leaving_breaks : (a : Standing) (ts : List Transaction) → AllByRecursion HasWrittenTimes ts → EndsIn Leaves128 a ts → StaysFrom a → ⊥
leaving_breaks a [] written h stays = h
leaving_breaks a (t ∷ []) written h stays = stays [] t written h
leaving_breaks a (t ∷ u ∷ ts) written h stays = leaving_breaks (standing_after a t) (u ∷ ts) written.1 h.1 (λ earlier v w. stays (t ∷ earlier) v (w.0, (written.0, w.1)))

pub warnings_break_promises : WarningsBreakPromises
warnings_break_promises kind s c ts other h never = warnings_break kind (standing s c) ts other h never

pub leaving_breaks_promises : LeavingBreaksPromises
leaving_breaks_promises s c ts written h stays = leaving_breaks (standing s c) ts written h stays
