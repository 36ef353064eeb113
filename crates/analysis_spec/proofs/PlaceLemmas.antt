-- What comes at no place never comes, and a run that ends in an alarm at a place breaks the promise that none comes there.
use Rattle.std.proofs.Common.{◌≡◌, ◌≢◌, ℤ, Bool, true, false, cond, ◌&&◌, List, [], ◌∷◌, ◌++◌, inl, inr, refl, sym, ap, ◌∙◌, subst, Result, Ok, Err}
use Rattle.std.specs.List.{AllByRecursion}
use Rattle.contract.specs.declared.fault.SemFault.{SemFault}
use Rattle.contract.specs.declared.fault.SemFault.TheVariants as faults
use Rattle.contract.specs.declared.transaction.Transaction.{Transaction}
use Rattle.contract.specs.declared.warning.Warning.{Warning}
use Rattle.semantics.specs.Evaluation.Numbers.{all_fit}
use Rattle.semantics.proofs.FromEvaluation.Numbers.{all_fit_append}
use Rattle.semantics.specs.Walk.{Standing, Walk, standing, answer_of}
use Rattle.analysis_spec.specs.declared.kind.AlarmKind.{AlarmKind}
use Rattle.analysis_spec.specs.declared.kind.AlarmKind.TheVariants.{NonPositiveDeposit, NonPositivePay, PartialPay, Shadowing, AssertionFailed, Leaves128}
use Rattle.analysis_spec.specs.declared.path.PathStep.{PathStep}
use Rattle.analysis_spec.specs.Runs.{walk_from, standing_after, stands_after}
use Rattle.analysis_spec.specs.Marks.{Mark, marks_of, place_after, leads_after}
use Rattle.analysis_spec.specs.Promises.{kind_of, HasKind, TellsOf, ComesAt, HasWrittenTimes}
use Rattle.analysis_spec.specs.CounterRuns.{EndsIn}
use Rattle.analysis_spec.specs.PlacedRuns.{EndsFrom, PlacedRunsEndSo, WarningsHavePlaces, LeavingHasAPlace, WarningsBreakPlaces, LeavingBreaksPlaces}
use Rattle.analysis_spec.proofs.MarkLemmas.{numbers_in, warnings_in, Tells, marks_tell}

-- ---- promises for all places

all_append : {A : Type 0} (P : A → Type 0) (xs ys : List A) → AllByRecursion P xs → AllByRecursion P ys → AllByRecursion P (xs ++ ys)
all_append P [] ys h k = k
all_append P (x ∷ xs) ys h k = (h.0, all_append P xs ys h.1 k)

-- each mark gives no warning of the kind, if that is so at each place
none_anywhere : (kind : AlarmKind) (ms : List Mark) → ((place : List PathStep) → AllByRecursion (λ (m : Mark). m.place ≡ place → AllByRecursion (λ w. kind_of w ≢ kind) m.warnings) ms)
    → AllByRecursion (λ w. kind_of w ≢ kind) (warnings_in ms)
none_anywhere kind [] h = tt
none_anywhere kind (m ∷ ms) h = all_append (λ w. kind_of w ≢ kind) m.warnings (warnings_in ms) ((h m.place).0 refl) (none_anywhere kind ms (λ place. (h place).1))

pub warnings_have_places : WarningsHavePlaces
warnings_have_places kind s c never earlier t =
    let a = stands_after (standing s c) earlier in
    let here = leads_after [] (standing s c) earlier in
    subst (AllByRecursion (λ w. kind_of w ≢ kind)) (marks_tell here a t).warnings (none_anywhere kind (marks_of here a t) (λ place. never place earlier t))

-- where not all numbers fit, the first that doesn't is visited at the place of a mark
first_leaves : (ms : List Mark) → all_fit (numbers_in ms) ≡ false → (place : List PathStep) × ComesAt Leaves128 place ms
first_leaves [] h = absurd (cc)
first_leaves (m ∷ ms) h = by_test (first_leaves ms) (all_fit m.numbers) refl
  where
    by_test : (all_fit (numbers_in ms) ≡ false → (place : List PathStep) × ComesAt Leaves128 place ms) → (b : Bool) → all_fit m.numbers ≡ b → (place : List PathStep) × ComesAt Leaves128 place (m ∷ ms)
    by_test later false e = (m.place, inl (refl, e))
    by_test later true e =
        let k = later (sym (all_fit_append m.numbers (numbers_in ms) ∙ ap (λ b. b && all_fit (numbers_in ms)) e) ∙ h) in
        (k.0, inr (e, k.1))

not_all : (w : Walk) (b : Bool) → all_fit w.numbers ≡ b → (w.end ≡ Err faults.Leaves128 → ⊥) → answer_of w ≡ Err faults.Leaves128 → all_fit w.numbers ≡ false
not_all w false e k h = e
not_all w true e k h = absurd (k (sym (ap (λ b. cond b w.end (Err faults.Leaves128)) e) ∙ h))

pub leaving_has_a_place : LeavingHasAPlace
leaving_has_a_place s c never earlier t written e =
    let a = stands_after (standing s c) earlier in
    let here = leads_after [] (standing s c) earlier in
    let told = marks_tell here a t in
    let w = walk_from a t in
    let first = first_leaves (marks_of here a t) (ap all_fit told.numbers ∙ not_all w (all_fit w.numbers) refl told.faults e) in
    never first.0 earlier t written first.1

-- ---- runs

ends_in : (kind : AlarmKind) (place here : List PathStep) (a : Standing) (ts : List Transaction) → EndsFrom kind place here a ts → EndsIn kind a ts
ends_in kind place here a [] h = h
ends_in kind place here a (t ∷ []) h = h.tells
ends_in kind place here a (t ∷ u ∷ ts) h = (h.0, ends_in kind place (place_after here a t) (standing_after a t) (u ∷ ts) h.1)

pub placed_runs_end_so : PlacedRunsEndSo
placed_runs_end_so kind place s c ts h = ends_in kind place [] (standing s c) ts h

-- where each warning is of another kind, none is of this one
none_of : (kind : AlarmKind) (ws : List Warning) → HasKind kind ws → AllByRecursion (λ w. kind_of w ≢ kind) ws → ⊥
none_of kind [] h all = h
none_of kind (w ∷ ws) (inl e) all = all.0 e
none_of kind (w ∷ ws) (inr h) all = none_of kind ws h all.1

told_warns : (kind : AlarmKind) (m : Mark) → (kind ≡ Leaves128 → ⊥) → TellsOf kind m → HasKind kind m.warnings
told_warns NonPositiveDeposit m other h = h
told_warns NonPositivePay m other h = h
told_warns PartialPay m other h = h
told_warns Shadowing m other h = h
told_warns AssertionFailed m other h = h
told_warns Leaves128 m other h = absurd (other refl)

none_comes : (kind : AlarmKind) (place : List PathStep) (ms : List Mark) → (kind ≡ Leaves128 → ⊥) → ComesAt kind place ms
    → AllByRecursion (λ (m : Mark). m.place ≡ place → AllByRecursion (λ w. kind_of w ≢ kind) m.warnings) ms → ⊥
none_comes kind place [] other h all = h
none_comes kind place (m ∷ ms) other (inl k) all = none_of kind m.warnings (told_warns kind m other k.1) (all.0 k.0)
none_comes kind place (m ∷ ms) other (inr k) all = none_comes kind place ms other k.1 all.1

-- the promises from wherever a contract stands
abbrev NeverWarnsFrom : AlarmKind → List PathStep → List PathStep → Standing → Type 0
NeverWarnsFrom kind place here a =
    (earlier : List Transaction) (t : Transaction) → AllByRecursion (λ (m : Mark). m.place ≡ place → AllByRecursion (λ w. kind_of w ≢ kind) m.warnings) (marks_of (leads_after here a earlier) (stands_after a earlier) t)

abbrev NeverLeavesFrom : List PathStep → List PathStep → Standing → Type 0
NeverLeavesFrom place here a = (earlier : List Transaction) (t : Transaction) → AllByRecursion HasWrittenTimes (t ∷ earlier) → ComesAt Leaves128 place (marks_of (leads_after here a earlier) (stands_after a earlier) t) → ⊥

warnings_break : (kind : AlarmKind) (place here : List PathStep) (a : Standing) (ts : List Transaction) → (kind ≡ Leaves128 → ⊥) → EndsFrom kind place here a ts → NeverWarnsFrom kind place here a → ⊥
warnings_break kind place here a [] other h never = h
warnings_break kind place here a (t ∷ []) other h never = none_comes kind place (marks_of here a t) other h.comes (never [] t)
warnings_break kind place here a (t ∷ u ∷ ts) other h never = warnings_break kind place (place_after here a t) (standing_after a t) (u ∷ ts) other h.1 (λ earlier v. never (t ∷ earlier) v)

leaving_breaks : (place here : List PathStep) (a : Standing) (ts : List Transaction) → AllByRecursion HasWrittenTimes ts → EndsFrom Leaves128 place here a ts → NeverLeavesFrom place here a → ⊥
leaving_breaks place here a [] written h never = h
leaving_breaks place here a (t ∷ []) written h never = never [] t written h.comes
leaving_breaks place here a (t ∷ u ∷ ts) written h never = leaving_breaks place (place_after here a t) (standing_after a t) (u ∷ ts) written.1 h.1 (λ earlier v w. never (t ∷ earlier) v (w.0, (written.0, w.1)))

pub warnings_break_places : WarningsBreakPlaces
warnings_break_places kind place s c ts other h never = warnings_break kind place [] (standing s c) ts other h never

pub leaving_breaks_places : LeavingBreaksPlaces
leaving_breaks_places place s c ts written h never = leaving_breaks place [] (standing s c) ts written h never
