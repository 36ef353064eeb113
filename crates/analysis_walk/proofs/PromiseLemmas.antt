-- What follows from limits that are kept.
use Rattle.std.proofs.Common.{◌≡◌, ℤ, ◌≤ℤ◌, Bool, true, false, ◌&&◌, List, [], ◌∷◌, ◌++◌, refl, sym, ap, ◌∙◌, arith, ◌⊎◌, inl, inr, Ok}
use Rattle.std.proofs.lemmas.Int.{ints}
use Rattle.std.specs.List.{AllByRecursion}
use Rattle.contract.specs.declared.interval.Interval.{Interval}
use Rattle.contract.specs.declared.transaction.Transaction.{Transaction}
use Rattle.contract.specs.declared.warning.Warning.{Warning}
use Rattle.semantics.specs.Evaluation.Numbers.{fits, all_fit}
use Rattle.semantics.proofs.FromEvaluation.Numbers.{all_fit_append}
use Rattle.semantics.specs.Walk.{standing, answer_of}
use Rattle.semantics.specs.Laws.{TimeGoesOn}
use Rattle.analysis_spec.specs.declared.kind.AlarmKind.{AlarmKind}
use Rattle.analysis_spec.specs.declared.kind.AlarmKind.TheVariants.{Leaves128}
use Rattle.analysis_spec.specs.Runs.{walk_from, stands_after}
use Rattle.analysis_spec.specs.Marks.{leads_after, Mark, marks_of}
use Rattle.analysis_spec.specs.Promises.{kind_of, ComesAt, IsWritten}
use Rattle.analysis_spec.specs.Analysed.{IsSilentAt}
use Rattle.analysis_spec.specs.declared.alarm.Alarm.{Alarm}
use Rattle.analysis_spec.specs.declared.paid.PaidRange.{PaidRange}
use Rattle.analysis_spec.specs.declared.path.PathStep.{PathStep}
use Rattle.analysis_spec.proofs.MarkLemmas.{numbers_in, marks_tell}
use Rattle.analysis_walk.specs.Limits.{Scope, any_runs, written_runs, Admitted, Allowed, HasAlarm, AreVisited, limits}
use Rattle.analysis_walk.specs.Laws.{AlarmsNameWhereItComes, AlarmsNameWhereItLeaves}
use Rattle.analysis_walk.proofs.ListLaws.{both, all_weaker}
use Rattle.analysis_walk.proofs.FineLemmas.{Marked, Passed}
use Rattle.analysis_walk.proofs.SoundLemmas.{ok_answer, AcceptedPass, runs}

between : (n a b : ℤ) → IsWritten a → IsWritten b → a ≤ℤ n → n ≤ℤ b → IsWritten n
between n a b h k f g = (omega (arith, ints), omega (arith, ints))

pub may_start_later : (scope : Scope) (i : Interval) (n : ℤ) → Admitted scope i → i.from ≤ℤ n → n ≤ℤ i.to → Admitted scope (record i { from = n })
may_start_later any_runs i n a f g = tt
may_start_later written_runs i n a f g = (between n i.from i.to a.0 a.1 f g, a.1)

pub all_admitted : (ts : List Transaction) → AllByRecursion (λ (t : Transaction). Admitted any_runs t.interval) ts
all_admitted [] = tt
all_admitted (t ∷ ts) = (tt, all_admitted ts)

-- ---- numbers

any_allowed : (ns : List ℤ) → AllByRecursion (Allowed any_runs) ns
any_allowed [] = tt
any_allowed (n ∷ ns) = (tt, any_allowed ns)

fitting_allowed : (ns : List ℤ) → all_fit ns ≡ true → AllByRecursion (Allowed written_runs) ns
fitting_allowed [] h = tt
fitting_allowed (n ∷ ns) h = let k = both (fits n) (all_fit ns) h in (k.0, fitting_allowed ns k.1)

allowed_fitting : (ns : List ℤ) → AllByRecursion (Allowed written_runs) ns → all_fit ns ≡ true
allowed_fitting [] h = refl
allowed_fitting (n ∷ ns) h = ap (λ b. b && all_fit ns) h.0 ∙ allowed_fitting ns h.1

allowed : (scope : Scope) (ns : List ℤ) → all_fit ns ≡ true → AllByRecursion (Allowed scope) ns
allowed any_runs ns h = any_allowed ns
allowed written_runs ns h = fitting_allowed ns h

module _ (alarms : List Alarm) (ranges : List PaidRange) where
  all_pass : (scope : Scope) (ms : List Mark) → all_fit (numbers_in ms) ≡ true → Passed (limits scope alarms ranges) ms
  all_pass scope [] h = tt
  all_pass scope (m ∷ ms) h = let k = both (all_fit m.numbers) (all_fit (numbers_in ms)) (sym (all_fit_append m.numbers (numbers_in ms)) ∙ h) in (allowed scope m.numbers k.0, all_pass scope ms k.1)

  pub accepted_pass : (scope : Scope) → AcceptedPass (limits scope alarms ranges)
  accepted_pass scope here a t d e =
      let w = walk_from a t in
      all_pass scope (marks_of here a t) (ap all_fit (marks_tell here a t).numbers ∙ (ok_answer (all_fit w.numbers) w.end d e).0)

  pub any_pass : (ms : List Mark) → Passed (limits any_runs alarms ranges) ms
  any_pass [] = tt
  any_pass (m ∷ ms) = (any_allowed m.numbers, any_pass ms)

  -- ---- places

  -- where no alarm is of a kind at a place, none stands there
  none_there : (others : List Alarm) (kind : AlarmKind) (place here : List PathStep) (other : AlarmKind) → IsSilentAt others kind place → here ≡ place → other ≡ kind → HasAlarm others here other → ⊥
  none_there [] kind place here other z e f h = h
  none_there (a ∷ others) kind place here other z e f (inl k) = z.0 (k.1 ∙ f) (k.0 ∙ e)
  none_there (a ∷ others) kind place here other z e f (inr k) = none_there others kind place here other z.1 e f k

  silent : (kind : AlarmKind) (place : List PathStep) → IsSilentAt alarms kind place → (ms : List Mark) → Marked (limits any_runs alarms ranges) ms
      → AllByRecursion (λ (m : Mark). m.place ≡ place → AllByRecursion (λ w. kind_of w ≡ kind → ⊥) m.warnings) ms
  silent kind place z [] h = tt
  silent kind place z (m ∷ ms) h = (
    λ e. all_weaker (λ w. HasAlarm alarms m.place (kind_of w)) (λ w. kind_of w ≡ kind → ⊥) (λ w k f. none_there alarms kind place m.place (kind_of w) z e f k) m.warnings h.0.1,
    silent kind place z ms (h.1 (any_allowed m.numbers)),
  )

  never_leaves : (place : List PathStep) → IsSilentAt alarms Leaves128 place → (ms : List Mark) → Marked (limits written_runs alarms ranges) ms → ComesAt Leaves128 place ms → ⊥
  never_leaves place z [] h k = k
  never_leaves place z (m ∷ ms) h (inl k) = by_visit h.0.0
    where
      by_visit : AreVisited written_runs alarms m.place m.numbers → ⊥
      by_visit (inl a) = let e : false ≡ true = sym k.1 ∙ allowed_fitting m.numbers a in cc
      by_visit (inr a) = none_there alarms Leaves128 place m.place Leaves128 z k.0 refl a
  never_leaves place z (m ∷ ms) h (inr k) = never_leaves place z ms (h.1 (fitting_allowed m.numbers k.0)) k.1

pub alarms_name_where_it_comes : TimeGoesOn → AlarmsNameWhereItComes
alarms_name_where_it_comes T alarms ranges s c h kind place z earlier t =
    let a = standing s c in
    silent alarms ranges kind place z (marks_of (leads_after [] a earlier) (stands_after a earlier) t)
    (runs (limits any_runs alarms ranges) (may_start_later any_runs) (accepted_pass alarms ranges any_runs) T s c h earlier t (all_admitted (t ∷ earlier)))

pub alarms_name_where_it_leaves : TimeGoesOn → AlarmsNameWhereItLeaves
alarms_name_where_it_leaves T alarms ranges s c h place z earlier t written =
    let a = standing s c in
    never_leaves alarms ranges place z (marks_of (leads_after [] a earlier) (stands_after a earlier) t)
    (runs (limits written_runs alarms ranges) (may_start_later written_runs) (accepted_pass alarms ranges written_runs) T s c h earlier t written)
