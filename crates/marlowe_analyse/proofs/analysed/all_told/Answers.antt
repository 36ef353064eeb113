use Rattle.std.proofs.Common.{◌≡◌, ℕ, Bool, true, not, Option, List, length, map, sym, ap, ◌∙◌, subst, arith}
use Rattle.std.specs.Prelude.{◌==◌}
use Rattle.contract.specs.Tree.{contract_tree}
use Rattle.analysis_spec.specs.declared.alarm.Alarm.{Alarm}
use Rattle.analysis_spec.specs.Analysed.{IsSilent, StaysUnlessTold}
use Rattle.analysis_spec.specs.declared.kind.AlarmKind.TheVariants.{Leaves128}
use Rattle.analysis_spec.specs.declared.paid.PaidRange.{PaidRange}
use Rattle.analysis_spec.specs.declared.path.PathStep.{PathStep}
use Rattle.losses.specs.declared.loss.Loss.{Loss}
use Rattle.bound_runs.specs.declared.shown.ShownRange.{ShownRange}
use Rattle.bound_runs.specs.declared.shown.ShownLoss.{ShownLoss}
use Rattle.analysis_lines.specs.ToldLines.{line_of}
use Rattle.marlowe_analyse.specs.Printed.{printed}
use Rattle.marlowe_analyse.specs.Told.{LeastsCanCome, IsOut, AreLosses}
use Rattle.marlowe_analyse.specs.OnceSupport.{ToldOnce}
use Rattle.marlowe_analyse.specs.RunsSupport.{HoldRanges, TellsAll, TellPlaces}
use Rattle.marlowe_analyse.proofs.AnalysedLemmas.{tells_of_tree, fits_once, empty_is, not_empty_is, leaves_so}
use Rattle.marlowe_analyse.proofs.analysed.all_told.Goals as goal

pub told_ranges-requires : goal.told_ranges-requires
told_ranges-requires c = record { paid = c.in_ok-alarms.ensures.ranges; unpaid = c.in_ok-alarms.ensures.others }

pub told_out-out-requires : goal.told_out-out-requires
told_out-out-requires c = subst (λ (found : List Alarm). StaysUnlessTold found c.args.state.now (contract_tree c.args.contract.now)) (sym c.as_slice.ensures) c.in_ok-alarms.ensures.numbers

pub returns-clause-told : goal.returns-clause-told
returns-clause-told c =
    let a = c.in_ok-alarms.field-0 in
    let s = c.args.state.now in
    let t = contract_tree c.args.contract.now in
    let told = c.in_ok-alarms-2.alarms.items in
    let once = c.in_ok-alarms-3.alarms.items in
    let few : c.in_ok-alarms-2.alarms.len ≡ length told = omega (arith, c.in_ok-alarms-2.alarms.ok.0) in
    let ways = c.in_ok-unreached.unreached in
    let last = c.in_ok-ranges-2 in
    let shown = last.field-0 in
    let time = c.told_out-out.result in
    let taken = c.in_ok-losses.losses in
    let more = last.ensures in
    let lines = map line_of once in
    let out = c.in_ok-text.text.items in
    let text : out ≡ printed c.args.telling c.args.given s t lines ways shown.ranges time shown.losses = c.in_ok-text.ensures in
    let part = subst (λ (b : Bool). ToldOnce b t told once) c.is_told_once-once.ensures c.in_ok-alarms-3.ensures in
    tells_of_tree c.args.telling c.args.given s t a.alarms a.unreached shown.ranges time shown.losses told once ways c.is_empty-is_clear.result (not c.is_empty-has_unreached.result) (not c.leaves-stays.result) c.in_ok-text.text.items c.in_ok-alarms.ensures.places
    c.in_ok-alarms.ensures.leaving c.in_ok-alarms.ensures.alarms c.in_ok-alarms.ensures.numbers c.in_ok-alarms.ensures.unreached
    (subst (λ (rs : List PaidRange). HoldRanges s t rs) (sym more.ranges) c.in_ok-ranges.ensures.hold) (subst (λ (rs : List PaidRange). LeastsCanCome rs s t) (sym more.ranges) c.in_ok-ranges.ensures.leasts) more.reached
    (subst (λ (found : List Alarm). IsOut s t found time) c.as_slice.ensures c.told_out-out.ensures)
    (subst (λ (ls : Option (List Loss)). AreLosses s t a.alarms ls) (sym more.losses) (subst (λ (found : List Alarm). AreLosses s t found taken) c.as_slice-2.ensures c.in_ok-losses.ensures)) more.lost
    (subst (λ (found : List Alarm). TellsAll s t found told) c.as_slice-5.ensures c.in_ok-alarms-2.ensures) part (subst (λ (found : List (List PathStep)). TellPlaces found ways) c.as_slice-6.ensures c.in_ok-unreached.ensures)
    (empty_is told c.is_empty-is_clear.result (c.is_empty-is_clear.ensures ∙ ap (λ (n : ℕ). n == 0) few)) (not_empty_is ways c.is_empty-has_unreached.result c.is_empty-has_unreached.ensures)
    (leaves_so a.alarms c.leaves-stays.result (subst (λ (found : List Alarm). c.leaves-stays.result ≡ true → IsSilent found Leaves128 → ⊥) c.as_slice-3.ensures c.leaves-stays.ensures.some)) text

pub told_once-requires : goal.told_once-requires
told_once-requires c = c.in_ok-alarms-2.ensures.so.fit

pub printed-requires-clause-alarms : goal.printed-requires-clause-alarms
printed-requires-clause-alarms c =
    fits_once c.is_told_once-once.result (contract_tree c.args.contract.now) c.in_ok-alarms-2.alarms.items c.in_ok-alarms-3.alarms.items c.in_ok-alarms-3.ensures c.in_ok-alarms-2.ensures.so.fit
