use Rattle.std.proofs.Common.{List, Some, ap, ◌∙◌}
use Rattle.contract.specs.Tree.{contract_tree}
use Rattle.analysis_spec.specs.declared.alarm.Alarm.{Alarm}
use Rattle.analysis_spec.specs.declared.path.PathStep.{PathStep}
use Rattle.places.specs.declared.key.Key.{Key}
use Rattle.places.specs.Places.{keys_of}
use Rattle.analysis_lines.specs.ToldLines.{Line}
use Rattle.marlowe_analyse.proofs.runs.told_alarm.Goals as goal

pub returns-clause-line : goal.returns-clause-line
returns-clause-line c =
    let tree = contract_tree c.args.contract.now in
    ap (λ (a : Alarm). let l : Line = record { kind = a.kind; place = c.in_ok-place.place.items; run = c.in_ok-run.run'; head = Some 0 } in l) c.in_ok-alarm.ensures
    ∙ ap (λ (ks : List Key). let l : Line = record { kind = c.args.alarm.now.kind; place = ks; run = c.in_ok-run.run'; head = Some 0 } in l)
    (c.in_ok-place.ensures ∙ ap (λ (p : List PathStep). keys_of p tree) c.as_slice.ensures)
