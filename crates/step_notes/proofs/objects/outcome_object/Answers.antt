use Rattle.std.proofs.Common.{rules, ◌≡◌, ◌∙◌, ◌++◌, ap, string_bytes}
use Rattle.machine.specs.Table.Flat.{cont_tree}
use Rattle.step_notes.specs.StepObjects.{done_members, waiting_members}
use Rattle.step_notes.proofs.PieceLemmas.{put_two}
use Rattle.step_notes.proofs.objects.outcome_object.Goals as goal

pub returns : goal.returns
returns c =
    let o = c.args.outcome.now in
    let begins : string_bytes c.in_ok-out.out ≡ c.args.head.now = search rules in
    let done = done_members o.payments o.warnings in
    let first =
    c.in_ok-put_done.ensures
    ∙ ap (λ l. string_bytes c.in_ok-out.out ++ done_members l c.as_slice.result.now) c.as_slice-payments.ensures
    ∙ ap (λ l. string_bytes c.in_ok-out.out ++ done_members o.payments l) c.as_slice.ensures
    ∙ ap (λ t. t ++ done) begins in
    put_two c.args.head.now done (waiting_members c.args.interval o.state (cont_tree c.args.table.now o.place.0)) (string_bytes c.put_done.new.out) (string_bytes c.put_waiting.new.out) first c.in_ok-put_waiting.ensures
