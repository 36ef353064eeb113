use Rattle.std.proofs.Common.{◌≡◌, ◌⊎◌, [], map, option_map, subst}
use Rattle.serve.specs.MarloweNext.Question.{reached}
use Rattle.serve.specs.RefusalReasons.Reasons.{Tells}
use Rattle.serve.specs.RefusalReasons.declared.source.Behind.TheVariants as behind
use Rattle.marlowe_commands.specs.Streams.{saying_of, spelling_of}
use Rattle.marlowe_commands.specs.Tasks.{SaysNext, over_of}
use Rattle.marlowe_commands.proofs.ShownLemmas.{shown_by}
use Rattle.marlowe_commands.proofs.shown.next_shown.Goals as goal

pub returns : goal.returns
returns c =
    shown_by c.args.face
    (SaysNext c.args.asked (reached c.args.asked c.args.contract.text.now (option_map (λ source. source.text.now) c.args.state)
    (map (λ text. text.items) c.args.after.texts.now)))
    (Tells c.args.contract c.args.state c.args.asked.readable (behind.Next c.args.after (over_of c.args.asked))) (saying_of c.in_ok-said.said)
    c.reasons_if-told.result.items c.shown.result
    (subst (λ s. SaysNext c.args.asked (reached c.args.asked c.args.contract.text.now s (map (λ text. text.items) c.args.after.texts.now))
    (saying_of c.in_ok-said.said)) c.text_if.ensures c.in_ok-said.ensures)
    (subst (λ over. (c.reasons_if-told.result.items ≡ []) ⊎ Tells c.args.contract c.args.state c.args.asked.readable (behind.Next c.args.after over)
    (spelling_of c.args.face) c.reasons_if-told.result.items) c.over_of.ensures c.reasons_if-told.ensures)
    c.shown.ensures
