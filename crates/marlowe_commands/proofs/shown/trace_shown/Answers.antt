use Rattle.std.proofs.Common.{◌≡◌, map, option_map, subst}
use Rattle.serve.specs.MarloweTrace.Traced.{trace_text}
use Rattle.serve.specs.RefusalReasons.Reasons.{Tells}
use Rattle.serve.specs.RefusalReasons.declared.source.Behind.TheVariants as behind
use Rattle.marlowe_commands.specs.Streams.{saying_of}
use Rattle.marlowe_commands.specs.Tasks.{trace_said}
use Rattle.marlowe_commands.proofs.ShownLemmas.{shown_by}
use Rattle.marlowe_commands.proofs.shown.trace_shown.Goals as goal

pub returns : goal.returns
returns c =
    shown_by c.args.face
    (λ said. said ≡ trace_said c.args.big (trace_text c.args.asked c.args.contract.text.now (option_map (λ source. source.text.now) c.args.state)
    (map (λ text. text.items) c.args.transactions.texts.now)))
    (Tells c.args.contract c.args.state c.args.asked.readable (behind.Many c.args.transactions)) (saying_of c.in_ok-said.said)
    c.reasons_if-told.result.items c.shown.result
    (subst (λ s. saying_of c.in_ok-said.said ≡ trace_said c.args.big (trace_text c.args.asked c.args.contract.text.now s
    (map (λ text. text.items) c.args.transactions.texts.now))) c.text_if.ensures c.in_ok-said.ensures)
    c.reasons_if-told.ensures c.shown.ensures
