use Rattle.std.proofs.Common.{option_map, subst}
use Rattle.serve.specs.RefusalReasons.Reasons.{Tells}
use Rattle.serve.specs.RefusalReasons.declared.source.Behind.TheVariants as behind
use Rattle.marlowe_commands.specs.Streams.{saying_of}
use Rattle.marlowe_commands.specs.Tasks.{SaysAnalysis}
use Rattle.marlowe_commands.proofs.ShownLemmas.{shown_by}
use Rattle.marlowe_commands.proofs.shown.analysis_shown.Goals as goal

pub returns : goal.returns
returns c =
    shown_by c.args.face
    (SaysAnalysis c.args.telling c.args.strict c.args.readable c.args.contract.text.now (option_map (λ source. source.text.now) c.args.state) c.args.party.now)
    (Tells c.args.contract c.args.state c.args.readable behind.Nothing) (saying_of c.in_ok-said.said)
    c.reasons_if-told.result.items c.shown.result
    (subst (λ s. SaysAnalysis c.args.telling c.args.strict c.args.readable c.args.contract.text.now s c.args.party.now (saying_of c.in_ok-said.said))
    c.text_if.ensures c.in_ok-said.ensures)
    c.reasons_if-told.ensures c.shown.ensures
