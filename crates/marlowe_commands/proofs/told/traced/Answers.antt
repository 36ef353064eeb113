use Rattle.std.proofs.Common.{map, option_map}
use Rattle.serve.specs.MarloweTrace.Traced.{trace_text}
use Rattle.serve.specs.RefusalReasons.Reasons.{Tells}
use Rattle.serve.specs.RefusalReasons.declared.source.Behind.TheVariants as behind
use Rattle.marlowe_commands.specs.Streams.{streams_of}
use Rattle.marlowe_commands.proofs.ShownLemmas.{trace_shows}
use Rattle.marlowe_commands.proofs.told.traced.Goals as goal

pub returns : goal.returns
returns c =
    trace_shows c.args.face c.args.big
    (trace_text c.args.asked c.args.contract.text.now (option_map (λ source. source.text.now) c.args.state) (map (λ text. text.items) c.args.transactions.texts.now))
    (Tells c.args.contract c.args.state c.args.asked.readable (behind.Many c.args.transactions)) (streams_of c.in_ok-printed.printed)
    c.in_ok-printed.ensures
