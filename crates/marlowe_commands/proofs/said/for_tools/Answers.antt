use Rattle.marlowe_commands.specs.Streams.{streams_of}
use Rattle.marlowe_commands.proofs.ShownLemmas.{line_behind}
use Rattle.marlowe_commands.proofs.said.for_tools.Goals as goal

pub returns : goal.returns
returns c =
    line_behind c.args.text.items c.args.refusal.members.items c.args.told.now c.in_ok-line.line.items c.in_ok-output.output.items c.args.refusal.tool_status
    (c.args.refusal.line.items, c.args.refusal.status) c.as_slice.result.now c.as_slice-2.result.now (streams_of c.on_output.result)
    c.as_slice.ensures.value c.as_slice-2.ensures.value c.in_ok-line.ensures c.in_ok-output.ensures c.on_output.ensures
