use Rattle.marlowe_commands.proofs.ShownLemmas.{text_shown}
use Rattle.marlowe_commands.proofs.command_line.nothing.Goals as goal

pub returns : goal.returns
returns c = text_shown c.args.face c.new.result.items c.new-2.result.items c.shown.result c.shown.ensures
