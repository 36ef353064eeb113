use Rattle.std.proofs.Common.{map}
use Rattle.marlowe_commands.proofs.FileLemmas.{joined_shows}
use Rattle.marlowe_commands.proofs.told.play_joined.Goals as goal

pub returns-in-Refused : goal.returns-in-Refused
returns-in-Refused g c =
    joined_shows c.args.face c.args.task.now.depth c.args.scenario c.args.files.now (map (λ t. t.items) c.args.texts.now) c.in_ok-whole.field-0
    c.in-Refused.printed c.in-Refused.is c.in_ok-whole.ensures
