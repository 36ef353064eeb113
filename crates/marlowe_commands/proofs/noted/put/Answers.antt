use Rattle.marlowe_commands.proofs.NoteLemmas.{joined}
use Rattle.marlowe_commands.proofs.noted.put.Goals as goal

pub returns : goal.returns
returns c =
    joined c.args.notes.now.items c.put_if.new.to.items c.args.more.now.items c.as_slice.result.now c.as_slice.ensures.value c.put_if.ensures
    c.requires.notes c.requires.more
