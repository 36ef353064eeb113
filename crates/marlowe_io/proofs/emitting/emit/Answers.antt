use Rattle.std.proofs.Common.{rules}
use Rattle.marlowe_io.proofs.TextLemmas.{written_more}
use Rattle.marlowe_io.proofs.emitting.emit.Goals as goal

pub loop-at-preserved : goal.loop-at-preserved
loop-at-preserved g c =
    (search rules, search rules, written_more _ _ _ c.args.text.now c.loop-at.at c.in-Ok.count c.loop-at.invariant.2 c.in-Ok.ensures.bytes)
