use Rattle.part_tokens.proofs.PassingLemmas.{item_passed}
use Rattle.part_tokens.proofs.find.pass_items.Goals as goal

pub loop-i-preserved : goal.loop-i-preserved
loop-i-preserved c = item_passed c.args.depth c.args.count c.loop-i.i c.args.reader.now c.loop-i.reader c.pass_value.new.reader c.loop-i-test.true c.loop-i.invariant c.if-not-pass_value.ensures
