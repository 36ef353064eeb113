use Rattle.alike_alarms.proofs.HeadLemmas.{counted_here, counted_step, counted_all}
use Rattle.alike_alarms.proofs.heads.counts_of.Goals as goal

pub add_one-requires : goal.add_one-requires
add_one-requires c = counted_here c.args.tellers.now c.loop-teller.counts.items c.loop-teller.teller-index _ c.loop-teller-test.true c.requires c.loop-teller.invariant.0 c.loop-teller.invariant.1

pub loop-teller-preserved : goal.loop-teller-preserved
loop-teller-preserved c =
    counted_step c.args.tellers.now c.loop-teller.counts.items c.loop-teller.teller-index _ c.loop-teller-test.true c.requires c.loop-teller.invariant.0 c.loop-teller.invariant.1 c.add_one.new.counts.items c.add_one.ensures

pub returns : goal.returns
returns c = counted_all c.args.tellers.now c.loop-teller.counts.items c.loop-teller.teller-index c.loop-teller-test.false c.loop-teller.invariant.0 c.loop-teller.invariant.1
