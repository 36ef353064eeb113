use Rattle.analysis_lines.specs.Lines.{unreached_line}
use Rattle.places.proofs.PieceLaws.{piece_more}
use Rattle.analysis_lines.proofs.lines.put_unreached.Goals as goal

pub loop-keys-preserved : goal.loop-keys-preserved
loop-keys-preserved c =
    piece_more unreached_line c.args.places.now c.loop-keys.keys-index c.keys-item.result c.args.out.now.items c.loop-keys.out.items c.put_keys.new.out.items c.loop-keys-test.true c.keys-item.is c.loop-keys.invariant c.in_ok-put_keys.ensures
