use Rattle.told_parts.specs.Lines.{next_key_text}
use Rattle.told_parts.proofs.PieceLemmas.{piece_more}
use Rattle.told_parts.proofs.pieces.put_each_key.Goals as goal

pub loop-key-preserved : goal.loop-key-preserved
loop-key-preserved c =
    piece_more _ (λ key. next_key_text key.now) c.args.keys.now c.loop-key.key-index c.args.out.now.items c.loop-key.out.items c.put_next_key.new.out.items c.loop-key-test.true c.loop-key.invariant
    c.in_ok-put_next_key.ensures
