use Rattle.places.specs.Texts.{key_text}
use Rattle.places.proofs.PieceLaws.{piece_more_at}
use Rattle.places.proofs.printed.put_place.Goals as goal

pub loop-key-preserved : goal.loop-key-preserved
loop-key-preserved c =
    piece_more_at _ key_text c.args.place.now c.loop-key.key-index c.args.out.now.items c.loop-key.out.items c.put_key.new.out.items c.loop-key-test.true c.loop-key.invariant c.in_ok-put_key.ensures
