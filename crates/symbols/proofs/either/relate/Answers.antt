use Rattle.symbols.proofs.EitherLemmas.{relates_then}
use Rattle.symbols.proofs.either.relate.Goals as goal

pub returns : goal.returns
returns c =
    let a = c.args.one.now in
    let x = c.args.left.now in
    let b = c.args.other.now in
    let y = c.args.right.now in
    let e = c.args.number.now in
    let n = c.args.count in
    let p = c.args.symbols.now in
    let q = c.relate_below.new.symbols in
    let s = c.relate_above.new.symbols in
    let t = c.relate_below-2.new.symbols in
    let u = c.relate_above-2.new.symbols in
    relates_then p q u a x b y n e c.in_ok-relate_below.ensures (relates_then q s u a x b y n e c.in_ok-relate_above.ensures
    (relates_then s t u a x b y n e c.in_ok-relate_below-2.ensures c.in_ok-relate_above-2.ensures))
