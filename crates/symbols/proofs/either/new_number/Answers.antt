use Rattle.std.proofs.Common.{ap, sym, ◌∙◌}
use Rattle.linear.specs.Linear.{symbol}
use Rattle.symbols.proofs.EitherLemmas.{relates_then, new_number_gives, kept_gives}
use Rattle.symbols.proofs.either.new_number.Goals as goal

pub returns : goal.returns
returns c =
    let k = c.args.symbols.now in
    let m = c.fresh.new.self in
    let o = c.relate.new.symbols in
    let p = c.relate_inner.new.symbols in
    let q = c.relate_inner-2.new.symbols in
    let s = c.relate_over.new.symbols in
    let z = c.relate_over-2.new.symbols in
    let a = c.args.one.now in
    let x = c.args.left.now in
    let b = c.args.other.now in
    let y = c.args.right.now in
    let e = c.in_ok-e.e in
    let n = c.count-count.result in
    let over = relates_then q s z a x b y n e c.in_ok-relate_over.ensures c.in_ok-relate_over-2.ensures in
    let inner = relates_then o p z a x b y n e c.in_ok-relate_inner.ensures (relates_then p q z a x b y n e c.in_ok-relate_inner-2.ensures over) in
    let r = relates_then m o z a x b y n e c.in_ok-relate.ensures inner in
    kept_gives k z c.keep_sides.new.symbols a x b y e n n c.count-count.ensures (c.in_ok-e.ensures.name ∙ ap symbol (sym c.count-count.ensures))
    (new_number_gives k m z a x b y e n c.least.result c.least-2.result c.greatest.result c.greatest-2.result c.least_of_both-low.result c.greatest_of_both-high.result c.count-count.ensures c.least.ensures
    c.least-2.ensures c.greatest.ensures c.greatest-2.ensures c.least_of_both-low.ensures c.greatest_of_both-high.ensures c.in_ok-e.ensures.any r)
    c.in_ok-keep_sides.ensures
