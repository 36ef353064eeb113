use Rattle.analysis_values.proofs.TruthLemmas.{other_by, other_then}
use Rattle.analysis_values.proofs.truths.where_other.Goals as goal

pub returns-in_ok-apart-in-Some : goal.returns-in_ok-apart-in-Some
returns-in_ok-apart-in-Some c =
    let w = other_by c.args.symbols.now c.args.left.now c.args.right.now c.in_ok-less.less c.in_ok-greater.greater c.in_ok-both.both c.in_ok-less.ensures c.in_ok-greater.ensures c.in_ok-both.ensures in
    other_then c.args.symbols.now c.args.left.now c.args.right.now c.in-Some.more c.in_ok-apart-in-Some.apart (rw c.in-Some.is at w) c.in_ok-apart-in-Some.ensures

pub returns-in-None : goal.returns-in-None
returns-in-None c =
    let w = other_by c.args.symbols.now c.args.left.now c.args.right.now c.in_ok-less.less c.in_ok-greater.greater c.in_ok-both.both c.in_ok-less.ensures c.in_ok-greater.ensures c.in_ok-both.ensures in
    rw c.in-None.is at w
