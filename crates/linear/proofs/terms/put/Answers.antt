use Rattle.std.proofs.Common.{◌<◌, length, arith}
use Rattle.std.specs.Int.{w128}
use Rattle.std.proofs.lemmas.Int.{to_z-of_z}
use Rattle.linear.proofs.WalkLemmas.{put_is}
use Rattle.linear.proofs.terms.put.Goals as goal

pub returns : goal.returns
returns c =
    let l : length c.args.terms.now.items < 32 = omega (arith, c.len.ensures, c.args.terms.now.ok.0) in
    let e = rw (to_z-of_z w128 c.args.coefficient c.ranges.coefficient) at c.in_ok-push.ensures.items in
    λ _. put_is c.args.terms.now.items c.push.new.self.items c.args.symbol c.args.coefficient l e
