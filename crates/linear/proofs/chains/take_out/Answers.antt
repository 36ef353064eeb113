use Rattle.std.proofs.Common.{rules, FitsSigned}
use Rattle.std.specs.Int.{w128}
use Rattle.std.proofs.lemmas.Int.{to_z-of_z}
use Rattle.linear.proofs.ChainLemmas.{taken_out_by}
use Rattle.linear.proofs.chains.take_out.Goals as goal

pub returns : goal.returns
returns c =
    let fs : FitsSigned w128 c.in_ok-scale.scale = search rules in
    let ft : FitsSigned w128 c.in_ok-taken.taken = search rules in
    let fb : FitsSigned w128 c.in_ok-base.base = search rules in
    let fc : FitsSigned w128 c.constant.result = search rules in
    let e = rw (
      to_z-of_z w128 c.in_ok-scale.scale fs,
      to_z-of_z w128 c.args.constant c.ranges.constant,
      to_z-of_z w128 c.in_ok-taken.taken ft,
      to_z-of_z w128 c.constant.result fc,
      c.constant.ensures,
    ) at c.in_ok-base.ensures in
    let f = rw (to_z-of_z w128 c.in_ok-scale.scale fs, to_z-of_z w128 c.in_ok-taken.taken ft, c.terms-2.ensures) at c.in_ok-count.ensures in
    rw (to_z-of_z w128 c.in_ok-base.base fb, to_z-of_z w128 c.in_ok-scale.scale fs)
    (taken_out_by c.args.constant c.args.terms.now c.args.fact.now c.fill.new.out c.in_ok-scale.scale c.in_ok-taken.taken c.in_ok-base.base c.in_ok-count.count c.in_ok-scale.ensures c.in_ok-taken.ensures e f)
