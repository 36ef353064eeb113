use Rattle.analysis_values.proofs.JunctionLemmas.{both_decide}
use Rattle.analysis_values.proofs.junctions.decided_by.Goals as goal

pub returns : goal.returns
returns c =
    let e = rw c.side-turned.ensures at c.in_ok-either.ensures in
    rw (c.side.ensures, c.both-all.ensures, c.side-turned.ensures) (both_decide c.args.junction c.args.symbols.now c.args.fits c.args.first c.args.second c.in_ok-either.either e)
