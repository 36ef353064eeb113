use Rattle.analysis_steps.proofs.CloseLaws.{closes_by}
use Rattle.analysis_steps.proofs.ends.close.Goals as goal

pub returns : goal.returns
returns c =
    let b = c.in_ok-bounds.bounds in
    closes_by c.args.known.now c.args.account.now.owner c.args.account.now.token c.in_ok-paid.paid c.in_ok-left.left (record { least = b.least; most = b.greatest }) c.in_ok-paid.ensures c.in_ok-left.ensures
    c.in_ok-bounds.ensures.least c.in_ok-bounds.ensures.greatest
