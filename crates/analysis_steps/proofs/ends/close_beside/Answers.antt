use Rattle.std.proofs.Common.{None}
use Rattle.analysis_steps.proofs.CloseLaws.{closes_by}
use Rattle.analysis_steps.proofs.ends.close_beside.Goals as goal

pub returns : goal.returns
returns c =
    closes_by c.args.known.now c.args.account.now.owner c.args.account.now.token c.in_ok-paid.paid c.in_ok-left.left (record { least = c.in_ok-least.least; most = None }) c.in_ok-paid.ensures c.in_ok-left.ensures
    c.in_ok-least.ensures (λ r x y. tt)
