use Rattle.std.proofs.Common.{sym, ◌∙◌}
use Rattle.ledger.proofs.MomentLemmas.{judged_before}
use Rattle.ledger.proofs.rules.judge.Goals as goal

pub returns-in-Some-moment_fault : goal.returns-in-Some-moment_fault
returns-in-Some-moment_fault g c =
    c.refused-in-Some-moment_fault.ensures ∙ judged_before g.V.Validator.judges (g.L.Resolves.moment c.args.ledger.now) c.args.tx.now c.in-Some-moment_fault.fault
    (sym c.tx_fault.ensures ∙ c.in_default.is) (sym c.moment_fault.ensures ∙ c.in-Some-moment_fault.is)
