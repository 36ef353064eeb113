use Rattle.std.proofs.Common.{rules, ◌≡◌}
use Rattle.chain.specs.LedgerSpec.Eutxo.Local.{local, verdict_of}
use Rattle.uses.specs.Resolutions.{resolution_of}
use Rattle.uses.specs.TimeLocks.{time_locks}
use Rattle.uses.proofs.LockLemmas.{keeps}
use Rattle.uses.proofs.other_script.check_lock.Goals as goal

pub returns-clause-keeps : goal.returns-clause-keeps
returns-clause-keeps c =
    let judged : c.in_ok-verdict.verdict ≡ verdict_of (local time_locks c.args.tx.now (resolution_of c.args.outputs c.args.id c.args.lock)) = search rules in
    keeps c.args.id c.args.lock c.args.tx.now c.args.outputs c.in_ok-verdict.verdict judged
