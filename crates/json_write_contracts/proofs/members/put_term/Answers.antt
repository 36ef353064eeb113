use Rattle.std.proofs.Common.{refl}
use Rattle.json_write_contracts.proofs.AddsLaws.{failed}
use Rattle.json_write_contracts.proofs.members.put_term.Goals as goal

pub returns-clause-put : goal.returns-clause-put
returns-clause-put g c = (refl, c.in_ok-put.ensures.put)

pub returns-in_err-put-clause-err : goal.returns-in_err-put-clause-err
returns-in_err-put-clause-err g c = failed c.from_residual.result c.in_err-put.ensures.err
