use Rattle.std.proofs.Common.{refl}
use Rattle.json_write_contracts.proofs.AddsLaws.{wrote, refused, failed}
use Rattle.json_write_contracts.proofs.values.put_truth.Goals as goal

pub returns-clause-put : goal.returns-clause-put
returns-clause-put c = (refl, wrote c.in_ok-boolean.ensures)

pub returns-in_err-boolean-clause-err : goal.returns-in_err-boolean-clause-err
returns-in_err-boolean-clause-err c = failed c.from_residual.result (refused c.in_err-boolean.ensures)
