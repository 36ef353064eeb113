use Rattle.std.proofs.Common.{refl}
use Rattle.json_write_contracts.proofs.AddsLaws.{wrote, refused, failed}
use Rattle.json_write_contracts.proofs.members.end_object.Goals as goal

pub returns-clause-put : goal.returns-clause-put
returns-clause-put c = (refl, wrote c.in_ok-end_object.ensures)

pub returns-in_err-end_object-clause-err : goal.returns-in_err-end_object-clause-err
returns-in_err-end_object-clause-err c = failed c.from_residual.result (refused c.in_err-end_object.ensures)
