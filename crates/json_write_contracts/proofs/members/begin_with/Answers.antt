use Rattle.json_write_contracts.proofs.AddsLaws.{wrote, refused, behind, left, failed}
use Rattle.json_write_contracts.proofs.members.begin_with.Goals as goal

pub returns-clause-put : goal.returns-clause-put
returns-clause-put g c = behind _ _ c.put_member.result (wrote c.in_ok-begin_object.ensures) c.put_member.ensures.put

pub returns-clause-err : goal.returns-clause-err
returns-clause-err g c = left _ c.put_member.result (wrote c.in_ok-begin_object.ensures) c.put_member.ensures.err

pub returns-in_err-begin_object-clause-err : goal.returns-in_err-begin_object-clause-err
returns-in_err-begin_object-clause-err g c = failed c.from_residual.result (refused c.in_err-begin_object.ensures)
