use Rattle.json_write_contracts.proofs.AddsLaws.{wrote, refused, behind, left, failed}
use Rattle.json_write_contracts.proofs.members.put_member.Goals as goal

pub returns-clause-put : goal.returns-clause-put
returns-clause-put g c = behind _ _ c.put.result (wrote c.in_ok-key.ensures) c.put.ensures.put

pub returns-clause-err : goal.returns-clause-err
returns-clause-err g c = left _ c.put.result (wrote c.in_ok-key.ensures) c.put.ensures.err

pub returns-in_err-key-clause-err : goal.returns-in_err-key-clause-err
returns-in_err-key-clause-err g c = failed c.from_residual.result (refused c.in_err-key.ensures)
