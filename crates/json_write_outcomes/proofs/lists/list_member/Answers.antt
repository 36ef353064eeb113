use Rattle.json_write_contracts.proofs.AddsLaws.{wrote, refused, behind, left, failed}
use Rattle.json_write_outcomes.proofs.lists.list_member.Goals as goal

pub returns-clause-put : goal.returns-clause-put
returns-clause-put g c = behind _ _ c.put_list.result (wrote c.in_ok-key.ensures) c.put_list.ensures.put

pub returns-clause-err : goal.returns-clause-err
returns-clause-err g c = left _ c.put_list.result (wrote c.in_ok-key.ensures) c.put_list.ensures.err

pub returns-in_err-key-clause-err : goal.returns-in_err-key-clause-err
returns-in_err-key-clause-err g c = failed c.from_residual.result (refused c.in_err-key.ensures)

pub returns-clause-known : goal.returns-clause-known
returns-clause-known g c = c.put_list.ensures.known
