use Rattle.json_write_contracts.proofs.AddsLaws.{token_put, token_left, behind, left, failed}
use Rattle.json_write_contracts.proofs.members.end_with_one.Goals as goal

pub returns-clause-put : goal.returns-clause-put
returns-clause-put g c = behind _ _ c.end_object.result c.in_ok-put_member.ensures.put (token_put c.end_object.result c.end_object.ensures)

pub returns-clause-err : goal.returns-clause-err
returns-clause-err g c = left _ c.end_object.result c.in_ok-put_member.ensures.put (token_left c.end_object.result c.end_object.ensures)

pub returns-in_err-put_member-clause-err : goal.returns-in_err-put_member-clause-err
returns-in_err-put_member-clause-err g c = failed c.from_residual.result c.in_err-put_member.ensures.err
