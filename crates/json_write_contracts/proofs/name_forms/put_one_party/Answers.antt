use Rattle.json_write_contracts.proofs.AddsLaws.{wrote, refused, behind, left, failed}
use Rattle.json_write_contracts.proofs.name_forms.put_one_party.Goals as goal

pub returns-clause-put : goal.returns-clause-put
returns-clause-put c = behind _ _ c.end_with_party.result (wrote c.in_ok-begin_object.ensures) c.end_with_party.ensures.put

pub returns-clause-err : goal.returns-clause-err
returns-clause-err c = left _ c.end_with_party.result (wrote c.in_ok-begin_object.ensures) c.end_with_party.ensures.err

pub returns-in_err-begin_object-clause-err : goal.returns-in_err-begin_object-clause-err
returns-in_err-begin_object-clause-err c = failed c.from_residual.result (refused c.in_err-begin_object.ensures)
