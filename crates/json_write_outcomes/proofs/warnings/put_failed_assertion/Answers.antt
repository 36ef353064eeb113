use Rattle.json_write_contracts.proofs.AddsLaws.{wrote, refused, behind, left, failed}
use Rattle.json_write_outcomes.proofs.warnings.put_failed_assertion.Goals as goal

pub returns-clause-put : goal.returns-clause-put
returns-clause-put c = behind _ _ c.end_with_one.result (wrote c.in_ok-begin_object.ensures) c.end_with_one.ensures.put

pub returns-clause-err : goal.returns-clause-err
returns-clause-err c = left _ c.end_with_one.result (wrote c.in_ok-begin_object.ensures) c.end_with_one.ensures.err

pub returns-in_err-begin_object-clause-err : goal.returns-in_err-begin_object-clause-err
returns-in_err-begin_object-clause-err c = failed c.from_residual.result (refused c.in_err-begin_object.ensures)
