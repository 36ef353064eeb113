use Rattle.json_write_contracts.proofs.AddsLaws.{then, wrote, refused, stopped, token_put, token_left, behind, left, failed}
use Rattle.json_write_contracts.proofs.members.put_pair.Goals as goal

pub returns-clause-put : goal.returns-clause-put
returns-clause-put g c = behind _ _ c.end_array.result (wrote c.in_ok-begin_array.ensures) (behind _ _ c.end_array.result c.in_ok-put.ensures.put (behind _ _ c.end_array.result c.in_ok-put-2.ensures.put (token_put c.end_array.result c.end_array.ensures)))

pub returns-clause-err : goal.returns-clause-err
returns-clause-err g c = left _ c.end_array.result (wrote c.in_ok-begin_array.ensures) (left _ c.end_array.result c.in_ok-put.ensures.put (left _ c.end_array.result c.in_ok-put-2.ensures.put (token_left c.end_array.result c.end_array.ensures)))

pub returns-in_err-begin_array-clause-err : goal.returns-in_err-begin_array-clause-err
returns-in_err-begin_array-clause-err g c = failed c.from_residual.result (refused c.in_err-begin_array.ensures)

pub returns-in_err-put-clause-err : goal.returns-in_err-put-clause-err
returns-in_err-put-clause-err g c = stopped c.from_residual-in_err-put.result (wrote c.in_ok-begin_array.ensures) c.in_err-put.ensures.err

pub returns-in_err-put-2-clause-err : goal.returns-in_err-put-2-clause-err
returns-in_err-put-2-clause-err g c = stopped c.from_residual-in_err-put-2.result (then (wrote c.in_ok-begin_array.ensures) c.in_ok-put.ensures.put) c.in_err-put-2.ensures.err
