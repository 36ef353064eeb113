use Rattle.json_write_contracts.proofs.AddsLaws.{then, wrote, refused, stopped, left, after, flagged, held, failed}
use Rattle.json_write_contracts.proofs.actions.put_notify.Goals as goal

pub returns-clause-put : goal.returns-clause-put
returns-clause-put c = flagged _ _ _ c.end_object.result c.in_ok-put_observation.ensures.put.0 (after _ _ _ c.end_object.result (wrote c.in_ok-begin_object.ensures) (after _ _ _ c.end_object.result (wrote c.in_ok-key.ensures) (after _ _ _ c.end_object.result c.in_ok-put_observation.ensures.put.1 c.end_object.ensures.put)))

pub returns-clause-err : goal.returns-clause-err
returns-clause-err c = left _ c.end_object.result (wrote c.in_ok-begin_object.ensures) (left _ c.end_object.result (wrote c.in_ok-key.ensures) (left _ c.end_object.result c.in_ok-put_observation.ensures.put.1 c.end_object.ensures.err))

pub returns-in_err-begin_object-clause-err : goal.returns-in_err-begin_object-clause-err
returns-in_err-begin_object-clause-err c = failed c.from_residual.result (refused c.in_err-begin_object.ensures)

pub returns-in_err-key-clause-err : goal.returns-in_err-key-clause-err
returns-in_err-key-clause-err c = stopped c.from_residual-in_err-key.result (wrote c.in_ok-begin_object.ensures) (refused c.in_err-key.ensures)

pub returns-in_err-put_observation-clause-err : goal.returns-in_err-put_observation-clause-err
returns-in_err-put_observation-clause-err c = stopped c.from_residual-in_err-put_observation.result (then (wrote c.in_ok-begin_object.ensures) (wrote c.in_ok-key.ensures)) c.in_err-put_observation.ensures.err

pub returns-clause-symbols : goal.returns-clause-symbols
returns-clause-symbols c = held c.end_object.result c.in_ok-put_observation.ensures.symbols
