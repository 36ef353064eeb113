use Rattle.json_write_contracts.proofs.AddsLaws.{then, wrote, refused, stopped, failed}
use Rattle.json_write_outcomes.proofs.outcomes.put_outcome.Goals as goal

pub returns-clause-put : goal.returns-clause-put
returns-clause-put c = (c.in_ok-put_contract.ensures.put.0, then (wrote c.in_ok-begin_object.ensures) (then (wrote c.in_ok-key.ensures) (then c.in_ok-put_contract.ensures.put.1 c.in_ok-end_outcome.ensures.put)))

pub returns-in_err-begin_object-clause-err : goal.returns-in_err-begin_object-clause-err
returns-in_err-begin_object-clause-err c = failed c.from_residual.result (refused c.in_err-begin_object.ensures)

pub returns-in_err-key-clause-err : goal.returns-in_err-key-clause-err
returns-in_err-key-clause-err c = stopped c.from_residual-in_err-key.result (wrote c.in_ok-begin_object.ensures) (refused c.in_err-key.ensures)

pub returns-in_err-put_contract-clause-err : goal.returns-in_err-put_contract-clause-err
returns-in_err-put_contract-clause-err c = stopped c.from_residual-in_err-put_contract.result (then (wrote c.in_ok-begin_object.ensures) (wrote c.in_ok-key.ensures)) c.in_err-put_contract.ensures.err

pub returns-in_err-end_outcome-clause-err : goal.returns-in_err-end_outcome-clause-err
returns-in_err-end_outcome-clause-err c = stopped c.from_residual-in_err-end_outcome.result (then (wrote c.in_ok-begin_object.ensures) (then (wrote c.in_ok-key.ensures) c.in_ok-put_contract.ensures.put.1)) c.in_err-end_outcome.ensures.err
