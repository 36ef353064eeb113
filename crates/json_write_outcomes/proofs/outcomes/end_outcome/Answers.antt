use Rattle.json_write_contracts.proofs.AddsLaws.{then, wrote, refused, stopped, token_put, token_left, behind, left, held, failed}
use Rattle.json_write_outcomes.proofs.outcomes.end_outcome.Goals as goal

pub returns-clause-put : goal.returns-clause-put
returns-clause-put c = behind _ _ c.end_object.result c.in_ok-payments_member.ensures.put (behind _ _ c.end_object.result (wrote c.in_ok-key.ensures) (behind _ _ c.end_object.result c.in_ok-put_state.ensures.put (behind _ _ c.end_object.result c.in_ok-warnings_member.ensures.put (token_put c.end_object.result c.end_object.ensures))))

pub returns-clause-err : goal.returns-clause-err
returns-clause-err c = left _ c.end_object.result c.in_ok-payments_member.ensures.put (left _ c.end_object.result (wrote c.in_ok-key.ensures) (left _ c.end_object.result c.in_ok-put_state.ensures.put (left _ c.end_object.result c.in_ok-warnings_member.ensures.put (token_left c.end_object.result c.end_object.ensures))))

pub returns-in_err-payments_member-clause-err : goal.returns-in_err-payments_member-clause-err
returns-in_err-payments_member-clause-err c = failed c.from_residual.result c.in_err-payments_member.ensures.err

pub returns-in_err-key-clause-err : goal.returns-in_err-key-clause-err
returns-in_err-key-clause-err c = stopped c.from_residual-in_err-key.result c.in_ok-payments_member.ensures.put (refused c.in_err-key.ensures)

pub returns-in_err-put_state-clause-err : goal.returns-in_err-put_state-clause-err
returns-in_err-put_state-clause-err c = stopped c.from_residual-in_err-put_state.result (then c.in_ok-payments_member.ensures.put (wrote c.in_ok-key.ensures)) c.in_err-put_state.ensures.err

pub returns-in_err-warnings_member-clause-err : goal.returns-in_err-warnings_member-clause-err
returns-in_err-warnings_member-clause-err c = stopped c.from_residual-in_err-warnings_member.result (then c.in_ok-payments_member.ensures.put (then (wrote c.in_ok-key.ensures) c.in_ok-put_state.ensures.put)) c.in_err-warnings_member.ensures.err

pub returns-clause-time : goal.returns-clause-time
returns-clause-time c = held c.end_object.result c.in_ok-put_state.ensures.time
