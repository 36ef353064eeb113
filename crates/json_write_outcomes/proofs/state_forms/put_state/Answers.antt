use Rattle.json_write_contracts.proofs.AddsLaws.{then, wrote, refused, stopped, token_put, token_left, behind, left, held, failed}
use Rattle.json_write_outcomes.proofs.state_forms.put_state.Goals as goal

pub returns-clause-put : goal.returns-clause-put
returns-clause-put c = behind _ _ c.end_object.result (wrote c.in_ok-begin_object.ensures) (behind _ _ c.end_object.result c.in_ok-accounts_member.ensures.put (behind _ _ c.end_object.result c.in_ok-bound_values_member.ensures.put (behind _ _ c.end_object.result c.in_ok-choices_member.ensures.put (behind _ _ c.end_object.result (wrote c.in_ok-key.ensures) (behind _ _ c.end_object.result c.in_ok-put_min_time.ensures.put (token_put c.end_object.result c.end_object.ensures))))))

pub returns-clause-err : goal.returns-clause-err
returns-clause-err c = left _ c.end_object.result (wrote c.in_ok-begin_object.ensures) (left _ c.end_object.result c.in_ok-accounts_member.ensures.put (left _ c.end_object.result c.in_ok-bound_values_member.ensures.put (left _ c.end_object.result c.in_ok-choices_member.ensures.put (left _ c.end_object.result (wrote c.in_ok-key.ensures) (left _ c.end_object.result c.in_ok-put_min_time.ensures.put (token_left c.end_object.result c.end_object.ensures))))))

pub returns-in_err-begin_object-clause-err : goal.returns-in_err-begin_object-clause-err
returns-in_err-begin_object-clause-err c = failed c.from_residual.result (refused c.in_err-begin_object.ensures)

pub returns-in_err-accounts_member-clause-err : goal.returns-in_err-accounts_member-clause-err
returns-in_err-accounts_member-clause-err c = stopped c.from_residual-in_err-accounts_member.result (wrote c.in_ok-begin_object.ensures) c.in_err-accounts_member.ensures.err

pub returns-in_err-bound_values_member-clause-err : goal.returns-in_err-bound_values_member-clause-err
returns-in_err-bound_values_member-clause-err c = stopped c.from_residual-in_err-bound_values_member.result (then (wrote c.in_ok-begin_object.ensures) c.in_ok-accounts_member.ensures.put) c.in_err-bound_values_member.ensures.err

pub returns-in_err-choices_member-clause-err : goal.returns-in_err-choices_member-clause-err
returns-in_err-choices_member-clause-err c = stopped c.from_residual-in_err-choices_member.result (then (wrote c.in_ok-begin_object.ensures) (then c.in_ok-accounts_member.ensures.put c.in_ok-bound_values_member.ensures.put)) c.in_err-choices_member.ensures.err

pub returns-in_err-key-clause-err : goal.returns-in_err-key-clause-err
returns-in_err-key-clause-err c = stopped c.from_residual-in_err-key.result (then (wrote c.in_ok-begin_object.ensures) (then c.in_ok-accounts_member.ensures.put (then c.in_ok-bound_values_member.ensures.put c.in_ok-choices_member.ensures.put))) (refused c.in_err-key.ensures)

pub returns-in_err-put_min_time-clause-err : goal.returns-in_err-put_min_time-clause-err
returns-in_err-put_min_time-clause-err c = stopped c.from_residual-in_err-put_min_time.result (then (wrote c.in_ok-begin_object.ensures) (then c.in_ok-accounts_member.ensures.put (then c.in_ok-bound_values_member.ensures.put (then c.in_ok-choices_member.ensures.put (wrote c.in_ok-key.ensures))))) c.in_err-put_min_time.ensures.err

pub returns-clause-symbols : goal.returns-clause-symbols
returns-clause-symbols c = held c.end_object.result c.in_ok-accounts_member.ensures.symbols

pub returns-clause-time : goal.returns-clause-time
returns-clause-time c = held c.end_object.result c.in_ok-put_min_time.ensures.fits
