use Rattle.json_write_contracts.proofs.AddsLaws.{then, wrote, refused, stopped, behind, left, failed}
use Rattle.json_write_contracts.proofs.name_forms.put_choice_id.Goals as goal

pub returns-clause-put : goal.returns-clause-put
returns-clause-put c = behind _ _ c.end_with_party.result (wrote c.in_ok-begin_object.ensures) (behind _ _ c.end_with_party.result (wrote c.in_ok-key.ensures) (behind _ _ c.end_with_party.result c.in_ok-put_text.ensures.put c.end_with_party.ensures.put))

pub returns-clause-err : goal.returns-clause-err
returns-clause-err c = left _ c.end_with_party.result (wrote c.in_ok-begin_object.ensures) (left _ c.end_with_party.result (wrote c.in_ok-key.ensures) (left _ c.end_with_party.result c.in_ok-put_text.ensures.put c.end_with_party.ensures.err))

pub returns-in_err-begin_object-clause-err : goal.returns-in_err-begin_object-clause-err
returns-in_err-begin_object-clause-err c = failed c.from_residual.result (refused c.in_err-begin_object.ensures)

pub returns-in_err-key-clause-err : goal.returns-in_err-key-clause-err
returns-in_err-key-clause-err c = stopped c.from_residual-in_err-key.result (wrote c.in_ok-begin_object.ensures) (refused c.in_err-key.ensures)

pub returns-in_err-put_text-clause-err : goal.returns-in_err-put_text-clause-err
returns-in_err-put_text-clause-err c = stopped c.from_residual-in_err-put_text.result (then (wrote c.in_ok-begin_object.ensures) (wrote c.in_ok-key.ensures)) c.in_err-put_text.ensures.err
