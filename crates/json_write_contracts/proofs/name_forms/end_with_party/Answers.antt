use Rattle.json_write_contracts.proofs.AddsLaws.{wrote, refused, stopped, token_put, token_left, behind, left, failed}
use Rattle.json_write_contracts.proofs.name_forms.end_with_party.Goals as goal

pub returns-clause-put : goal.returns-clause-put
returns-clause-put c = behind _ _ c.end_object.result (wrote c.in_ok-key.ensures) (behind _ _ c.end_object.result c.in_ok-put_party.ensures.put (token_put c.end_object.result c.end_object.ensures))

pub returns-clause-err : goal.returns-clause-err
returns-clause-err c = left _ c.end_object.result (wrote c.in_ok-key.ensures) (left _ c.end_object.result c.in_ok-put_party.ensures.put (token_left c.end_object.result c.end_object.ensures))

pub returns-in_err-key-clause-err : goal.returns-in_err-key-clause-err
returns-in_err-key-clause-err c = failed c.from_residual.result (refused c.in_err-key.ensures)

pub returns-in_err-put_party-clause-err : goal.returns-in_err-put_party-clause-err
returns-in_err-put_party-clause-err c = stopped c.from_residual-in_err-put_party.result (wrote c.in_ok-key.ensures) c.in_err-put_party.ensures.err
