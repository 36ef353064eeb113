use Rattle.json_write_contracts.proofs.AddsLaws.{wrote, stopped, refused, left, behind, held, failed}
use Rattle.contract_json.proofs.inputs.put_interval.Goals as goal

pub returns-clause-put : goal.returns-clause-put
returns-clause-put c =
    let r = c.end_with_one.result in
    behind _ _ r (wrote c.in_ok-begin_object.ensures) (behind _ _ r c.in_ok-put_member.ensures.put c.end_with_one.ensures.put)

pub returns-clause-err : goal.returns-clause-err
returns-clause-err c =
    let r = c.end_with_one.result in
    left _ r (wrote c.in_ok-begin_object.ensures) (left _ r c.in_ok-put_member.ensures.put c.end_with_one.ensures.err)

pub returns-clause-from : goal.returns-clause-from
returns-clause-from c = held c.end_with_one.result c.is_time.ensures

pub returns-clause-to : goal.returns-clause-to
returns-clause-to c = held c.end_with_one.result c.is_time-2.ensures

pub returns-in_err-begin_object-clause-err : goal.returns-in_err-begin_object-clause-err
returns-in_err-begin_object-clause-err c = failed c.from_residual.result (refused c.in_err-begin_object.ensures)

pub returns-in_err-put_member-clause-err : goal.returns-in_err-put_member-clause-err
returns-in_err-put_member-clause-err c =
    stopped c.from_residual-in_err-put_member.result (wrote c.in_ok-begin_object.ensures) c.in_err-put_member.ensures.err
