use Rattle.json_write_contracts.proofs.AddsLaws.{then, wrote, stopped, refused, left, after, held, failed}
use Rattle.contract_json.proofs.inputs.put_deposit.Goals as goal

pub returns-clause-put : goal.returns-clause-put
returns-clause-put c =
    let r = c.end_with_number.result in
    after _ _ _ r (wrote c.in_ok-begin_object.ensures) (after _ _ _ r c.in_ok-put_member.ensures.put
    (after _ _ _ r c.in_ok-put_member-2.ensures.put (after _ _ _ r c.in_ok-put_member-3.ensures.put c.end_with_number.ensures.put)))

pub returns-clause-err : goal.returns-clause-err
returns-clause-err c =
    let r = c.end_with_number.result in
    left _ r (wrote c.in_ok-begin_object.ensures) (left _ r c.in_ok-put_member.ensures.put
    (left _ r c.in_ok-put_member-2.ensures.put (left _ r c.in_ok-put_member-3.ensures.put c.end_with_number.ensures.err)))

pub returns-clause-symbol : goal.returns-clause-symbol
returns-clause-symbol c = held c.end_with_number.result c.symbol_is_bytes.ensures

pub returns-in_err-begin_object-clause-err : goal.returns-in_err-begin_object-clause-err
returns-in_err-begin_object-clause-err c = failed c.from_residual.result (refused c.in_err-begin_object.ensures)

pub returns-in_err-put_member-clause-err : goal.returns-in_err-put_member-clause-err
returns-in_err-put_member-clause-err c =
    stopped c.from_residual-in_err-put_member.result (wrote c.in_ok-begin_object.ensures) c.in_err-put_member.ensures.err

pub returns-in_err-put_member-2-clause-err : goal.returns-in_err-put_member-2-clause-err
returns-in_err-put_member-2-clause-err c =
    stopped c.from_residual-in_err-put_member-2.result (then (wrote c.in_ok-begin_object.ensures) c.in_ok-put_member.ensures.put) c.in_err-put_member-2.ensures.err

pub returns-in_err-put_member-3-clause-err : goal.returns-in_err-put_member-3-clause-err
returns-in_err-put_member-3-clause-err c =
    stopped c.from_residual-in_err-put_member-3.result (then (wrote c.in_ok-begin_object.ensures) (then c.in_ok-put_member.ensures.put c.in_ok-put_member-2.ensures.put)) c.in_err-put_member-3.ensures.err
