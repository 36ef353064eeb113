use Rattle.std.proofs.Common.{◌&&◌}
use Rattle.json_write_contracts.proofs.AddsLaws.{then, wrote, refused, stopped, left, after, flagged, failed}
use Rattle.json_write_contracts.proofs.actions.put_bound.Goals as goal

pub returns-clause-put : goal.returns-clause-put
returns-clause-put c = flagged _ _ _ c.end_object.result (λ j. c.in_ok-number_member.ensures.put.0 j && c.in_ok-number_member-2.ensures.put.0 j) (after _ _ _ c.end_object.result (wrote c.in_ok-begin_object.ensures) (after _ _ _ c.end_object.result c.in_ok-number_member.ensures.put.1 (after _ _ _ c.end_object.result c.in_ok-number_member-2.ensures.put.1 c.end_object.ensures.put)))

pub returns-clause-err : goal.returns-clause-err
returns-clause-err c = left _ c.end_object.result (wrote c.in_ok-begin_object.ensures) (left _ c.end_object.result c.in_ok-number_member.ensures.put.1 (left _ c.end_object.result c.in_ok-number_member-2.ensures.put.1 c.end_object.ensures.err))

pub returns-in_err-begin_object-clause-err : goal.returns-in_err-begin_object-clause-err
returns-in_err-begin_object-clause-err c = failed c.from_residual.result (refused c.in_err-begin_object.ensures)

pub returns-in_err-number_member-clause-err : goal.returns-in_err-number_member-clause-err
returns-in_err-number_member-clause-err c = stopped c.from_residual-in_err-number_member.result (wrote c.in_ok-begin_object.ensures) c.in_err-number_member.ensures.err

pub returns-in_err-number_member-2-clause-err : goal.returns-in_err-number_member-2-clause-err
returns-in_err-number_member-2-clause-err c = stopped c.from_residual-in_err-number_member-2.result (then (wrote c.in_ok-begin_object.ensures) c.in_ok-number_member.ensures.put.1) c.in_err-number_member-2.ensures.err
