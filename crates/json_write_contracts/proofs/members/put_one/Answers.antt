use Rattle.std.proofs.Common.{refl}
use Rattle.json_write_contracts.proofs.AddsLaws.{then, wrote, refused, stopped, failed}
use Rattle.json_write_contracts.proofs.members.put_one.Goals as goal

pub returns-clause-put : goal.returns-clause-put
returns-clause-put g c = (refl, then (wrote c.in_ok-begin_object.ensures) c.in_ok-end_with_one.ensures.put)

pub returns-in_err-begin_object-clause-err : goal.returns-in_err-begin_object-clause-err
returns-in_err-begin_object-clause-err g c = failed c.from_residual.result (refused c.in_err-begin_object.ensures)

pub returns-in_err-end_with_one-clause-err : goal.returns-in_err-end_with_one-clause-err
returns-in_err-end_with_one-clause-err g c = stopped c.from_residual-in_err-end_with_one.result (wrote c.in_ok-begin_object.ensures) c.in_err-end_with_one.ensures.err
