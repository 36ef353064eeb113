use Rattle.std.proofs.Common.{refl}
use Rattle.json_write_contracts.proofs.AddsLaws.{then, wrote, refused, stopped, failed}
use Rattle.json_write_contracts.proofs.values.put_available.Goals as goal

pub returns-clause-put : goal.returns-clause-put
returns-clause-put c = (refl, then (wrote c.in_ok-begin_object.ensures) c.in_ok-end_with_two.ensures.put)

pub returns-in_err-begin_object-clause-err : goal.returns-in_err-begin_object-clause-err
returns-in_err-begin_object-clause-err c = failed c.from_residual.result (refused c.in_err-begin_object.ensures)

pub returns-in_err-end_with_two-clause-err : goal.returns-in_err-end_with_two-clause-err
returns-in_err-end_with_two-clause-err c = stopped c.from_residual-in_err-end_with_two.result (wrote c.in_ok-begin_object.ensures) c.in_err-end_with_two.ensures.err

pub returns-clause-symbol : goal.returns-clause-symbol
returns-clause-symbol c = c.symbol_is_bytes.ensures
