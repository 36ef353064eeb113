use Rattle.std.proofs.lemmas.Result.{on_err_weaker}
use Rattle.machine.proofs.FromContractBytes.Fronts.{on_any_err, front_first, front_then}
use Rattle.eutxo_types.specs.Spelling.{lock_bytes, amount_bytes}
use Rattle.eutxo_types.proofs.encode.OutputSpell.put.Goals as goal

pub returns-in_err-put_lock-clause-err : goal.returns-in_err-put_lock-clause-err
returns-in_err-put_lock-clause-err c = on_any_err c.from_residual.result (front_first (amount_bytes c.args.self.now.amount) c.in_err-put_lock.ensures.err)

pub returns-clause-err : goal.returns-clause-err
returns-clause-err c = on_err_weaker c.put_amount.result (front_then (lock_bytes c.args.self.now.lock) c.in_ok-put_lock.ensures.spelling) c.put_amount.ensures.err
