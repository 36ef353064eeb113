use Rattle.std.proofs.lemmas.Result.{on_err_weaker}
use Rattle.machine.proofs.FromContractBytes.Fronts.{on_any_err, front_first, front_then}
use Rattle.eutxo_types.specs.Spelling.{reference_bytes, redeemer_bytes}
use Rattle.eutxo_types.proofs.encode.SpendSpell.put.Goals as goal

pub returns-in_err-put_reference-clause-err : goal.returns-in_err-put_reference-clause-err
returns-in_err-put_reference-clause-err c = on_any_err c.from_residual.result (front_first (redeemer_bytes c.args.self.now.redeemer) c.in_err-put_reference.ensures.err)

pub returns-clause-err : goal.returns-clause-err
returns-clause-err c = on_err_weaker c.put_redeemer.result (front_then (reference_bytes c.args.self.now.reference) c.in_ok-put_reference.ensures.spelling) c.put_redeemer.ensures.err
