use Rattle.std.proofs.lemmas.Result.{on_err_weaker}
use Rattle.contract_bytes.proofs.Fronts.{front_then}
use Rattle.machine.specs.Spelling.{cont_bytes}
use Rattle.machine.proofs.spelling.DatumSpell.put.Goals as goal

pub returns-clause-err : goal.returns-clause-err
returns-clause-err c = on_err_weaker c.put.result (λ h. front_then (cont_bytes c.args.self.now.cont.0) c.in_ok-put_cont.ensures.spelling h) c.put.ensures.err
