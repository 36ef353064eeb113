use Rattle.contract_bytes.specs.Numbers.{number_bytes}
use Rattle.contract_bytes.proofs.Fronts.{on_any_err, front_first}
use Rattle.contract_bytes.proofs.spell.Tuple2ChoiceIdI128Spell.put.Goals as goal

pub returns-in_err-put_choice_id-clause-err : goal.returns-in_err-put_choice_id-clause-err
returns-in_err-put_choice_id-clause-err c = on_any_err c.from_residual.result (front_first (number_bytes c.args.self.now.1) c.in_err-put_choice_id.ensures.err)
