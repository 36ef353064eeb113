use Rattle.std.proofs.Common.{List, subst}
use Rattle.std.specs.Prelude.{All}
use Rattle.std.proofs.lemmas.List.{take_all}
use Rattle.std.proofs.lemmas.List.Elements.{All-more}
use Rattle.contract.specs.declared.input.Input.{Input}
use Rattle.bound_runs.specs.Told.{HasNumber}
use Rattle.bound_runs.proofs.written.has_numbers.Goals as goal

pub loop-input-preserved : goal.loop-input-preserved
loop-input-preserved c =
    All-more HasNumber c.args.inputs.now c.loop-input.input-index c.input-item.result c.loop-input-test.true c.loop-input.invariant
    (subst HasNumber c.input-item.is (c.has_number-written.ensures c.if-not-written.false))

pub returns : goal.returns
returns c = λ _. subst (λ (xs : List Input). All HasNumber xs) (take_all c.loop-input.input-index c.args.inputs.now c.loop-input-test.false) c.loop-input.invariant
