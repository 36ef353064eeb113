use Rattle.std.proofs.Common.{refl, sym, ◌∙◌}
use Rattle.marlowe_run.proofs.FromJsonWriteContracts.ListedLaws.{all-more, all-over}
use Rattle.marlowe_run.specs.ContractJson.WrittenInput.{input_fits}
use Rattle.marlowe_analyse.proofs.runs.has_numbers.Goals as goal

pub loop-input-preserved : goal.loop-input-preserved
loop-input-preserved c =
    all-more input_fits c.args.inputs.now c.loop-input.input-index c.input-item.result c.loop-input-test.true c.input-item.is (sym c.has_number-written.ensures ∙ c.if-not-written.false) c.loop-input.invariant

pub returns : goal.returns
returns c = λ _. all-over input_fits c.args.inputs.now c.args.inputs.now c.loop-input.input-index refl c.loop-input-test.false c.loop-input.invariant
