use Rattle.std.proofs.Common.{true}
use Rattle.std.specs.Int.{w128}
use Rattle.std.proofs.lemmas.Int.{to_z-of_z}
use Rattle.analysis_values.proofs.StepLemmas.{constant_stands, constant_fits, number_fits}
use Rattle.analysis_values.proofs.values.number_of.Goals as goal

pub returns : goal.returns
returns c = record {
  number = constant_stands c.args.view.now c.args.symbols.now c.args.value c.number-number.result (rw (to_z-of_z w128 c.args.value c.ranges.value) at c.number-number.ensures);
  fits = constant_fits c.args.view.now c.args.symbols.now c.args.value true (number_fits c.args.value c.ranges.value);
}
