use Rattle.std.proofs.Common.{true}
use Rattle.analysis_values.proofs.StepLemmas.{bound_stands, bound_fits}
use Rattle.analysis_values.proofs.values.bound_of.Goals as goal

pub returns : goal.returns
returns c = record {
  number = bound_stands c.args.view.now c.args.symbols.now c.args.name.now c.in_ok-number.number c.in_ok-number.ensures;
  fits = bound_fits c.args.view.now c.args.symbols.now c.args.name.now true;
}
