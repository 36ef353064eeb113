use Rattle.std.proofs.Common.{true, ◌∙◌}
use Rattle.analysis_values.proofs.StepLemmas.{start_stands, start_fits}
use Rattle.analysis_values.proofs.values.start_of.Goals as goal

pub returns : goal.returns
returns c = record {
  number = start_stands c.args.view.now c.args.symbols.now c.in_ok-number.number (c.in_ok-number.ensures ∙ c.start.ensures);
  fits = start_fits c.args.view.now c.args.symbols.now true;
}
