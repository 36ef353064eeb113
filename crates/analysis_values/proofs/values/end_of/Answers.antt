use Rattle.std.proofs.Common.{true, ◌∙◌}
use Rattle.analysis_values.proofs.StepLemmas.{end_stands, end_fits}
use Rattle.analysis_values.proofs.values.end_of.Goals as goal

pub returns : goal.returns
returns c = record {
  number = end_stands c.args.view.now c.args.symbols.now c.in_ok-number.number (c.in_ok-number.ensures ∙ c.end.ensures);
  fits = end_fits c.args.view.now c.args.symbols.now true;
}
