use Rattle.std.proofs.Common.{true}
use Rattle.analysis_values.proofs.StepLemmas.{choice_stands, choice_fits}
use Rattle.analysis_values.proofs.values.choice_of.Goals as goal

pub returns : goal.returns
returns c = record {
  number = choice_stands c.args.view.now c.args.symbols.now c.args.id.now c.in_ok-number.number c.in_ok-number.ensures;
  fits = choice_fits c.args.view.now c.args.symbols.now c.args.id.now true;
}
