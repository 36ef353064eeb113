use Rattle.std.proofs.Common.{true}
use Rattle.analysis_values.proofs.StepLemmas.{account_stands, account_fits}
use Rattle.analysis_values.proofs.values.money_of.Goals as goal

pub returns : goal.returns
returns c = record {
  number = account_stands c.args.view.now c.args.symbols.now c.args.owner.now c.args.token.now c.in_ok-number.number c.in_ok-number.ensures;
  fits = account_fits c.args.view.now c.args.symbols.now c.args.owner.now c.args.token.now true;
}
