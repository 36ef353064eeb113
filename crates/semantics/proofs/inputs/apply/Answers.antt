use Rattle.std.proofs.Common.{rules}
use Rattle.semantics.specs.Computed.{applied}
use Rattle.evaluation.proofs.Numbers.{all_fit_append}
use Rattle.semantics.proofs.inputs.apply.Goals as goal

pub returns : goal.returns
unfolding applied
returns g c = record {
  answer = search (rules, all_fit_append);
  warnings = search rules;
  payments = search rules;
  stands = search rules;
  leads = search rules;
}
