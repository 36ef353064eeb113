use Rattle.std.proofs.Common.{refl}
use Rattle.contract.specs.Tree.{chose_something}
use Rattle.analysis_values.proofs.TruthLemmas.{chose_decides, looks_none}
use Rattle.analysis_values.proofs.observations.chosen_of.Goals as goal

pub returns : goal.returns
returns c = record {
  truths = chose_decides c.args.view.now c.args.symbols.now c.in_ok-same.same c.args.id.now c.has_choice-truth.result c.known_truth.result.if_true c.known_truth.result.if_false c.in_ok-same.ensures c.has_choice-truth.ensures c.known_truth.ensures.truths;
  fits = looks_none c.args.view.now c.args.symbols.now (chose_something c.args.id.now) c.known_truth.result.fits (λ i s. refl);
}
