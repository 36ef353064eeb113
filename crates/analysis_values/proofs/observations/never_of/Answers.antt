use Rattle.std.proofs.Common.{refl, false}
use Rattle.contract.specs.Tree.{false_obs}
use Rattle.analysis_values.proofs.TruthLemmas.{truth_decides, looks_none}
use Rattle.analysis_values.proofs.observations.never_of.Goals as goal

pub returns : goal.returns
returns c = record {
  truths = truth_decides c.args.view.now c.args.symbols.now c.in_ok-same.same false_obs false c.known_truth.result.if_true c.known_truth.result.if_false c.in_ok-same.ensures c.known_truth.ensures.truths (λ scope i s ps d. refl);
  fits = looks_none c.args.view.now c.args.symbols.now false_obs c.known_truth.result.fits (λ i s. refl);
}
