use Rattle.std.proofs.Common.{List, sym, subst}
use Rattle.contract.specs.Tree.{contract_tree}
use Rattle.analysis_spec.specs.declared.paid.PaidRange.{PaidRange}
use Rattle.analysis_spec.specs.Analysed.{PaysWithinRanges, PaysOthersNothing}
use Rattle.marlowe_analyse.proofs.taken.told_losses.Goals as goal

pub losses_of-requires-clause-within : goal.losses_of-requires-clause-within
losses_of-requires-clause-within c = subst (λ (rs : List PaidRange). PaysWithinRanges rs c.args.state.now (contract_tree c.args.contract.now)) (sym c.as_slice.ensures) c.requires.within

pub losses_of-requires-clause-unpaid : goal.losses_of-requires-clause-unpaid
losses_of-requires-clause-unpaid c = subst (λ (rs : List PaidRange). PaysOthersNothing rs c.args.state.now (contract_tree c.args.contract.now)) (sym c.as_slice.ensures) c.requires.unpaid
