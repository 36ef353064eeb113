use Rattle.states.proofs.FromCollections.SameLaws.{same_by_from}
use Rattle.contract.specs.contracts.payment.Payment as it
use Rattle.contract.proofs.equal.PaymentPartialEq.eq.Goals as goal

pub returns : goal.returns
returns c = same_by_from it.the_row.coded _ _ _ c.same.ensures
