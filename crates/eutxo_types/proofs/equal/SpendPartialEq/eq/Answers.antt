use Rattle.contract.proofs.FromCollections.SameLaws.{same_by_from}
use Rattle.eutxo_types.specs.contracts.spend.Spend as it
use Rattle.eutxo_types.proofs.equal.SpendPartialEq.eq.Goals as goal

pub returns : goal.returns
returns c = same_by_from it.the_row.coded _ _ _ c.same.ensures
