use Rattle.contract.proofs.FromCollections.SameLaws.{same_by_from}
use Rattle.eutxo.specs.EutxoTypes.contracts.output.Output as outputs
use Rattle.roles.proofs.owing.pays.Goals as goal

pub returns : goal.returns
returns c = same_by_from outputs.the_row.coded _ _ _ c.is_owed.ensures
