use Rattle.contract.proofs.FromCollections.SameLaws.{same_by_from}
use Rattle.ledger_spec.specs.contracts.step_record.StepRecord as it
use Rattle.ledger_spec.proofs.step_record.StepRecordPartialEq.eq.Goals as goal

pub returns : goal.returns
returns c = same_by_from it.the_row.coded _ _ _ c.same.ensures
