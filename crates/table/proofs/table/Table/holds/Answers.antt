use Rattle.table.proofs.LeavesLaws.{fitting_ok, fitting_err}
use Rattle.table.proofs.table.Table.holds.Goals as goal

pub returns-in-Ok : goal.returns-in-Ok
returns-in-Ok c = fitting_ok _ _ _ c.in-Ok.ensures

pub returns-in-Err : goal.returns-in-Err
returns-in-Err c = fitting_err _ _ _ _ c.in-Err.ensures
