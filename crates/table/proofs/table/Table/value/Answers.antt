use mir.Val.{SFits}
use Rattle.std.proofs.Common.{rules}
use Rattle.std.specs.Int.{w128}
use Rattle.std.proofs.lemmas.Int.{to_z-of_z}
use Rattle.table.proofs.LeavesLaws.{fitting_ok, fitting_err}
use Rattle.table.proofs.table.Table.value.Goals as goal

pub returns-in-Ok : goal.returns-in-Ok
returns-in-Ok c =
    let fits : SFits w128 c.in-Ok.number = search rules in
    rw (to_z-of_z w128 c.in-Ok.number fits) (fitting_ok _ _ _ c.in-Ok.ensures)

pub returns-in-Err : goal.returns-in-Err
returns-in-Err c = fitting_err _ _ _ _ c.in-Err.ensures
