use Rattle.std.proofs.Common.{◌∙◌, ap, sym, Some, arith}
use Rattle.contract.specs.Names.Orders.{bytes_cmp}
use Rattle.contract.specs.Names.Totals.{bytes_total}
use Rattle.contract.proofs.FromCollections.Places.{at_in_range, find_at, find_gap}
use Rattle.eutxo.proofs.scripts.script_in.Goals as goal

pub offset_bounds-entries-at : goal.offset_bounds-entries-at
offset_bounds-entries-at g c =
    let within = at_in_range bytes_cmp c.args.id.now c.args.entries.now c.in-Ok.at c.in-Ok.ensures in
    omega arith

pub bounds-entries-at : goal.bounds-entries-at
bounds-entries-at g c = at_in_range bytes_cmp c.args.id.now c.args.entries.now c.in-Ok.at c.in-Ok.ensures

pub returns-in-Ok : goal.returns-in-Ok
returns-in-Ok g c =
    ap Some c.get.ensures
    ∙ sym (find_at bytes_cmp c.args.id.now c.args.entries.now c.in-Ok.at c.index-entries-at.result c.in-Ok.ensures)

pub returns-in-Err : goal.returns-in-Err
returns-in-Err g c = sym (find_gap bytes_cmp c.args.id.now bytes_total c.args.entries.now c.in-Err.field-0 c.requires c.in-Err.ensures)
