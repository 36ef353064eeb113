use Rattle.std.proofs.Common.{refl}
use Rattle.json_write_contracts.proofs.AddsLaws.{wrote}
use Rattle.json_write_contracts.proofs.ListedLaws.{listed, closed}
use Rattle.next_lines.proofs.json_lists.put_list.Goals as goal

pub loop-item-preserved : goal.loop-item-preserved
loop-item-preserved g c =
    listed g.T.Listed.json c.args.items.now c.loop-item.item-index c.item-item.result c.begin_array.new.self c.loop-item.out c.put.new.out c.loop-item-test.true c.item-item.is c.loop-item.invariant c.in_ok-put.ensures

pub returns : goal.returns
returns g c =
    closed g.T.Listed.json c.args.items.now c.args.items.now c.loop-item.item-index c.args.out.now c.begin_array.new.self c.loop-item.out c.end_array.new.self refl c.loop-item-test.false (wrote c.in_ok-begin_array.ensures)
    c.loop-item.invariant (wrote c.in_ok-end_array.ensures)
