use Rattle.std.proofs.Common.{refl}
use Rattle.json_write_contracts.proofs.AddsLaws.{wrote}
use Rattle.json_write_contracts.proofs.ListedLaws.{listed, closed}
use Rattle.json_write_outcomes.proofs.EachLaws.{each-more, each-over}
use Rattle.json_write_outcomes.proofs.lists.put_list.Goals as goal

pub loop-item-preserved : goal.loop-item-preserved
loop-item-preserved g c = (
  listed g.T.PutItem.json c.args.items.now c.loop-item.item-index c.item-item.result c.begin_array.new.self c.loop-item.out c.put.new.out
      c.loop-item-test.true c.item-item.is c.loop-item.invariant.0 c.in_ok-put.ensures.put,
  each-more g.T.PutItem.known c.args.items.now c.loop-item.item-index c.item-item.result c.loop-item-test.true c.item-item.is c.in_ok-put.ensures.known c.loop-item.invariant.1,
)

pub returns-clause-put : goal.returns-clause-put
returns-clause-put g c =
    closed g.T.PutItem.json c.args.items.now c.args.items.now c.loop-item.item-index c.args.out.now c.begin_array.new.self c.loop-item.out c.end_array.new.self
    refl c.loop-item-test.false (wrote c.in_ok-begin_array.ensures) c.loop-item.invariant.0 (wrote c.in_ok-end_array.ensures)

pub returns-clause-known : goal.returns-clause-known
returns-clause-known g c = each-over g.T.PutItem.known c.args.items.now c.loop-item.item-index c.loop-item-test.false c.loop-item.invariant.1
