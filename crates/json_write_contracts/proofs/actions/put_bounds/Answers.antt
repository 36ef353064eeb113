use Rattle.json_write_contracts.specs.WrittenContract.{bound_json, bound_fits}
use Rattle.json_write_contracts.proofs.AddsLaws.{wrote}
use Rattle.json_write_contracts.proofs.ListedLaws.{listed-at, closed, all-more-at, all-over}
use Rattle.json_write_contracts.proofs.actions.put_bounds.Goals as goal

pub loop-bound-preserved : goal.loop-bound-preserved
loop-bound-preserved c =
    let items = c.as_slice-bound-items.result.now in
    let i = c.loop-bound.bound-index in (
      all-more-at _ bound_fits items i c.loop-bound-test.true c.in_ok-put_bound.ensures.put.0 c.loop-bound.invariant.0,
      listed-at _ bound_json items i c.begin_array.new.self c.loop-bound.out c.put_bound.new.out c.loop-bound-test.true c.loop-bound.invariant.1 c.in_ok-put_bound.ensures.put.1,
    )

pub returns-clause-put : goal.returns-clause-put
returns-clause-put c =
    let items = c.as_slice-bound-items.result.now in
    let i = c.loop-bound.bound-index in (
      all-over bound_fits c.args.bounds.now items i c.as_slice-bound-items.ensures c.loop-bound-test.false c.loop-bound.invariant.0,
      closed bound_json c.args.bounds.now items i c.args.out.now c.begin_array.new.self c.loop-bound.out c.end_array.new.self c.as_slice-bound-items.ensures c.loop-bound-test.false
          (wrote c.in_ok-begin_array.ensures) c.loop-bound.invariant.1 (wrote c.in_ok-end_array.ensures),
    )
