use Rattle.json_write_outcomes.proofs.EachLaws.{each-more, each-over-same}
use Rattle.json_write_contracts.proofs.AddsLaws.{wrote}
use Rattle.json_write_contracts.proofs.ListedLaws.{listed, closed, all-more, all-over}
use Rattle.contract_json.specs.InputSymbols.{InputSymbols}
use Rattle.contract_json.specs.WrittenInput.{input_json, input_fits}
use Rattle.contract_json.proofs.inputs.put_inputs.Goals as goal

pub loop-input-preserved : goal.loop-input-preserved
loop-input-preserved c =
    let items = c.as_slice-input-items.result.now in
    let i = c.loop-input.input-index in
    let x = c.input-item.result in (
      all-more input_fits items i x c.loop-input-test.true c.input-item.is c.in_ok-put_input.ensures.put.0 c.loop-input.invariant.0,
      listed input_json items i x c.begin_array.new.self c.loop-input.out c.put_input.new.out c.loop-input-test.true c.input-item.is c.loop-input.invariant.1 c.in_ok-put_input.ensures.put.1,
      each-more InputSymbols items i x c.loop-input-test.true c.input-item.is c.in_ok-put_input.ensures.symbols c.loop-input.invariant.2,
    )

pub returns-clause-put : goal.returns-clause-put
returns-clause-put c =
    let items = c.as_slice-input-items.result.now in
    let i = c.loop-input.input-index in (
      all-over input_fits c.args.inputs.now items i c.as_slice-input-items.ensures c.loop-input-test.false c.loop-input.invariant.0,
      closed input_json c.args.inputs.now items i c.args.out.now c.begin_array.new.self c.loop-input.out c.end_array.new.self c.as_slice-input-items.ensures c.loop-input-test.false
          (wrote c.in_ok-begin_array.ensures) c.loop-input.invariant.1 (wrote c.in_ok-end_array.ensures),
    )

pub returns-clause-symbols : goal.returns-clause-symbols
returns-clause-symbols c =
    each-over-same InputSymbols c.args.inputs.now c.as_slice-input-items.result.now c.loop-input.input-index c.as_slice-input-items.ensures c.loop-input-test.false c.loop-input.invariant.2
