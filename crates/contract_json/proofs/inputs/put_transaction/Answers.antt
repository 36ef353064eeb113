use Rattle.json_write_contracts.proofs.AddsLaws.{then, wrote}
use Rattle.contract_json.proofs.inputs.put_transaction.Goals as goal

pub returns-clause-put : goal.returns-clause-put
returns-clause-put c = (
  c.in_ok-put_inputs.ensures.put.0,
  then (wrote c.in_ok-begin_object.ensures) (then (wrote c.in_ok-key.ensures) (then c.in_ok-put_inputs.ensures.put.1
      (then (wrote c.in_ok-key-2.ensures) (then c.in_ok-put_interval.ensures.put (wrote c.in_ok-end_object.ensures))))),
)
