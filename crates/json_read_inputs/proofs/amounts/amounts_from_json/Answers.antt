use Rattle.json_read_names.specs.Parts.{whole_number}
use Rattle.json_read_inputs.proofs.RowLaws.{amounts_positive}
use Rattle.json_read_inputs.proofs.amounts.amounts_from_json.Goals as goal

pub returns-clause-positive : goal.returns-clause-positive
returns-clause-positive g c = amounts_positive whole_number (g.J.JsonValue.json c.args.json.now) c.in_ok-amounts.amounts c.in_ok-amounts.ensures.sorted c.in_ok-amounts.ensures.reading
