use Rattle.json_read_inputs.specs.Rows.{number_by}
use Rattle.json_read_inputs.proofs.RowLaws.{accounts_positive}
use Rattle.json_read_inputs.proofs.amounts.accounts_by.Goals as goal

pub returns-clause-positive : goal.returns-clause-positive
returns-clause-positive g c = accounts_positive (number_by c.args.numbers) (g.J.JsonValue.json c.args.json.now) c.in_ok-accounts.accounts c.in_ok-accounts.ensures.sorted c.in_ok-accounts.ensures.reading
