use Rattle.ledger_laws.proofs.ApartLemmas.{outputs_serve_one}
use Rattle.ledger_laws.proofs.ledger.outputs_serve_one_contract.Goals as goal

pub returns : goal.returns
returns g c = outputs_serve_one g.V.Validator.judges
