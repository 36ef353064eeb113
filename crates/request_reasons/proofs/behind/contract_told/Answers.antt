use Rattle.json_tree.specs.View.{view}
use Rattle.refusal_reasons.specs.JsonForms.declared.sort.Sort.TheVariants as sorts
use Rattle.request_parts.specs.Given.{given_contract}
use Rattle.request_parts.specs.Parts.{contract_at}
use Rattle.request_reasons.specs.Parts.{TellsAny}
use Rattle.request_reasons.specs.Reasons.{TellsBehind, contract_there}
use Rattle.request_reasons.proofs.ReadingLemmas.{contract_by}
use Rattle.request_reasons.proofs.behind.contract_told.Goals as goal

pub returns-in-Ok : goal.returns-in-Ok
returns-in-Ok c =
    let body = view c.args.body.now in
    contract_by (contract_at c.args.definitions.now body) (TellsAny sorts.Contract (contract_there body)) (TellsBehind c.args.readable c.args.kind body) (given_contract c.in-Ok.given) c.contract.result.now
    c.behind_told-written.result c.beside_dropped.result c.in-Ok.ensures.reading c.contract.ensures c.behind_told-written.ensures c.beside_dropped.ensures
