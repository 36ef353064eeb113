use Rattle.contract.specs.Tree.{contract_tree}
use Rattle.contract.specs.declared.tree.Contract.{Contract}
use Rattle.json_tree.specs.View.{view}
use Rattle.request_reasons.specs.RequestParts.Given.{given_contract}
use Rattle.request_reasons.specs.RequestParts.Parts.{contract_at}
use Rattle.request_answers.specs.Asking.{TellsNextOf}
use Rattle.request_answers.proofs.AskingLemmas.{tells_on}
use Rattle.request_answers.proofs.asking.next.Goals as goal

pub returns-in-Ok : goal.returns-in-Ok
returns-in-Ok c =
    tells_on (λ (g : Contract). TellsNextOf c.args.readable (view c.args.body.now) (contract_tree g)) (contract_at c.args.definitions.now (view c.args.body.now)) (given_contract c.in-Ok.given) c.contract.result.now c.next_of-told.result c.beside_dropped.result
    c.in-Ok.ensures.reading c.contract.ensures c.beside_dropped.ensures c.next_of-told.ensures
