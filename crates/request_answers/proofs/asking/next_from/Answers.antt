use Rattle.std.proofs.Common.{codes}
use Rattle.contract.specs.Tree.{contract_tree}
use Rattle.json_tree.specs.View.{view}
use Rattle.request_reasons.specs.RequestParts.Parts.{transactions_at}
use Rattle.request_answers.specs.Asking.{TellsNextBehind}
use Rattle.request_answers.proofs.AskingLemmas.{tells_on}
use Rattle.request_answers.proofs.asking.next_from.Goals as goal

pub returns-in-Ok : goal.returns-in-Ok
returns-in-Ok c =
    tells_on (TellsNextBehind c.args.readable (contract_tree c.args.contract.now) c.args.state.now (view c.args.body.now)) (transactions_at (codes "after") (view c.args.body.now)) c.in-Ok.transactions c.as_slice.result.now c.next_behind-told.result c.beside_dropped.result
    c.in-Ok.ensures c.as_slice.ensures c.beside_dropped.ensures c.next_behind-told.ensures
