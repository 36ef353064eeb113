use Rattle.std.proofs.Common.{refl}
use Rattle.contract.specs.Tree.{contract_tree}
use Rattle.json_tree.specs.View.{view}
use Rattle.request_reasons.specs.RequestParts.Parts.{state_at}
use Rattle.request_answers.specs.Asking.{TellsNextFrom}
use Rattle.request_answers.proofs.AskingLemmas.{tells_on}
use Rattle.request_answers.proofs.asking.next_of.Goals as goal

pub returns-in-Ok : goal.returns-in-Ok
returns-in-Ok c =
    tells_on (TellsNextFrom c.args.readable (contract_tree c.args.contract.now) (view c.args.body.now)) (state_at c.args.readable.text_numbers (view c.args.body.now)) c.in-Ok.state c.in-Ok.state c.next_from-told.result c.beside_dropped.result
    c.in-Ok.ensures refl c.beside_dropped.ensures c.next_from-told.ensures
