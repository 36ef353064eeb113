use Rattle.std.proofs.Common.{refl}
use Rattle.contract.specs.Tree.{contract_tree}
use Rattle.json_tree.specs.View.{view}
use Rattle.request_reasons.specs.RequestParts.Parts.{state_at}
use Rattle.request_answers.specs.Asking.{TellsAnalysisFrom}
use Rattle.request_answers.proofs.AskingLemmas.{tells_on}
use Rattle.request_answers.proofs.analysing.analysis_of.Goals as goal

pub returns-in-Ok : goal.returns-in-Ok
returns-in-Ok c =
    tells_on (TellsAnalysisFrom (view c.args.body.now) (contract_tree c.args.contract.now)) (state_at c.args.texts (view c.args.body.now)) c.in-Ok.state c.in-Ok.state c.analysis_from-told.result c.beside_dropped.result
    c.in-Ok.ensures refl c.beside_dropped.ensures c.analysis_from-told.ensures
