use Rattle.std.proofs.Common.{codes, refl}
use Rattle.contract.specs.Tree.{contract_tree}
use Rattle.json_tree.specs.View.{view}
use Rattle.marlowe_trace.specs.JsonReadNames.Forms.{has}
use Rattle.request_reasons.specs.RequestParts.Parts.{party_if}
use Rattle.request_answers.specs.Asking.{AnalysisPrints, telling_of}
use Rattle.request_answers.proofs.AskingLemmas.{prints_so, tells_on}
use Rattle.request_answers.proofs.analysing.analysis_from.Goals as goal

pub returns-in-Ok : goal.returns-in-Ok
returns-in-Ok c =
    tells_on (AnalysisPrints (telling_of (view c.args.body.now)) (has (codes "state") (view c.args.body.now)) (contract_tree c.args.contract.now) c.args.state.now) (party_if (view c.args.body.now)) c.in-Ok.party c.in-Ok.party c.analysis_told-told.result c.beside_dropped.result
    c.in-Ok.ensures refl c.beside_dropped.ensures
    (prints_so c.telling_of-telling.result (telling_of (view c.args.body.now)) c.has-given.result (has (codes "state") (view c.args.body.now)) (contract_tree c.args.contract.now) c.args.state.now c.in-Ok.party c.analysis_told-told.result
    c.telling_of-telling.ensures c.has-given.ensures c.analysis_told-told.ensures)
