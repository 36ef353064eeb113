use Rattle.contract.specs.Tree.{contract_tree}
use Rattle.request_answers.proofs.AskingLemmas.{analysis_prints, analysis_memory}
use Rattle.request_answers.proofs.analysing.analysis_told.Goals as goal

pub returns-in-Ok : goal.returns-in-Ok
returns-in-Ok c =
    analysis_prints c.args.telling c.args.party.now c.args.given c.in-Ok.told.is_clear c.in-Ok.told.has_unreached (contract_tree c.args.contract.now) c.args.state.now c.in-Ok.told.text.items c.line_of.result
    c.in-Ok.ensures c.line_of.ensures

pub returns-in-Err : goal.returns-in-Err
returns-in-Err c = analysis_memory c.args.telling c.args.given (contract_tree c.args.contract.now) c.args.state.now c.args.party.now
