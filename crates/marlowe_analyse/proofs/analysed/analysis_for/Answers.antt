use Rattle.contract.specs.Tree.{contract_tree}
use Rattle.marlowe_analyse.proofs.AnalysedLemmas.{tells_of_party, tells_of_none}
use Rattle.marlowe_analyse.proofs.analysed.analysis_for.Goals as goal

pub returns-in-Some : goal.returns-in-Some
returns-in-Some c =
    tells_of_party c.args.telling c.args.given c.args.party.now c.in-Some.party c.args.state.now (contract_tree c.args.contract.now) c.in_ok-told.told c.in_ok-told.kept c.with_party.result c.in-Some.is
    c.in_ok-told.ensures.told c.in_ok-told.ensures.kept c.with_party.ensures

pub returns-in-None : goal.returns-in-None
returns-in-None c =
    tells_of_none c.args.telling c.args.given c.args.party.now c.args.state.now (contract_tree c.args.contract.now) c.in_ok-told.told c.in-None.is c.in_ok-told.ensures.told
