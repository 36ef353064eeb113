use Rattle.contract.specs.Tree.{contract_tree}
use Rattle.marlowe_explain.specs.Semantics.Walk.{standing}
use Rattle.refusal_reasons.proofs.SequenceLemmas.{refused_by}
use Rattle.refusal_reasons.proofs.sequences.refused_told.Goals as goal

pub returns-in-Ok : goal.returns-in-Ok
returns-in-Ok c =
    let a = standing c.args.start.now (contract_tree c.args.whole.now) in
    let left = c.in-Ok.left in
    refused_by c.args.spelling a c.args.transactions.now c.args.index c.in-Some.transaction.now (standing left.state (contract_tree left.contract.now)) left.path
    c.left_told-written.result c.beside_dropped.result c.in-Some.ensures c.in-Ok.ensures.answer c.in-Ok.ensures.path
    c.left_told-written.ensures c.beside_dropped.ensures
