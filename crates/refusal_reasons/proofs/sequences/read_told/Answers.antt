use Rattle.contract.specs.Tree.{contract_tree}
use Rattle.marlowe_explain.specs.Semantics.Walk.{standing}
use Rattle.refusal_reasons.proofs.SequenceLemmas.{over_by}
use Rattle.refusal_reasons.proofs.sequences.read_told.Goals as goal

pub returns-in-Ok : goal.returns-in-Ok
returns-in-Ok c =
    over_by c.args.spelling (standing c.args.start.now (contract_tree c.args.whole.now)) c.args.transactions.now c.args.over c.in-Ok.left
    c.over_told-written.result c.beside_dropped.result c.in-Ok.ensures.answer c.in-Ok.ensures.path c.over_told-written.ensures c.beside_dropped.ensures
