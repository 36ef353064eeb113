use Rattle.std.proofs.Common.{None, codes}
use Rattle.contract.specs.Tree.{contract_tree}
use Rattle.json_tree.specs.View.{view}
use Rattle.refusal_reasons.specs.Semantics.Walk.{standing}
use Rattle.refusal_reasons.specs.JsonMembers.declared.spelling.Spelling.TheVariants.{Members}
use Rattle.refusal_reasons.specs.Reasons.{TellsRead}
use Rattle.request_parts.specs.Parts.{transactions_at}
use Rattle.request_reasons.proofs.ReadingLemmas.{list_by}
use Rattle.request_reasons.proofs.transactions.trace_told.Goals as goal

pub returns-in-Ok : goal.returns-in-Ok
returns-in-Ok c =
    let body = view c.args.body.now in
    let key = codes "transactions" in
    list_by key body (TellsRead Members None (standing c.args.start.now (contract_tree c.args.whole.now))) (transactions_at key body) c.in-Ok.transactions c.as_slice.result.now
    c.list_told-written.result c.beside_dropped.result c.in-Ok.ensures c.as_slice.ensures c.list_told-written.ensures c.beside_dropped.ensures
