use Rattle.symbols.proofs.ResultLemmas.{is_of_by}
use Rattle.symbols.proofs.operations.is_of.Goals as goal

pub returns : goal.returns
returns c = λ h.
    is_of_by c.args.operation.now c.args.divides c.args.first.now c.args.second.now (c.same_kind-kind.ensures c.if-not-kind.false) (c.in_ok-left.ensures h) (c.in_ok-right.ensures c.if-not-right.false)
