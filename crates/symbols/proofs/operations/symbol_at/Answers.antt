use Rattle.std.proofs.lemmas.Option.{IfSome_then}
use Rattle.symbols.proofs.ResultLemmas.{symbol_named}
use Rattle.symbols.proofs.operations.symbol_at.Goals as goal

pub returns : goal.returns
returns c =
    IfSome_then c.in_ok-symbol.symbol c.in_ok-symbol.ensures
    (λ x s. symbol_named c.args.operations.now c.args.at c.index-operations-at.result c.args.divides c.args.first.now c.args.second.now x c.requires c.index-operations-at.is s)
