use Rattle.std.proofs.Common.{ap, ◌∙◌}
use Rattle.linear.specs.Linear.{symbol}
use Rattle.symbols.proofs.HeldLemmas.{put_symbol_held}
use Rattle.symbols.proofs.symbols.put_symbol.Goals as goal

pub returns-clause-any : goal.returns-clause-any
returns-clause-any c =
    put_symbol_held c.args.bounds.now c.push.new.self (record { least = c.args.least; greatest = c.args.greatest }) c.len.result c.in_ok-symbol.symbol c.in_ok-push.ensures c.len.ensures
    c.in_ok-symbol.ensures

pub returns-clause-name : goal.returns-clause-name
returns-clause-name c = c.in_ok-symbol.ensures ∙ ap symbol c.len.ensures
