use Rattle.std.proofs.Common.{◌≡◌}
use Rattle.linear.specs.Linear.{symbol}
use Rattle.symbols.specs.Results.{GivesInRange}
use Rattle.std.proofs.lemmas.Result.{IfOk-weaker}
use Rattle.symbols.proofs.ResultLemmas.{named_within}
use Rattle.symbols.proofs.symbols.Symbols.operation.Goals as goal

pub returns-in_ok-narrow-in-Some : goal.returns-in_ok-narrow-in-Some
returns-in_ok-narrow-in-Some c =
    let k = c.args.self.now in
    let m = c.narrow.new.self in
    let d = c.args.divides in
    let l = c.args.first.now in
    let n = c.args.second.now in
    let low = c.args.range.least in
    let high = c.args.range.greatest in
    let i = rw c.in-Some.is at c.in_ok-known.ensures in
    IfOk-weaker c.symbol.result (λ e. e ≡ symbol c.in-Some.name) (λ e. GivesInRange d low high k m l n e) (λ e h. named_within d low high k m l n e c.in-Some.name i c.in_ok-narrow-in-Some.ensures h) c.symbol.ensures
