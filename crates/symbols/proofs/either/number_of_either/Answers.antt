use Rattle.std.proofs.Common.{◌≡◌}
use Rattle.linear.specs.Linear.{symbol}
use Rattle.symbols.specs.Either.{GivesEither}
use Rattle.std.proofs.lemmas.Result.{IfOk-weaker}
use Rattle.symbols.proofs.BranchLemmas.{either_told}
use Rattle.symbols.proofs.EitherLemmas.{same_gives}
use Rattle.symbols.specs.Held.{branches_of}
use Rattle.symbols.proofs.either.number_of_either.Goals as goal

pub returns-then-same : goal.returns-then-same
returns-then-same c =
    same_gives c.args.symbols.now c.args.one.now c.args.left.now c.args.other.now c.args.right.now c.in_ok-e.e c.count.result c.count.ensures (rw c.terms.ensures at (c.is_below-older.ensures c.if-older.true))
    (c.in_ok-same.ensures c.if-same.true) c.in_ok-e.ensures

pub returns-in-Some : goal.returns-in-Some
returns-in-Some c =
    let k = c.args.symbols.now in
    let a = c.args.one.now in
    let x = c.args.left.now in
    let b = c.args.other.now in
    let y = c.args.right.now in
    let o = rw c.in-Some.is at c.in_ok-known.ensures in
    IfOk-weaker c.symbol.result (λ e. e ≡ symbol c.in-Some.name) (λ e. GivesEither k k a x b y e)
    (λ e q. either_told k a x b y e (branches_of c.held_branches.result.now) c.in-Some.name c.held_branches.ensures o q) c.symbol.ensures
