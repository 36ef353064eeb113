use Rattle.std.proofs.Common.{rules, neg_ℤ, FitsSigned}
use Rattle.std.specs.Int.{w128}
use Rattle.std.proofs.lemmas.Int.{to_z-of_z}
use Rattle.symbols.specs.Quotients.{GivesQuotient}
use Rattle.std.proofs.lemmas.Result.{IfOk-weaker}
use Rattle.symbols.proofs.QuotientLemmas.{by_opposite}
use Rattle.symbols.proofs.symbols.Symbols.quotient_down.Goals as goal

pub returns-in-Some : goal.returns-in-Some
returns-in-Some c =
    let k = c.args.self.now in
    let n = c.turned_quotient.new.self in
    let l = c.args.dividend.now in
    let o = c.in-Some.opposite in
    let f : FitsSigned w128 o = search rules in
    let q = rw (to_z-of_z w128 c.args.divisor c.ranges.divisor) at c.in-Some.ensures in
    let h = rw (to_z-of_z w128 o f) at c.turned_quotient.ensures in
    IfOk-weaker c.turned_quotient.result (λ e. GivesQuotient (neg_ℤ o) k n l e) (λ e. GivesQuotient c.args.divisor k n l e) (λ e s. by_opposite k n l e c.args.divisor o q s) h

pub returns-in-None : goal.returns-in-None
returns-in-None c = rw (to_z-of_z w128 c.args.divisor c.ranges.divisor) at c.quotient_symbol.ensures
