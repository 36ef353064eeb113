use Rattle.std.proofs.Common.{rules, true, FitsSigned}
use Rattle.std.specs.Int.{w128}
use Rattle.std.proofs.lemmas.Int.{to_z-of_z}
use Rattle.symbols.specs.Quotients.{GivesQuotient}
use Rattle.symbols.specs.Results.{GivesResult}
use Rattle.std.proofs.lemmas.Result.{IfOk-weaker}
use Rattle.symbols.proofs.QuotientLemmas.{by_number}
use Rattle.symbols.proofs.symbols.Symbols.quotient.Goals as goal

pub returns-then-number : goal.returns-then-number
returns-then-number c =
    let k = c.args.self.now in
    let z = c.quotient_by.new.self in
    let l = c.args.dividend.now in
    let m = c.args.divisor.now in
    let f : FitsSigned w128 c.constant.result = search rules in
    let h = rw (to_z-of_z w128 c.constant.result f) at c.quotient_by.ensures in
    IfOk-weaker c.quotient_by.result (λ e. GivesQuotient c.constant.result k z l e) (λ e. GivesResult true k z l m e)
    (λ e s. by_number k z l m e c.constant.result c.constant.ensures (c.is_number-number.ensures c.if-number.true) s) h
