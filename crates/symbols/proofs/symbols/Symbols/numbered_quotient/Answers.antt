use Rattle.std.proofs.Common.{true}
use Rattle.symbols.specs.Results.{GivesResult, GivesInRange}
use Rattle.std.proofs.lemmas.Result.{IfOk-weaker}
use Rattle.symbols.proofs.ResultLemmas.{quotient_ranged}
use Rattle.symbols.proofs.symbols.Symbols.numbered_quotient.Goals as goal

pub returns : goal.returns
returns c =
    let k = c.args.self.now in
    let z = c.operation.new.self in
    let l = c.args.dividend.now in
    let m = c.args.divisor.now in
    let x = c.range_of-x.result in
    let y = c.range_of-y.result in
    let g = c.quotient_range-range.result in
    IfOk-weaker c.operation.result (λ e. GivesInRange true g.least g.greatest k z l m e) (λ e. GivesResult true k z l m e)
    (λ e s. quotient_ranged k z l m e x.least x.greatest y.least y.greatest g.least g.greatest c.range_of-x.ensures.least c.range_of-x.ensures.greatest c.range_of-y.ensures.least
    c.range_of-y.ensures.greatest c.quotient_range-range.ensures s)
    c.operation.ensures
