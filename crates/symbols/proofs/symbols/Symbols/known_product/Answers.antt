use Rattle.std.proofs.Common.{◌≡◌, false}
use Rattle.std.proofs.lemmas.Result.{IfOk-weaker}
use Rattle.linear.specs.Linear.{symbol}
use Rattle.symbols.specs.Results.{GivesResult}
use Rattle.symbols.proofs.ResultLemmas.{named_gives, named_within, product_ranged}
use Rattle.symbols.proofs.symbols.Symbols.known_product.Goals as goal

pub returns-then-name-self : goal.returns-then-name-self
returns-then-name-self c =
    let k = c.args.self.now in
    let l = c.args.first.now in
    let n = c.args.second.now in
    IfOk-weaker c.symbol.result (λ e. e ≡ symbol c.args.name) (λ e. GivesResult false k k l n e) (λ e h. named_gives false k l n e c.args.name c.requires h) c.symbol.ensures

pub returns : goal.returns
returns c =
    let k = c.args.self.now in
    let m = c.narrow.new.self in
    let l = c.args.first.now in
    let n = c.args.second.now in
    let x = c.range_of-x.result in
    let y = c.range_of-y.result in
    let g = c.product_range-range.result in
    IfOk-weaker c.symbol-2.result (λ e. e ≡ symbol c.args.name) (λ e. GivesResult false k m l n e)
    (λ e h. product_ranged k m l n e x.least x.greatest y.least y.greatest g.least g.greatest c.range_of-x.ensures.least c.range_of-x.ensures.greatest c.range_of-y.ensures.least c.range_of-y.ensures.greatest
    c.product_range-range.ensures
    (named_within false g.least g.greatest k m l n e c.args.name c.requires c.in_ok-narrow.ensures h))
    c.symbol-2.ensures
