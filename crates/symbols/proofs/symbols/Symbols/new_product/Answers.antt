use Rattle.symbols.proofs.ResultLemmas.{product_ranged}
use Rattle.symbols.proofs.ProductLemmas.{product_learned}
use Rattle.symbols.proofs.symbols.Symbols.new_product.Goals as goal

pub returns : goal.returns
returns c =
    let x = c.range_of-x.result in
    let y = c.range_of-y.result in
    let g = c.product_range-range.result in
    rw (c.pass_over.ensures)
    (product_learned c.args.self.now c.new_operation.new.self c.learn_product.new.symbols c.args.first.now c.args.second.now c.in_ok-e.e x y c.range_of-x.ensures.least c.range_of-x.ensures.greatest
    c.range_of-y.ensures.least c.range_of-y.ensures.greatest
    (product_ranged c.args.self.now c.new_operation.new.self c.args.first.now c.args.second.now c.in_ok-e.e x.least x.greatest y.least y.greatest g.least g.greatest c.range_of-x.ensures.least c.range_of-x.ensures.greatest
    c.range_of-y.ensures.least c.range_of-y.ensures.greatest c.product_range-range.ensures c.in_ok-e.ensures)
    c.in_ok-learn_product.ensures)
