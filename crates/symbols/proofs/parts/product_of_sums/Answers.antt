use Rattle.symbols.proofs.ProductLemmas.{product_learned, product_both}
use Rattle.symbols.proofs.parts.product_of_sums.Goals as goal

pub returns-then-now-count : goal.returns-then-now-count
returns-then-now-count c =
    product_learned c.args.symbols.now c.by_parts.new.symbols c.learn_range.new.symbols c.args.first.now c.args.second.now c.in_ok-e.e c.range_of-left.result c.range_of-right.result c.range_of-left.ensures.least
    c.range_of-left.ensures.greatest c.range_of-right.ensures.least c.range_of-right.ensures.greatest c.in_ok-e.ensures c.in_ok-learn_range.ensures

pub returns : goal.returns
returns c =
    product_learned c.args.symbols.now c.by_parts.new.symbols c.learn_product.new.symbols c.args.first.now c.args.second.now c.in_ok-e.e c.range_of-left.result c.range_of-right.result c.range_of-left.ensures.least
    c.range_of-left.ensures.greatest c.range_of-right.ensures.least c.range_of-right.ensures.greatest c.in_ok-e.ensures
    (product_both c.range_of-left.result c.range_of-right.result c.by_parts.new.symbols c.learn_range.new.symbols c.learn_product.new.symbols c.args.first.now c.args.second.now c.in_ok-e.e c.in_ok-learn_range.ensures
    c.in_ok-learn_product.ensures)
