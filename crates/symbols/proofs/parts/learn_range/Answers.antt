use Rattle.symbols.proofs.PartLemmas.{range_learned}
use Rattle.symbols.proofs.parts.learn_range.Goals as goal

pub returns : goal.returns
returns c =
    let g = c.product_range-range.result in
    range_learned c.args.left c.args.right c.args.symbols.now c.learn_from.new.symbols c.learn_up_to.new.symbols c.args.first.now c.args.second.now c.args.product.now c.number-one.result g.least g.greatest
    c.unless-least.result c.unless-greatest.result c.number-one.ensures c.product_range-range.ensures c.unless-least.ensures.least c.unless-greatest.ensures.greatest c.in_ok-learn_from.ensures c.in_ok-learn_up_to.ensures
