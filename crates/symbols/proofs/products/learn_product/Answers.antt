use Rattle.symbols.proofs.ProductLemmas.{product_both}
use Rattle.symbols.proofs.products.learn_product.Goals as goal

pub returns : goal.returns
returns c =
    product_both c.args.left c.args.right c.args.symbols.now c.learn_multiple.new.symbols c.learn_turned.new.symbols c.args.first.now c.args.second.now c.args.product.now c.in_ok-learn_multiple.ensures
    c.in_ok-learn_turned.ensures
