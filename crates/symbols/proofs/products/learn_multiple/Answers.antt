use Rattle.std.proofs.lemmas.Result.{on_ok_weaker}
use Rattle.symbols.proofs.ProductLemmas.{product_none, product_natural, product_opposite}
use Rattle.symbols.proofs.products.learn_multiple.Goals as goal

pub returns-then-natural : goal.returns-then-natural
returns-then-natural c =
    on_ok_weaker c.learn_up_to.result
    (λ h. product_natural c.args.left c.args.right c.args.symbols.now c.learn_up_to.new.symbols c.args.first.now c.args.second.now c.args.product.now (c.is_natural-natural.ensures c.if-natural.true) h) c.learn_up_to.ensures

pub returns-then-opposite : goal.returns-then-opposite
returns-then-opposite c =
    on_ok_weaker c.learn_from.result
    (λ h. product_opposite c.args.left c.args.right c.args.symbols.now c.learn_from.new.symbols c.args.first.now c.args.second.now c.args.product.now (c.is_opposite-opposite.ensures c.if-opposite.true) h)
    c.learn_from.ensures

pub returns : goal.returns
returns c = product_none c.args.left c.args.right c.args.symbols.now c.args.first.now c.args.second.now c.args.product.now
