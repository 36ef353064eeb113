use Rattle.std.proofs.lemmas.Result.{on_ok_weaker}
use Rattle.symbols.proofs.ProductLemmas.{product_turned}
use Rattle.symbols.proofs.products.learn_turned.Goals as goal

pub returns : goal.returns
returns c =
    on_ok_weaker c.learn_multiple.result
    (λ h. product_turned c.args.left c.args.right c.args.symbols.now c.learn_multiple.new.symbols c.args.first.now c.args.second.now c.args.product.now h) c.learn_multiple.ensures
