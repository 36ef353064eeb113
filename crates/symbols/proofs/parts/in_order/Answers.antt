use Rattle.std.proofs.lemmas.Result.{IfOk-weaker}
use Rattle.symbols.proofs.PartLemmas.{other_way}
use Rattle.symbols.proofs.parts.in_order.Goals as goal

pub returns-then-turned : goal.returns-then-turned
returns-then-turned c =
    IfOk-weaker c.numbered_product.result _ _ (λ e h. other_way c.args.symbols.now c.numbered_product.new.self c.args.one.now c.args.other.now e h) c.numbered_product.ensures
