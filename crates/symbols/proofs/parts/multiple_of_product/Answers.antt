use Rattle.std.specs.Int.{w128}
use Rattle.std.proofs.lemmas.Int.{to_z-of_z}
use Rattle.std.proofs.lemmas.Result.{IfOk-weaker}
use Rattle.symbols.proofs.PartLemmas.{multiple_of_both}
use Rattle.symbols.proofs.parts.multiple_of_product.Goals as goal

pub returns : goal.returns
returns c =
    let h = rw (to_z-of_z w128 c.args.factor c.ranges.factor) at c.multiple.ensures in
    IfOk-weaker c.multiple.result _ _
    (λ e s. multiple_of_both c.args.symbols.now c.in_order.new.symbols c.multiple.new.self c.args.first.now c.args.second.now c.args.one.now.symbol c.args.other.now.symbol c.in_ok-base.base e c.args.one.now.coefficient
    c.args.other.now.coefficient c.args.factor c.requires.one c.requires.other c.requires.factor c.in_ok-base.ensures s) h
