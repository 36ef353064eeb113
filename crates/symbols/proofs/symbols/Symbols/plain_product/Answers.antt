use Rattle.std.proofs.Common.{rules, false, FitsSigned}
use Rattle.std.specs.Int.{w128}
use Rattle.std.proofs.lemmas.Int.{to_z-of_z}
use Rattle.symbols.specs.Results.{GivesResult, GivesMultiple}
use Rattle.std.proofs.lemmas.Result.{IfOk-weaker}
use Rattle.symbols.proofs.ResultLemmas.{product_left, product_right}
use Rattle.symbols.proofs.symbols.Symbols.plain_product.Goals as goal

pub returns-then-left : goal.returns-then-left
returns-then-left c =
    let k = c.args.self.now in
    let z = c.multiple.new.self in
    let l = c.args.first.now in
    let m = c.args.second.now in
    let f : FitsSigned w128 c.constant.result = search rules in
    let h = rw (to_z-of_z w128 c.constant.result f) at c.multiple.ensures in
    IfOk-weaker c.multiple.result (λ e. GivesMultiple c.constant.result k z m e) (λ e. GivesResult false k z l m e)
    (λ e s. product_left k z l m e c.constant.result c.constant.ensures (c.is_number-left.ensures c.if-left.true) s) h

pub returns-then-right : goal.returns-then-right
returns-then-right c =
    let k = c.args.self.now in
    let z = c.multiple-then-right.new.self in
    let l = c.args.first.now in
    let m = c.args.second.now in
    let f : FitsSigned w128 c.constant-then-right.result = search rules in
    let h = rw (to_z-of_z w128 c.constant-then-right.result f) at c.multiple-then-right.ensures in
    IfOk-weaker c.multiple-then-right.result (λ e. GivesMultiple c.constant-then-right.result k z l e) (λ e. GivesResult false k z l m e)
    (λ e s. product_right k z l m e c.constant-then-right.result c.constant-then-right.ensures (c.is_number-right.ensures c.if-right.true) s) h
