use Rattle.std.proofs.lemmas.Result.{IfOk-weaker}
use Rattle.symbols.proofs.PartLemmas.{sum_of_parts, other_way}
use Rattle.symbols.proofs.parts.+products.Goals as goal

pub by_parts-returns-in_ok-other-in-Some : goal.by_parts-returns-in_ok-other-in-Some
by_parts-returns-in_ok-other-in-Some t c =
    let parted = rw (c.in-Some.is, c.count.ensures) at c.in_ok-apart.ensures in
    IfOk-weaker c.sum.result _ _
    (λ e h. sum_of_parts c.args.symbols.now c.by_parts.new.symbols c.by_parts-in-Some.new.symbols c.sum.new.symbols c.args.first.now c.args.second.now c.in-Some.parts.head c.in-Some.parts.tail c.in_ok-one-in-Some.one c.in_ok-other-in-Some.other e
    parted c.in_ok-one-in-Some.ensures c.in_ok-other-in-Some.ensures h) c.sum.ensures

pub by_second-returns-then-more : goal.by_second-returns-then-more
by_second-returns-then-more t c =
    IfOk-weaker c.by_parts.result _ _ (λ e h. other_way c.args.symbols.now c.by_parts.new.symbols c.args.first.now c.args.second.now e h) c.by_parts.ensures
