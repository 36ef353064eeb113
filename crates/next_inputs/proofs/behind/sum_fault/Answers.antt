use Rattle.std.specs.Int.{w128}
use Rattle.std.proofs.lemmas.Int.{to_z-of_z}
use Rattle.next_inputs.proofs.BehindLemmas.{added, not_added}
use Rattle.next_inputs.proofs.behind.sum_fault.Goals as goal

pub returns-then-amount-gt0 : goal.returns-then-amount-gt0
returns-then-amount-gt0 c =
    let h = rw (to_z-of_z w128 c.args.held c.ranges.held, to_z-of_z w128 c.args.amount c.ranges.amount) at c.sum.ensures in
    let b = rw (to_z-of_z w128 c.args.amount c.ranges.amount) at c.if-amount-gt0.true in
    added c.args.held c.args.amount c.sum.result c.refusal_of.result c.refusal_of.ensures h b

pub returns-else-amount-gt0 : goal.returns-else-amount-gt0
returns-else-amount-gt0 c =
    let b = rw (to_z-of_z w128 c.args.amount c.ranges.amount) at c.if-amount-gt0.false in
    not_added c.args.held c.args.amount b
