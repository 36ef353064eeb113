use Rattle.std.proofs.lemmas.Result.{IfOk-weaker}
use Rattle.analysis_steps.proofs.ChosenLemmas.{passed_of_end}
use Rattle.analysis_steps.proofs.choices.range_left.Goals as goal

pub returns-in-None : goal.returns-in-None
returns-in-None c = λ n p h. rw c.in-None.is at c.hull.ensures n h

pub returns-then-is_all : goal.returns-then-is_all
returns-then-is_all c = λ n p h.
    let within = rw c.in-Some.is at c.hull.ensures n h in
    c.unless_empty.ensures n (c.narrowed-left.ensures n (passed_of_end c.args.id.now n c.args.earlier.now c.last_of-cases.result.now c.last_of-cases.ensures p) within)

pub returns-else-is_all : goal.returns-else-is_all
returns-else-is_all c =
    IfOk-weaker c.range_by_claims.result _ _ (λ o g n p h. g n (passed_of_end c.args.id.now n c.args.earlier.now c.last_of-cases.result.now c.last_of-cases.ensures p) h) c.range_by_claims.ensures
