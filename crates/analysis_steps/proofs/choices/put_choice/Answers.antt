use Rattle.std.proofs.Common.{sym, ◌∙◌}
use Rattle.std.proofs.lemmas.Result.{on_ok_weaker}
use Rattle.analysis_steps.proofs.ChosenLemmas.{unclaimed_on}
use Rattle.analysis_steps.proofs.choices.put_choice.Goals as goal

pub returns-then-same : goal.returns-then-same
returns-then-same c =
    on_ok_weaker c.put_bounds.result
    (λ h. unclaimed_on c.args.id.now c.args.of.now c.args.bounds.now c.args.claims.now.items c.put_bounds.new.claims.items (sym c.same_choice-same.ensures ∙ c.if-same.true) h) c.put_bounds.ensures

pub returns-else-same : goal.returns-else-same
returns-else-same c = λ n h k. k
