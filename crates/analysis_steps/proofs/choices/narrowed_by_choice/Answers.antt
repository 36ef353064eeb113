use Rattle.std.proofs.Common.{sym, ◌∙◌}
use Rattle.std.specs.List.{list_any}
use Rattle.contract.specs.Names.Equal.{same_choice_id}
use Rattle.semantics.specs.Applying.{in_bound}
use Rattle.analysis_steps.proofs.ChosenLemmas.{and_right}
use Rattle.analysis_steps.proofs.choices.narrowed_by_choice.Goals as goal

pub returns-then-same : goal.returns-then-same
returns-then-same c = λ n h k.
    c.narrowed_by.ensures n (and_right (same_choice_id c.args.id.now c.args.of.now) (list_any (in_bound n) c.args.bounds.now) (sym c.same_choice-same.ensures ∙ c.if-same.true) h) k
