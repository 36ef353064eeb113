use Rattle.std.proofs.lemmas.Result.{on_ok_weaker}
use Rattle.analysis_steps.proofs.choices.put_case.Goals as goal

pub returns-in-Choice : goal.returns-in-Choice
returns-in-Choice c =
    on_ok_weaker c.put_choice.result (λ g n p k. (rw c.as_slice.ensures at g) n (rw c.in-Choice.is at p.2) k) c.put_choice.ensures
