use Rattle.analysis_steps.proofs.choices.narrowed_by_case.Goals as goal

pub returns-in-Choice : goal.returns-in-Choice
returns-in-Choice c = λ n p k.
    let h = rw c.as_slice.ensures at c.narrowed_by_choice.ensures in
    h n (rw c.in-Choice.is at p.2) k
