use Rattle.linear.proofs.chains.+least_in_steps.Given as goal

abbrev pub decreases-least_in_steps : goal.decreases-least_in_steps
decreases-least_in_steps l = l.steps
