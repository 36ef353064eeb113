use Rattle.analysis_steps.proofs.ChosenLemmas.{IsHullBefore}
use Rattle.analysis_steps.proofs.choices.hull.Given as goal

abbrev pub invariant-loop-bound : goal.invariant-loop-bound
invariant-loop-bound l = IsHullBefore l.bounds l.bound-index l.range
