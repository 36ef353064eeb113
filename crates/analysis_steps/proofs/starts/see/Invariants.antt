use Rattle.std.proofs.Common.{◌≡◌, take, true, All}
use Rattle.semantics.specs.Evaluation.Numbers.{fits}
use Rattle.analysis_steps.proofs.starts.see.Given as goal

abbrev pub invariant-loop-entry : goal.invariant-loop-entry
invariant-loop-entry g l = All (λ e. fits e.1 ≡ true) (take l.entry-index l.entries)
