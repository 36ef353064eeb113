use Rattle.std.proofs.Common.{take}
use Rattle.semantics.specs.Evaluation.Path.{waits_for}
use Rattle.next_inputs.specs.Claiming.{AreClaims}
use Rattle.next_inputs.proofs.claiming.claims_of.Given as goal

abbrev pub invariant-loop-index : goal.invariant-loop-index
invariant-loop-index g l = AreClaims l.interval l.state (take l.index (waits_for (g.S.Parts.tree l.parts l.place))) l.claims.items
