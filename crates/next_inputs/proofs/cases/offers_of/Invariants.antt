use Rattle.std.proofs.Common.{◌≡◌, length, take}
use Rattle.semantics.specs.Evaluation.Path.{waits_for}
use Rattle.next_inputs.specs.Claiming.{offers_of}
use Rattle.next_inputs.proofs.cases.offers_of.Given as goal

abbrev pub invariant-loop-share : goal.invariant-loop-share
invariant-loop-share g l = record {
  many : length l.offers ≡ length l.yielded;
  offers : l.offers ≡ offers_of l.interval l.state (take (length l.yielded) (waits_for (g.S.Parts.tree l.parts l.place))) l.yielded;
}
