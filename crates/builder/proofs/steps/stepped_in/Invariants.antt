use Rattle.std.proofs.Common.{◌≡◌, drop}
use Rattle.builder_spec.specs.Parts.{stepped_in}
use Rattle.builder.proofs.StandingLemmas.{behind}
use Rattle.builder.proofs.steps.stepped_in.Given as goal

abbrev pub invariant-loop-part : goal.invariant-loop-part
invariant-loop-part l = stepped_in l.parts ≡ behind l.steps.items (stepped_in (drop l.part-index l.parts))
