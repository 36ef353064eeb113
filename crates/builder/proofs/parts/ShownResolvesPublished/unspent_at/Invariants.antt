use Rattle.std.proofs.Common.{◌≡◌, drop}
use Rattle.builder_spec.specs.Parts.{output_by_parts}
use Rattle.builder.proofs.parts.ShownResolvesPublished.unspent_at.Given as goal

abbrev pub invariant-loop-part : goal.invariant-loop-part
invariant-loop-part l = output_by_parts l.self.parts.now l.reference ≡ output_by_parts (drop l.part-index l.self.parts.now) l.reference
