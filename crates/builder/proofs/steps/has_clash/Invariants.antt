use Rattle.std.proofs.Common.{◌≡◌, ℕ, List, false, drop}
use Rattle.builder_spec.specs.Parts.{has_clash}
use Rattle.builder.specs.ClashSupport.{kept}
use Rattle.builder.proofs.ClashLemmas.{under}
use Rattle.builder.proofs.steps.has_clash.Given as goal

-- of those that come later no two clash, and the map has the next one of each script
abbrev pub invariant-loop-i : goal.invariant-loop-i
invariant-loop-i l = record {
  apart : has_clash (drop l.i l.steps) ≡ false;
  next : (id : List ℕ) → kept l.later id ≡ under (drop l.i l.steps) id;
}
