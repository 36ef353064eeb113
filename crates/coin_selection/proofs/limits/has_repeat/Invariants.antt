use Rattle.std.proofs.Common.{◌≡◌, false, drop}
use Rattle.std.specs.List.{list_any}
use Rattle.std.specs.HashSet.{contains}
use Rattle.builder_spec.specs.EutxoTypes.declared.output_ref.OutputRef.{OutputRef}
use Rattle.builder_spec.specs.EutxoTypes.Parts.{same_ref}
use Rattle.builder_spec.specs.Causes.{has_repeat}
use Rattle.coin_selection.proofs.limits.has_repeat.Given as goal

-- the set has those that come later, and none of them stands twice
abbrev pub invariant-loop-i : goal.invariant-loop-i
invariant-loop-i l = record {
  once : has_repeat (drop l.i l.references) ≡ false;
  among : (r : OutputRef) → contains same_ref l.later r ≡ list_any (λ s. same_ref s r) (drop l.i l.references);
}
