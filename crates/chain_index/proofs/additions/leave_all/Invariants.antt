use Rattle.std.proofs.Common.{◌≡◌, ◌||◌, drop}
use Rattle.std.specs.List.{list_any}
use Rattle.ledger_spec.specs.EutxoTypes.declared.output_ref.OutputRef.{OutputRef}
use Rattle.ledger_spec.specs.EutxoTypes.Parts.{same_ref}
use Rattle.chain_index.specs.Contents.{is_among}
use Rattle.chain_index.specs.PartsSupport.{IsFront}
use Rattle.chain_index.proofs.additions.leave_all.Given as goal

abbrev pub invariant-loop-x : goal.invariant-loop-x
invariant-loop-x l = record {
  leaving : (r : OutputRef) → (list_any (λ x. same_ref x.reference r) l.inputs || is_among l.fn.leaving.keys r) ≡ (list_any (λ x. same_ref x.reference r) (drop l.x-index l.inputs) || is_among l.leaving.keys r);
  grown : IsFront l.fn.leaving.keys l.leaving.keys;
}
