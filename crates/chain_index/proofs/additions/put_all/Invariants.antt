use Rattle.std.proofs.Common.{◌≡◌, ◌≤◌, ◌++◌, ℕ, false, drop}
use Rattle.ledger_spec.specs.LedgerLaws.Past.{with_references}
use Rattle.chain_index.specs.Contents.{is_among}
use Rattle.chain_index.specs.HolesSupport.{known}
use Rattle.chain_index.specs.NamingSupport.{naming, slots}
use Rattle.chain_index.specs.PartsSupport.{IsFront}
use Rattle.chain_index.proofs.additions.put_all.Given as goal

abbrev pub invariant-loop-i : goal.invariant-loop-i
invariant-loop-i l = record {
  entries : l.outputs ++ slots (with_references (naming l.whose) l.i (drop l.i l.made)) ≡ l.fn.outputs ++ slots (with_references (naming l.whose) 0 l.made);
  grown : IsFront l.fn.outputs l.outputs;
  absent : (j : ℕ) → l.i ≤ j → is_among (known l.outputs) (naming l.whose j) ≡ false;
}
