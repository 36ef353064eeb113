use Rattle.std.proofs.Common.{◌≡◌, ◌++◌, drop, map}
use Rattle.builder_spec.specs.Ledger.declared.look.Unspent.{Unspent}
use Rattle.coin_selection.proofs.limits.put_references.Given as goal

abbrev pub invariant-loop-unspent : goal.invariant-loop-unspent
invariant-loop-unspent l = l.references.items ++ map (λ (u : Unspent). u.reference) (drop l.unspent-index l.outputs) ≡ l.fn.references.items ++ map (λ (u : Unspent). u.reference) l.outputs
