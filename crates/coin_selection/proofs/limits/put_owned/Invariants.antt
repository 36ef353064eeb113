use Rattle.std.proofs.Common.{◌≡◌, ◌++◌, drop, map}
use Rattle.builder_spec.specs.Ledger.declared.look.Unspent.{Unspent}
use Rattle.coin_selection.proofs.limits.put_owned.Given as goal

abbrev pub invariant-loop-own : goal.invariant-loop-own
invariant-loop-own l = l.references.items ++ map (λ (u : Unspent). u.reference) (drop l.own-index l.owns) ≡ l.fn.references.items ++ map (λ (u : Unspent). u.reference) l.owns
