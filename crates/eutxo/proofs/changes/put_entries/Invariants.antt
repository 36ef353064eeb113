use Rattle.std.proofs.Common.{◌≡◌, ◌++◌, drop}
use Rattle.eutxo_types.specs.Bundle.Bundles.{AllPositive}
use Rattle.eutxo.specs.ChangesSupport.{signed_entries}
use Rattle.eutxo.proofs.changes.put_entries.Given as goal

abbrev pub invariant-loop-entry : goal.invariant-loop-entry
invariant-loop-entry l = record {
  positive : AllPositive (drop l.entry-index l.entries);
  put : l.changes.items ++ signed_entries l.made (drop l.entry-index l.entries) ≡ l.fn.changes.items ++ signed_entries l.made l.entries;
}
