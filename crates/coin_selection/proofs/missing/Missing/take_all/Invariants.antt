use Rattle.std.proofs.Common.{◌≡◌, drop}
use Rattle.std.specs.FinMap.{get}
use Rattle.contract.specs.Collections.Positive.{AllPositive}
use Rattle.contract.specs.Names.declared.token.Token.{Token}
use Rattle.coin_selection.specs.MeetSupport.{left_after}
use Rattle.coin_selection.proofs.missing.Missing.take_all.Given as goal

abbrev pub invariant-loop-entry : goal.invariant-loop-entry
invariant-loop-entry l = record {
  positive : AllPositive (drop l.entry-index l.entries);
  met : (t : Token) → left_after (get l.self t) t (drop l.entry-index l.entries) ≡ left_after (get l.fn.self t) t l.entries;
}
