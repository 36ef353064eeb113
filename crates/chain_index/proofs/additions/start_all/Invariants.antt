use Rattle.std.proofs.Common.{◌≡◌, take}
use Rattle.ledger_spec.specs.EutxoTypes.Parts.{contract_count}
use Rattle.chain_index.proofs.StartLemmas.{AreStarting}
use Rattle.chain_index.proofs.additions.start_all.Given as goal

abbrev pub invariant-loop-i : goal.invariant-loop-i
invariant-loop-i l = record {
  starting : AreStarting l.tx l.fn.starts.keys l.starts.keys l.i;
  count : l.count ≡ contract_count (take l.i l.tx.outputs);
}
