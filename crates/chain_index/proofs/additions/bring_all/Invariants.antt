use Rattle.std.proofs.Common.{◌≡◌, take}
use Rattle.ledger_spec.specs.EutxoTypes.Parts.{contract_count}
use Rattle.chain_index.proofs.DataLemmas.{AreBringing}
use Rattle.chain_index.proofs.additions.bring_all.Given as goal

abbrev pub invariant-loop-i : goal.invariant-loop-i
invariant-loop-i l = record {
  bringing : AreBringing l.tx l.fn.datums.entries l.datums.entries l.i;
  count : l.count ≡ contract_count (take l.i l.tx.outputs);
}
