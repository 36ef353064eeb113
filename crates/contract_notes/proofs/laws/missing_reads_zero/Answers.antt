use Rattle.contract_notes.proofs.ComingLemmas.{missing_reads_zero}
use Rattle.contract_notes.proofs.laws.missing_reads_zero.Goals as goal

pub returns : goal.returns
returns c = missing_reads_zero
