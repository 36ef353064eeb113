use Rattle.contract_notes.proofs.SameLemmas.{text_so}
use Rattle.contract_notes.proofs.reads.is_text.Goals as goal

pub returns : goal.returns
returns c = text_so c.args.text.now c.args.other.now c.same.result c.same.ensures
