use Rattle.contract_notes.proofs.SameLemmas.{choice_so}
use Rattle.contract_notes.proofs.reads.is_id.Goals as goal

pub returns : goal.returns
returns c = choice_so c.args.id.now c.args.other.now c.same.result c.same.ensures
