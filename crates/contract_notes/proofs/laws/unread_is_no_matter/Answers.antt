use Rattle.contract_notes.proofs.UnreadLemmas.{unread_is_no_matter}
use Rattle.contract_notes.proofs.laws.unread_is_no_matter.Goals as goal

pub returns : goal.returns
returns c = unread_is_no_matter
