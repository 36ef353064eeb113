use Rattle.builder_laws.proofs.AfterPastsLemmas.{bytes_tell_apart}
use Rattle.builder_laws.proofs.accepted.bytes_tell_accepted_apart.Goals as goal

pub returns : goal.returns
returns c = bytes_tell_apart c.no_transaction_begins_another.ensures.no_other
