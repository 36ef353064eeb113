use Rattle.builder_laws.proofs.PartsLemmas.{parts_pass, parts_are_accepted, parts_are_accepted_after}
use Rattle.builder_laws.proofs.AfterPastsLemmas.{bytes_tell_apart}
use Rattle.builder_laws.proofs.accepted.parts_are_accepted.Goals as goal

pub returns-clause-passes : goal.returns-clause-passes
returns-clause-passes c = parts_pass

pub returns-clause-accepted : goal.returns-clause-accepted
returns-clause-accepted c = parts_are_accepted c.found_is_enough.ensures

pub returns-clause-after : goal.returns-clause-after
returns-clause-after c = parts_are_accepted_after c.found_is_enough.ensures (bytes_tell_apart c.no_transaction_begins_another.ensures.no_other)
