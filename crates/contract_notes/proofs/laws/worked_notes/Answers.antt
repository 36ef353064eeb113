use Rattle.contract_notes.proofs.WorkedLemmas.{name_is_unbound, own_value_is_unbound}
use Rattle.contract_notes.proofs.laws.worked_notes.Goals as goal

pub returns-clause-unbound : goal.returns-clause-unbound
returns-clause-unbound c = name_is_unbound

pub returns-clause-own : goal.returns-clause-own
returns-clause-own c = own_value_is_unbound
