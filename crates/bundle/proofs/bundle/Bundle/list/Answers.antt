use Rattle.std.proofs.Common.{sym, ◌∙◌, ap}
use Rattle.std.specs.FinMap.{entries, entries-from_sorted}
use Rattle.names.specs.Orders.{token_cmp}
use Rattle.bundle.proofs.bundle.Bundle.list.Goals as goal

pub returns-clause-all : goal.returns-clause-all
returns-clause-all c = c.deref.ensures.value ∙ sym (ap entries (sym c.self.view_is) ∙ entries-from_sorted token_cmp c.self.inside.entries.items c.self.invariant.0)
