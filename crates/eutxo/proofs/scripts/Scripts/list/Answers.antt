use Rattle.std.proofs.Common.{sym, ◌∙◌, ap}
use Rattle.std.specs.FinMap.{entries, entries-from_sorted}
use Rattle.contract.specs.Names.Orders.{bytes_cmp}
use Rattle.eutxo.proofs.scripts.Scripts.list.Goals as goal

pub returns-clause-all : goal.returns-clause-all
returns-clause-all g c = c.deref.ensures.value ∙ sym (ap entries (sym c.self.view_is) ∙ entries-from_sorted bytes_cmp c.self.inside.entries.items c.self.invariant)
