use Rattle.std.proofs.Common.{sym, ◌∙◌, ap}
use Rattle.std.specs.FinMap.{get-entries}
use Rattle.std.specs.FinMap.Entries.{find}
use Rattle.contract.specs.Names.Orders.{bytes_cmp}
use Rattle.eutxo.proofs.scripts.Scripts.get.Goals as goal

pub returns : goal.returns
returns g c = c.script_in.ensures ∙ ap (find bytes_cmp c.args.id.now) c.list.ensures.all ∙ sym (get-entries c.args.self.now c.args.id.now)
