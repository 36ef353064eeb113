use Rattle.std.proofs.Common.{◌∙◌, ap}
use Rattle.std.specs.FinMap.{from_sorted, insert}
use Rattle.contract.specs.Names.Orders.{bytes_cmp}
use Rattle.eutxo.proofs.ScriptPutLemmas.{map_put, on_ok}
use Rattle.eutxo.proofs.scripts.Scripts.insert.Goals as goal

pub returns-clause-ok : goal.returns-clause-ok
returns-clause-ok g c =
    on_ok c.put_script.result
    (λ e. ap (from_sorted {R = bytes_cmp}) e ∙ map_put c.args.id c.args.script c.self.inside.entries.items c.self.invariant ∙ ap (λ m. insert m c.args.id c.args.script) c.self.view_is)
    c.put_script.ensures.ok
