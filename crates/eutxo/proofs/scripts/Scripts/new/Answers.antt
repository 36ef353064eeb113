use Rattle.std.proofs.Common.{◌∙◌, ap}
use Rattle.std.specs.FinMap.{from_sorted}
use Rattle.contract.specs.Names.Orders.{bytes_cmp}
use Rattle.contract.proofs.FromCollections.Maps.{no_entries}
use Rattle.eutxo.proofs.scripts.Scripts.new.Goals as goal

pub returns : goal.returns
returns g c = ap (from_sorted {R = bytes_cmp}) c.new.ensures.items ∙ no_entries bytes_cmp
