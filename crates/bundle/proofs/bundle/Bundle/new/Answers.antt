use Rattle.std.proofs.Common.{◌∙◌, ap}
use Rattle.std.specs.FinMap.{from_sorted}
use Rattle.names.specs.Orders.{token_cmp}
use Rattle.names.proofs.FromCollections.Maps.{no_entries}
use Rattle.bundle.proofs.bundle.Bundle.new.Goals as goal

pub returns : goal.returns
returns c = ap (from_sorted {R = token_cmp}) c.new.ensures.items ∙ no_entries token_cmp
