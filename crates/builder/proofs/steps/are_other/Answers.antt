use Rattle.std.proofs.Common.{not, ap}
use Rattle.contract.proofs.FromCollections.SameLaws.{same_by_from}
use Rattle.builder_spec.specs.Roles.contracts.published.Published as publications
use Rattle.builder.proofs.steps.are_other.Goals as goal

pub returns : goal.returns
returns c = ap not (same_by_from publications.the_row.coded c.args.a.now c.args.b.now c.same.result c.same.ensures)
