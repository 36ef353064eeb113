use Rattle.linear.proofs.DivisionLaws.{natural_quotients}
use Rattle.linear.proofs.result_ranges.natural_range.Goals as goal

pub returns : goal.returns
returns c = natural_quotients c.args.dividend.least c.args.dividend.greatest c.least_of_both.result c.greatest_of_both.result c.least_of_both.ensures c.greatest_of_both.ensures
