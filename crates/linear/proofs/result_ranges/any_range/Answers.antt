use Rattle.linear.proofs.DivisionLaws.{any_quotients}
use Rattle.linear.proofs.result_ranges.any_range.Goals as goal

pub returns : goal.returns
returns c =
    any_quotients c.args.dividend.least c.args.dividend.greatest c.turned.result c.turned-2.result c.least_of_both.result c.greatest_of_both.result c.turned.ensures c.least_of_both.ensures
    c.turned-2.ensures c.greatest_of_both.ensures
