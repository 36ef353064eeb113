use Rattle.std.proofs.Common.{◌-◌, length, drop}
use Rattle.linear.proofs.LinearLaws.{natural_take, natural_drop}
use Rattle.linear.proofs.bounds.follows_newest.Goals as goal

pub returns : goal.returns
returns c = λ yes r v f. c.follows.ensures yes r v (natural_take r (length c.args.facts.now - c.args.from) (drop c.args.from c.args.facts.now) (natural_drop r c.args.from c.args.facts.now f))
