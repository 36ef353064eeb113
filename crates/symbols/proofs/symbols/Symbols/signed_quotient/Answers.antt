use Rattle.std.specs.Int.{w128}
use Rattle.std.proofs.lemmas.Int.{to_z-of_z}
use Rattle.symbols.proofs.symbols.Symbols.signed_quotient.Goals as goal

pub returns-then-divisor-lt0 : goal.returns-then-divisor-lt0
returns-then-divisor-lt0 c = rw (to_z-of_z w128 c.args.divisor c.ranges.divisor) at c.quotient_down.ensures

pub returns-else-divisor-lt0 : goal.returns-else-divisor-lt0
returns-else-divisor-lt0 c = rw (to_z-of_z w128 c.args.divisor c.ranges.divisor) at c.quotient_up.ensures
