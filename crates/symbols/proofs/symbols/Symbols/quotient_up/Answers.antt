use Rattle.std.proofs.Common.{◌≡◌, pos, arith}
use Rattle.std.specs.Int.{w128}
use Rattle.std.proofs.lemmas.Int.{ints, to_z-of_z}
use Rattle.symbols.proofs.QuotientLemmas.{by_one}
use Rattle.symbols.proofs.symbols.Symbols.quotient_up.Goals as goal

pub returns-then-divisor-eq1 : goal.returns-then-divisor-eq1
returns-then-divisor-eq1 c = let z : c.args.divisor ≡ pos 1 = omega (arith, ints) in by_one c.args.self.now c.args.dividend.now c.in_ok-same.same c.args.divisor z c.in_ok-same.ensures

pub returns : goal.returns
returns c = rw (to_z-of_z w128 c.args.divisor c.ranges.divisor) at c.quotient_symbol.ensures
