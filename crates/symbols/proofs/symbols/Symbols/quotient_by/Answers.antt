use Rattle.std.proofs.Common.{◌≡◌, pos, arith}
use Rattle.std.specs.Int.{w128}
use Rattle.std.proofs.lemmas.Int.{ints, to_z-of_z}
use Rattle.symbols.proofs.QuotientLemmas.{by_zero}
use Rattle.symbols.proofs.symbols.Symbols.quotient_by.Goals as goal

pub returns-then-divisor-eq0 : goal.returns-then-divisor-eq0
returns-then-divisor-eq0 c = let z : c.args.divisor ≡ pos 0 = omega (arith, ints) in rw c.number.ensures (by_zero c.args.self.now c.args.dividend.now c.args.divisor z)

pub returns-in-Some : goal.returns-in-Some
returns-in-Some c = let h = rw (to_z-of_z w128 c.args.divisor c.ranges.divisor) at c.in-Some.ensures in h c.args.self.now

pub returns-in-None : goal.returns-in-None
returns-in-None c = rw (to_z-of_z w128 c.args.divisor c.ranges.divisor) at c.signed_quotient.ensures
