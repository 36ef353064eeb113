use Rattle.std.proofs.Common.{arith}
use Rattle.collections.proofs.bytes.bytes_of.Goals as goal

pub returns-clause-below_256 : goal.returns-clause-below_256
returns-clause-below_256 c = λ i. omega (arith, c.type_inv.bytes i)
