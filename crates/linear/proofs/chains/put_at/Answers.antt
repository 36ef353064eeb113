use Rattle.std.proofs.Common.{arith}
use Rattle.std.specs.Int.{w128}
use Rattle.std.proofs.lemmas.Int.{to_z-of_z}
use Rattle.std.proofs.lemmas.List.{length-set}
use Rattle.linear.proofs.ChainLemmas.{put_in_more}
use Rattle.linear.proofs.chains.put_at.Goals as goal

pub returns-clause-put : goal.returns-clause-put
returns-clause-put c =
    rw (to_z-of_z w128 c.args.coefficient c.ranges.coefficient)
    (put_in_more c.args.out.now c.args.count c.args.symbol c.args.coefficient (omega arith) c.requires.few (length-set c.args.out.now c.args.count (c.args.symbol, c.args.coefficient)))
