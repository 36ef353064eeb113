use Rattle.std.proofs.Common.{◌≡◌, ◌++◌, drop, map}
use Rattle.builder_spec.specs.Laying.{by_claim}
use Rattle.builder.proofs.payouts.put_claims.Given as goal

abbrev pub invariant-loop-payout : goal.invariant-loop-payout
invariant-loop-payout l = l.spends ++ map by_claim (drop l.payout-index l.payouts) ≡ l.fn.spends ++ map by_claim l.payouts
