use Rattle.std.proofs.Common.{◌≡◌, ◌++◌, drop}
use Rattle.builder_spec.specs.Claims.{tokens_awaited}
use Rattle.builder.proofs.payouts.tokens_awaited.Given as goal

abbrev pub invariant-loop-payout : goal.invariant-loop-payout
invariant-loop-payout l = l.tokens.items ++ tokens_awaited (drop l.payout-index l.payouts) ≡ tokens_awaited l.payouts
