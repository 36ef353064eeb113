use Rattle.std.proofs.Common.{◌≡◌, drop}
use Rattle.names.specs.Collections.Repeats.{has_repeat}
use Rattle.names.specs.Orders.{account_cmp}
use Rattle.states.specs.Start.{entries_of}
use Rattle.states.proofs.start.repeats.Given as goal

abbrev pub invariant-loop-at : goal.invariant-loop-at
invariant-loop-at l = has_repeat account_cmp (entries_of l.accounts) ≡ has_repeat account_cmp (entries_of (drop l.at l.accounts))
