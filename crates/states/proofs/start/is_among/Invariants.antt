use Rattle.std.proofs.Common.{◌≡◌, drop}
use Rattle.names.specs.Collections.Repeats.{has_key}
use Rattle.names.specs.Orders.{account_cmp}
use Rattle.states.specs.Start.{entries_of}
use Rattle.states.proofs.start.is_among.Given as goal

abbrev pub invariant-loop-row : goal.invariant-loop-row
invariant-loop-row l =
    has_key account_cmp (record { owner = l.owner; token = l.token }) (entries_of l.accounts) ≡ has_key account_cmp (record { owner = l.owner; token = l.token }) (entries_of (drop l.row-index l.accounts))
