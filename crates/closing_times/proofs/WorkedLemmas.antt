-- The worked closings.
use Rattle.std.proofs.Common.{refl}
use Rattle.semantics.specs.Computed.{from_start, computed}
use Rattle.closing_times.specs.Rows.{WaitingCloses, WaitingStays, PastIsRefused}

pub waiting_closes : WaitingCloses
unfolding computed from_start
waiting_closes = (refl, (_, refl))

pub waiting_stays : WaitingStays
unfolding computed from_start
waiting_stays = refl

pub past_is_refused : PastIsRefused
unfolding computed from_start
past_is_refused = refl
