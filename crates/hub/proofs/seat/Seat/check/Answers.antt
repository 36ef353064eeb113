use Rattle.std.proofs.Common.{subst}
use Rattle.hub.specs.Seats.{SeatRecord, seat_record}
use Rattle.hub.specs.HubSupport.{Fits}
use Rattle.hub.proofs.SeatsLemmas.{fits_prefix}
use Rattle.hub.proofs.seat.Seat.check.Goals as goal

pub returns : goal.returns
returns g c =
    let fits = fits_prefix c.self.inside.seen c.args.history.now (seat_record c.self.inside.number c.self.inside.answers.items) c.covers.ensures c.self.invariant.2 in
    subst (λ (s : SeatRecord). Fits c.args.history.now s) c.self.view_is fits
