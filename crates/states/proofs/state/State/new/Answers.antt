use Rattle.std.proofs.Math.Facts.{to_z-of_z}
use Rattle.names.specs.Orders.{account_cmp, choice_id_cmp, bytes_cmp}
use Rattle.names.proofs.FromCollections.Maps.{no_entries}
use Rattle.states.proofs.state.State.new.Goals as goal

pub returns : goal.returns
returns c =
    let time = to_z-of_z c.ranges.min_time in
    rw (c.new.ensures, c.new-2.ensures, c.new-3.ensures, no_entries account_cmp, no_entries choice_id_cmp, no_entries bytes_cmp, time)
