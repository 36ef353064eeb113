-- The worked rows.
use Rattle.std.proofs.Common.{refl}
use Rattle.json_read_inputs.specs.ReadsState.{bound_row_by}
use Rattle.json_stops.specs.Rows.{RepeatsAreFound, ReadingStopsAtRepeats}

pub repeats_are_found : RepeatsAreFound
repeats_are_found = (refl, refl, refl, refl)

pub reading_stops_at_repeats : ReadingStopsAtRepeats
unfolding bound_row_by
reading_stops_at_repeats = refl
