-- No reader needs this file: it serves the proofs of this crate.
-- What code finds of a stop.
use Rattle.json_tree.specs.View.{view}
use Rattle.json_tree.specs.declared.tree.Json.{Json}
use Rattle.refusal_reasons.specs.JsonStops.declared.stop.Stop.{Stop}
use Rattle.refusal_reasons.specs.JsonStops.Stops.{Place}

-- a place that code tells of
abbrev pub place_of : Stop → Json → Place
place_of stop part = record { path = stop.path.items; sort = stop.sort; fault = stop.fault; json = view part }
