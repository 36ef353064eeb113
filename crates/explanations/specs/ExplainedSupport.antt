-- No reader needs this file: it serves the proofs of this crate.
-- What code finds of a stop.
use Rattle.std.specs.Prelude.{◌≡◌, ℕ, List}
use Rattle.std.specs.Str.{IsUtf8}
use Rattle.json.specs.Token.{Token}
use Rattle.json_tree.specs.View.{view}
use Rattle.json_tree.specs.declared.tree.Json.{Json}
use Rattle.text_spots.specs.declared.spots.Spot.{Spot}
use Rattle.text_spots.specs.Spots.{spot_at}
use Rattle.json_stops.specs.declared.stop.Stop.{Stop}
use Rattle.json_stops.specs.Stops.{Place}
use Rattle.explanations.specs.Explained.{StandsAt, token_behind}

-- a place that code tells of
abbrev pub place_of : Stop → Json → Place
place_of stop part = record { path = stop.path.items; sort = stop.sort; fault = stop.fault; json = view part }

-- where code finds that a part begins
abbrev pub Begins : ℕ → List ℕ → List ℕ → Spot → Token → Type 0
Begins depth text indexes spot token = (n : ℕ) × (spot ≡ spot_at text n) × (IsUtf8 text → token ≡ token_behind depth text indexes) × StandsAt text n token
