-- What is told of a part at which reading stops.
use Rattle.std.specs.Prelude.{ℕ, List, map, Option}
use Rattle.json.specs.Token.{Token}
use Rattle.json.specs.Reads.{token_of}
use Rattle.json_read_names.specs.declared.fault.JsonFault.{JsonFault}
use Rattle.text_spots.specs.declared.spots.Spot.{Spot}
use Rattle.json_forms.specs.declared.sort.Sort.{Sort}
use Rattle.json_stops.specs.declared.stop.Step.{Step}
use Rattle.told_parts.specs.declared.part.Told as code

-- the way to it and its spot in the text, what it is read as, why it isn't, the token with which it begins, where it is an object
-- its keys, where it is an entry that is given again the spot of the first, and where it is a name that none has the names that there are
pub record Told : Type 0 where
  pub path : List Step
  pub spot : Spot
  pub sort : Sort
  pub fault : JsonFault
  pub token : Token
  pub keys : List (List ℕ)
  pub first : Option Spot
  pub names : List (List ℕ)

-- what code tells
abbrev pub seen : code.Told → Told
seen t = record { path = t.path.now; spot = t.spot; sort = t.sort; fault = t.fault; token = token_of t.token; keys = map (λ key. key.now) t.keys.now; first = t.first; names = map (λ name. name.now) t.names.now }
