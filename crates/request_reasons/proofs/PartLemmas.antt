-- What is told of a value, by what code finds.
use Rattle.std.proofs.Common.{◌≡◌, ℕ, List, [], Some, None, refl, ap, ◌∙◌}
use Rattle.json.specs.Token.{Token}
use Rattle.serde_json.specs.Data.{Data, Num, number}
use Rattle.requests.specs.Ids.{SpellsId}
use Rattle.refusal_reasons.specs.ToldParts.Told.{Told}
use Rattle.json_tree.specs.View.{view}
use Rattle.json_tree.specs.declared.tree.Json.{Json}
use Rattle.refusal_reasons.specs.JsonForms.declared.sort.Sort.{Sort}
use Rattle.refusal_reasons.specs.JsonStops.declared.stop.Stop.{Stop}
use Rattle.refusal_reasons.specs.JsonStops.Stops.{IsStop, Place}
use Rattle.refusal_reasons.specs.ToldParts.Members.{part_members}
use Rattle.refusal_reasons.specs.Explanations.Indexes.{keys_in}
use Rattle.request_reasons.specs.Parts.{BeginsWith, IsToldAt, TellsPart, told_at}
use Rattle.request_reasons.specs.PartsSupport.{place_of}
use Rattle.request_reasons.specs.Scenarios.{TellsScenario}
use Rattle.refusal_reasons.specs.ScenarioStops.Stops.{IsScenarioStop}

pub stop_told : (sort : Sort) (d : Data) (at : Place) (written : List ℕ) → IsStop sort d (Some at) → IsToldAt at written → TellsPart sort d written
stop_told sort d at written stops told = record { place = Some at; stops = stops; tells = told }

pub none_told : (sort : Sort) (d : Data) (written : List ℕ) → IsStop sort d None → written ≡ [] → TellsPart sort d written
none_told sort d written stops is = record { place = None; stops = stops; tells = is }

pub scenario_stop_told : (d : Data) (at : Place) (written : List ℕ) → IsScenarioStop d (Some at) → IsToldAt at written → TellsScenario d written
scenario_stop_told d at written stops told = record { place = Some at; stops = stops; tells = told }

pub no_scenario_stop_told : (d : Data) (written : List ℕ) → IsScenarioStop d None → written ≡ [] → TellsScenario d written
no_scenario_stop_told d written stops is = record { place = None; stops = stops; tells = is }

-- the text of a number is its token
pub number_begins : (n : Num) (text : List ℕ) → SpellsId (number n) text → BeginsWith (number n) (Token.number text)
number_begins n text spells = (text, spells, refl)

-- the members of code
pub members_told : (stop : Stop) (part : Json) (token : Token) (t : Told) (written : List ℕ) → t.path ≡ stop.path.items → t.spot ≡ record { line = 1; column = 1 } → t.sort ≡ stop.sort → t.fault ≡ stop.fault → t.token ≡ token
    → t.keys ≡ keys_in part → t.first ≡ None → t.names ≡ [] → written ≡ part_members t → written ≡ part_members (told_at (place_of stop part) token (keys_in part))
members_told stop part token t written path spot sort fault begins keys first names are =
    let same : t ≡ told_at (place_of stop part) token (keys_in part) =
    λ i. record { path = path i; spot = spot i; sort = sort i; fault = fault i; token = begins i; keys = keys i; first = first i; names = names i } in
    are ∙ ap part_members same

pub token_told : (stop : Stop) (part : Json) (token : Token) (written : List ℕ) → BeginsWith (view part) token → written ≡ part_members (told_at (place_of stop part) token (keys_in part))
    → IsToldAt (place_of stop part) written
token_told stop part token written begins is = record { tree = part; token = token; has_value = refl; begins = begins; is = is }
