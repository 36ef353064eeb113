-- Why a value isn't read as one of a sort: what the commands write of such a part of a text, without what only a text has.
use Rattle.std.specs.Prelude.{◌≡◌, ℕ, List, [], Option, Some, None}
use Rattle.json.specs.Token.{Token}
use Rattle.serde_json.specs.Data.{Data, null, boolean, number, string, array, object}
use Rattle.serde_json.specs.Find.{get}
use Rattle.json_tree.specs.View.{view}
use Rattle.json_tree.specs.declared.tree.Json.{Json}
use Rattle.refusal_reasons.specs.JsonForms.declared.sort.Sort.{Sort}
use Rattle.refusal_reasons.specs.JsonStops.Stops.{IsStop, Place}
use Rattle.refusal_reasons.specs.ToldParts.Told.{Told}
use Rattle.refusal_reasons.specs.ToldParts.Members.{part_members}
use Rattle.refusal_reasons.specs.Explanations.Indexes.{keys_in}
use Rattle.requests.specs.Ids.{SpellsId}

-- the token with which the text of a value begins; of a number it is a text that has this value
abbrev pub BeginsWith : Data → Token → Type 0
BeginsWith null token = token ≡ Token.null
BeginsWith (boolean b) token = token ≡ Token.boolean b
BeginsWith (number n) token = (text : List ℕ) × SpellsId (number n) text × (token ≡ Token.number text)
BeginsWith (string s) token = token ≡ Token.string s
BeginsWith (array ds) token = token ≡ Token.begin_array
BeginsWith (object ms) token = token ≡ Token.begin_object

-- what is told of a place whose value begins with this token and has these keys. No member tells where it begins: it is as in a text of its own
abbrev pub told_at : Place → Token → List (List ℕ) → Told
told_at at token keys =
    record { path = at.path; spot = record { line = 1; column = 1 }; sort = at.sort; fault = at.fault; token = token; keys = keys; first = None; names = [] }

-- what is written of a place: keys stand in the order of a tree that has its value
pub record IsToldAt (at : Place) (written : List ℕ) : Type 0 where
  pub tree : Json
  pub token : Token
  pub has_value : view tree ≡ at.json
  pub begins : BeginsWith at.json token
  pub is : written ≡ part_members (told_at at token (keys_in tree))

abbrev pub IsTold : Option Place → List ℕ → Type 0
IsTold None written = written ≡ []
IsTold (Some at) written = IsToldAt at written

-- what is written of a value as one of a sort: of the place at which its reading stops, and nothing where it is read
pub record TellsPart (sort : Sort) (d : Data) (written : List ℕ) : Type 0 where
  pub place : Option Place
  pub stops : IsStop sort d place
  pub tells : IsTold place written

-- .. if there is one; of a part that isn't there nothing is told
abbrev pub TellsAny : Sort → Option Data → List ℕ → Type 0
TellsAny sort None written = written ≡ []
TellsAny sort (Some d) written = TellsPart sort d written

-- .. at a key
abbrev pub TellsAt : Sort → List ℕ → Data → List ℕ → Type 0
TellsAt sort key body written = TellsAny sort (get key body) written
