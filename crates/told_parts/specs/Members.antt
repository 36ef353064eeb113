-- The members of a JSON object, for tools: from what is told, as the lines are.
use Rattle.std.specs.Prelude.{◌≡◌, ℕ, pos, List, [], ◌∷◌, ◌++◌, map, take, Option, Some, None, codes}
use Rattle.serde_json.specs.Data.{Data, string, array, object}
use Rattle.serde_json.specs.Written.{compact_text}
use Rattle.serde_json.specs.View.{items_of}
use Rattle.json.specs.Token.{Token}
use Rattle.text_spots.specs.declared.spots.Spot.{Spot}
use Rattle.json_write_contracts.specs.WrittenNames.{number_json, two}
use Rattle.json_forms.specs.declared.sort.Sort.{Sort}
use Rattle.json_forms.specs.declared.sort.Sort.TheVariants as sorts
use Rattle.json_forms.specs.declared.sort.ScenarioSort.TheVariants as parts
use Rattle.json_forms.specs.Forms.{key_word}
use Rattle.json_stops.specs.declared.stop.Step.{Step}
use Rattle.json_stops.specs.declared.stop.Step.TheVariants as steps
use Rattle.json_members.specs.Members.{Member, members_from, first_member, next_member, next_text, count_json, words_json}
use Rattle.told_parts.specs.Words.{sort_text}
use Rattle.told_parts.specs.Told.{Told}
use Rattle.told_parts.specs.Lines.{token_text, hint_text, near_key, sought}

-- ---- where

-- keys and indexes, as an analysis writes a place
abbrev pub step_json : Step → Data
step_json (steps.Key k) = string (key_word k)
step_json (steps.Item n) = number_json (pos n)

abbrev pub path_json : List Step → Data
path_json path = array (items_of (map step_json path))

-- the file, the line and the column
abbrev pub spot_members : List ℕ → Spot → List ℕ
spot_members file spot = first_member (codes "file") (string file) ++ (next_member (codes "line") (count_json spot.line) ++ next_member (codes "column") (count_json spot.column))

abbrev pub where_members : List ℕ → Told → List ℕ
where_members file t = spot_members file t.spot ++ next_member (codes "place") (path_json t.path)

-- ---- what is wanted, and what stands there

abbrev pub wanted_text : Sort → List ℕ
wanted_text (sorts.Repeated n) = codes "an entry with a key of its own"
wanted_text sort = sort_text sort

-- the first ten keys of an object
abbrev pub keys_member : Token → List (List ℕ) → List ℕ
keys_member Token.begin_object keys = next_member (codes "keys") (words_json (take 10 keys))
keys_member token keys = []

abbrev pub what_members : Told → List ℕ
what_members t =
    next_member (codes "wanted") (string (wanted_text t.sort)) ++ (next_member (codes "stands") (string (token_text t.token)) ++ keys_member t.token t.keys)

-- ---- what to do

abbrev pub near_member : Option (List ℕ) → List ℕ
near_member None = []
near_member (Some key) = next_member (codes "nearest") (string key)

abbrev pub hint_members : Told → List ℕ
hint_members t = next_member (codes "hint") (string (hint_text t.fault t)) ++ near_member (near_key t.sort (sought t.keys))

-- ---- what else there is

-- where the first entry with the same key stands
abbrev pub spot_object : Spot → List ℕ
spot_object spot = codes "{" ++ (first_member (codes "line") (count_json spot.line) ++ (next_member (codes "column") (count_json spot.column) ++ codes "}"))

abbrev pub first_spot_member : Option Spot → List ℕ
first_spot_member None = []
first_spot_member (Some spot) = next_text (codes "first") (spot_object spot)

-- the names that there are, of a name that none of them is
abbrev pub names_told : Sort → List (List ℕ) → Option (List (List ℕ))
names_told (sorts.OfScenario (parts.NameOf kind)) names = Some names
names_told sort names = None

-- the first ten
abbrev pub names_member : Option (List (List ℕ)) → List ℕ
names_member None = []
names_member (Some names) = next_member (codes "names") (words_json (take 10 names))

abbrev pub other_members : Told → List ℕ
other_members t = first_spot_member t.first ++ names_member (names_told t.sort t.names)

-- ---- all members

abbrev pub members_of : List ℕ → Told → List ℕ
members_of file t = where_members file t ++ (what_members t ++ (hint_members t ++ other_members t))

-- ---- without a text

-- of a value whose text isn't known: there is no file, and there are no lines, no columns and no names
abbrev pub part_members : Told → List ℕ
part_members t = first_member (codes "place") (path_json t.path) ++ (what_members t ++ hint_members t)

-- the members of a part of a text have these among them
abbrev pub TextsHaveMore : Type 0
TextsHaveMore = (file : List ℕ) (t : Told) → members_of file t ≡ spot_members file t.spot ++ (codes "," ++ (part_members t ++ other_members t))

-- ---- the same as a JSON value

-- what is there, before the rest
abbrev pub keys_before : Token → List (List ℕ) → List Member → List Member
keys_before Token.begin_object keys rest = (codes "keys", words_json (take 10 keys)) ∷ rest
keys_before token keys rest = rest

abbrev pub near_before : Option (List ℕ) → List Member → List Member
near_before None rest = rest
near_before (Some key) rest = (codes "nearest", string key) ∷ rest

abbrev pub spot_json : Spot → Data
spot_json spot = two (codes "line") (count_json spot.line) (codes "column") (count_json spot.column)

abbrev pub first_before : Option Spot → List Member → List Member
first_before None rest = rest
first_before (Some spot) rest = (codes "first", spot_json spot) ∷ rest

abbrev pub names_last : Option (List (List ℕ)) → List Member
names_last None = []
names_last (Some names) = (codes "names", words_json (take 10 names)) ∷ []

abbrev pub behind_stands : Told → List Member
behind_stands t =
    keys_before t.token t.keys
    ((codes "hint", string (hint_text t.fault t)) ∷ near_before (near_key t.sort (sought t.keys)) (first_before t.first (names_last (names_told t.sort t.names))))

abbrev pub record_of : List ℕ → Told → List Member
record_of file t =
    (codes "file", string file) ∷ (codes "line", count_json t.spot.line) ∷ (codes "column", count_json t.spot.column) ∷ (codes "place", path_json t.path)
    ∷ (codes "wanted", string (wanted_text t.sort)) ∷ (codes "stands", string (token_text t.token)) ∷ behind_stands t

-- in braces the members are the compact text of one JSON object
abbrev pub ToldIsAnObject : Type 0
ToldIsAnObject = (file : List ℕ) (t : Told) → codes "{" ++ (members_of file t ++ codes "}") ≡ compact_text (object (members_from (record_of file t)))
