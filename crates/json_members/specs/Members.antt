-- Members of a JSON object, without the braces around them.
use Rattle.std.specs.Prelude.{◌≡◌, ⊤, ℕ, pos, List, [], ◌∷◌, ◌++◌, map, Option, Some, None, codes}
use Rattle.json.specs.Print.{quoted}
use Rattle.serde_json.specs.Data.{Data, string, array, object, Members, no_members, member}
use Rattle.serde_json.specs.View.{items_of}
use Rattle.serde_json.specs.Written.{compact_text}
use Rattle.json_write_contracts.specs.WrittenNames.{number_json}

-- a member of a key and the text of its value
abbrev pub member_text : List ℕ → List ℕ → List ℕ
member_text key value = codes "\"" ++ (key ++ (codes "\":" ++ value))

-- one that comes behind another
abbrev pub next_text : List ℕ → List ℕ → List ℕ
next_text key value = codes "," ++ member_text key value

-- the same of a value
abbrev pub first_member : List ℕ → Data → List ℕ
first_member key d = member_text key (compact_text d)

abbrev pub next_member : List ℕ → Data → List ℕ
next_member key d = next_text key (compact_text d)

-- one that is there, or none
abbrev pub member_if : List ℕ → Option Data → List ℕ
member_if key None = []
member_if key (Some d) = next_member key d

-- ---- values

abbrev pub count_json : ℕ → Data
count_json n = number_json (pos n)

abbrev pub words_json : List (List ℕ) → Data
words_json words = array (items_of (map string words))

-- ---- many members

abbrev pub Member : Type 0
Member = List ℕ × Data

-- as they are written, one behind another
abbrev pub next_members : List Member → List ℕ
next_members [] = []
next_members (m ∷ ms) = next_member m.0 m.1 ++ next_members ms

abbrev pub members_text : List Member → List ℕ
members_text [] = []
members_text (m ∷ ms) = first_member m.0 m.1 ++ next_members ms

-- the members of a JSON value
abbrev pub members_from : List Member → Members
members_from [] = no_members
members_from (m ∷ ms) = member m.0 m.1 (members_from ms)

-- no letter of a key is escaped
abbrev pub HavePlainKeys : List Member → Type 0
HavePlainKeys [] = ⊤
HavePlainKeys (m ∷ ms) = (quoted m.0 ≡ codes "\"" ++ (m.0 ++ codes "\"")) × HavePlainKeys ms

-- in braces they are the compact text of an object
abbrev pub MembersAreAnObject : Type 0
MembersAreAnObject = (ms : List Member) → HavePlainKeys ms → codes "{" ++ (members_text ms ++ codes "}") ≡ compact_text (object (members_from ms))
