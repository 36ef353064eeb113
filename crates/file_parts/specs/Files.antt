-- Contracts that a scenario gives as files, and the scenario with the files in their places.
use Rattle.std.specs.Prelude.{◌≡◌, ℕ, List, [], ◌∷◌, ◌++◌, Option, Some, None, option_map, option_and_then, codes, if◌then◌else◌}
use Rattle.std.specs.Option.{unwrap_or}
use Rattle.std.specs.Str.{bytes_eq}
use Rattle.json.specs.Lex.{tokens}
use Rattle.json.specs.Json.{Json, null, boolean, number, string, array, object, Items, no_items, item, Members, no_members, member, value, if_last}
use Rattle.json.specs.Find.{get, as_str}
use Rattle.file_parts.specs.declared.named.FileName.{FileName}
use Rattle.file_parts.specs.declared.join.FileText.{FileText}

-- the value that a text is, where lists and objects nest no deeper than a number
abbrev pub document_within : ℕ → List ℕ → Option Json
document_within depth text = option_and_then (λ p. if_last p.0 p.1) (value depth (tokens text))

-- ---- a contract that is given as a file: an object of the member `file` alone, which is a text, its path

abbrev pub path_among : Members → Option (List ℕ)
path_among no_members = None
path_among (member k j no_members) = if bytes_eq k (codes "file") then as_str j else None
path_among (member k j (member l i ms)) = None

abbrev pub file_path : Json → Option (List ℕ)
file_path null = None
file_path (boolean b) = None
file_path (number s) = None
file_path (string s) = None
file_path (array js) = None
file_path (object ms) = path_among ms

-- ---- the files that a scenario names, in order: contracts are behind the key `contract` in the items behind the key `contracts`

-- a contract's name in the scenario, and the path of its file
abbrev pub Named : Type 0
Named = List ℕ × List ℕ

-- what code tells
abbrev pub seen : FileName → Named
seen f = (f.contract, f.path)

abbrev pub if_at : List ℕ → List ℕ → List Named → List Named
if_at key k named = if bytes_eq k key then named else []

abbrev pub name_of : Json → List ℕ
name_of named = unwrap_or (option_and_then as_str (get (codes "name") named)) []

abbrev pub named_if : List ℕ → Option (List ℕ) → List Named
named_if name None = []
named_if name (Some path) = (name, path) ∷ []

abbrev pub named_among : List ℕ → Members → List Named
named_among name no_members = []
named_among name (member k j ms) = if_at (codes "contract") k (named_if name (file_path j)) ++ named_among name ms

abbrev pub named_by : Json → List Named
named_by null = []
named_by (boolean b) = []
named_by (number s) = []
named_by (string s) = []
named_by (array js) = []
named_by (object ms) = named_among (name_of (object ms)) ms

abbrev pub named_items : Items → List Named
named_items no_items = []
named_items (item j js) = named_by j ++ named_items js

abbrev pub named_list : Json → List Named
named_list null = []
named_list (boolean b) = []
named_list (number s) = []
named_list (string s) = []
named_list (array js) = named_items js
named_list (object ms) = []

abbrev pub named_members : Members → List Named
named_members no_members = []
named_members (member k j ms) = if_at (codes "contracts") k (named_list j) ++ named_members ms

abbrev pub named_in : Json → List Named
named_in null = []
named_in (boolean b) = []
named_in (number s) = []
named_in (string s) = []
named_in (array js) = []
named_in (object ms) = named_members ms

abbrev pub named_or_none : Option Json → List Named
named_or_none None = []
named_or_none (Some scenario) = named_in scenario

-- of a text; one that is no JSON names none
abbrev pub files_in : ℕ → List ℕ → List Named
files_in depth text = named_or_none (document_within depth text)

-- ---- the scenario with the files in their places

-- an object in which what is behind a key is changed
abbrev pub change_members : List ℕ → (Json → Json) → Members → Members
change_members key f no_members = no_members
change_members key f (member k j ms) = member k (if bytes_eq k key then f j else j) (change_members key f ms)

abbrev pub at_key : List ℕ → (Json → Json) → Json → Json
at_key key f null = null
at_key key f (boolean b) = boolean b
at_key key f (number s) = number s
at_key key f (string s) = string s
at_key key f (array js) = array js
at_key key f (object ms) = object (change_members key f ms)

-- a list in which each item is changed
abbrev pub change_items : (Json → Json) → Items → Items
change_items f no_items = no_items
change_items f (item j js) = item (f j) (change_items f js)

abbrev pub at_items : (Json → Json) → Json → Json
at_items f null = null
at_items f (boolean b) = boolean b
at_items f (number s) = number s
at_items f (string s) = string s
at_items f (array js) = array (change_items f js)
at_items f (object ms) = object ms

-- the tree of the file at a path, if there is one
abbrev pub Files : Type 0
Files = List ℕ → Option Json

-- a file's tree in the place of what names it; what names none stays, and so does what names one that there isn't
abbrev pub put : Files → Json → Json
put files j = unwrap_or (option_and_then files (file_path j)) j

-- A SCENARIO WITH FILES: each contract that is given as a file is the tree of that file
abbrev pub with_files : Files → Json → Json
with_files files scenario = at_key (codes "contracts") (at_items (at_key (codes "contract") (put files))) scenario

-- ---- files by their texts

-- a path and the text of the file there
abbrev pub Text : Type 0
Text = List ℕ × List ℕ

-- what code is told
abbrev pub text_of : FileText → Text
text_of f = (f.path.now, f.text.now)

-- the tree of the first of these texts that is at a path
abbrev pub tree_at : ℕ → List Text → List ℕ → Option Json
tree_at depth [] path = None
tree_at depth (t ∷ ts) path = if bytes_eq t.0 path then document_within depth t.1 else tree_at depth ts path

-- a text whose tree is that of a scenario with these files
abbrev pub HasFiles : ℕ → List ℕ → List Text → List ℕ → Type 0
HasFiles depth scenario texts text = document_within depth text ≡ option_map (with_files (tree_at depth texts)) (document_within depth scenario)
