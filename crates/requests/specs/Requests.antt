-- Which request a line is.
use Rattle.std.specs.Prelude.{◌≡◌, ℕ, ◌+◌, List, Bool, true, false, Option, Some, None, Result, Ok, Err, codes, if◌then◌else◌}
use Rattle.std.specs.Str.{is_utf8}
use Rattle.serde_json.specs.Data.{Data, object, Members, no_members, member}
use Rattle.serde_json.specs.Find.{get}
use Rattle.json_tree.specs.View.{read_within}
use Rattle.json_tree.specs.declared.read.Refusal.{Refusal}
use Rattle.json_tree.specs.declared.read.Refusal.TheVariants.{NotJson}
use Rattle.requests.specs.declared.kind.Kind.{Kind}
use Rattle.requests.specs.declared.kind.Kind.TheVariants.{Run, Trace, Next, Table, Analyse, Play, Read, Bytes, Define, Forget}

abbrev pub json_or_not : Option Data → Result Data Refusal
json_or_not None = Err NotJson
json_or_not (Some d) = Ok d

-- the JSON value of a line, whose lists and objects nest two levels deeper than those of a contract
unfoldable pub line_json : ℕ → List ℕ → Result Data Refusal
line_json depth line = if is_utf8 line then json_or_not (read_within (depth + 2) line) else Err NotJson

abbrev pub is_object : Data → Bool
is_object (object ms) = true
is_object d = false

-- what is asked, and what stands at its key
abbrev pub Asked : Type 0
Asked = Kind × Data

abbrev body_or : Kind → Option Data → Option Asked → Option Asked
body_or kind (Some body) other = Some (kind, body)
body_or kind None other = other

-- this, where its key is there
abbrev asks : Kind → List ℕ → Data → Option Asked → Option Asked
asks kind key d other = body_or kind (get key d) other

-- the first of these
abbrev pub other_request : Data → Option Asked
other_request d = asks Read (codes "read") d (asks Bytes (codes "bytes") d (asks Define (codes "define") d (asks Forget (codes "forget") d None)))

-- .. and before them of those that are commands
unfoldable pub request_of : Data → Option Asked
request_of d =
    asks Run (codes "run") d (asks Trace (codes "trace") d (asks Next (codes "next") d (asks Table (codes "table") d
    (asks Analyse (codes "analyse") d (asks Play (codes "play") d (other_request d))))))

abbrev pub sole_of : Members → Option (List ℕ × Data)
sole_of (member key d no_members) = Some (key, d)
sole_of ms = None

-- the key of an object's only member, and what stands there
abbrev pub sole_member : Data → Option (List ℕ × Data)
sole_member (object ms) = sole_of ms
sole_member d = None

-- it stands in the value at a key
abbrev pub IsMember : Data → Data → Type 0
IsMember d body = (key : List ℕ) × (get key d ≡ Some body)
