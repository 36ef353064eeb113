-- Worked rows of requests and their ids, computed on the definitions.
use Rattle.std.specs.Prelude.{◌≡◌, ℕ, List, Some, None, codes}
use Rattle.serde_json.specs.Data.{Data, null, number, unsigned, object, no_members, put}
use Rattle.requests.specs.declared.kind.Kind.TheVariants.{Run, Forget}
use Rattle.requests.specs.Requests.{request_of}
use Rattle.requests.specs.Ids.{id_of}

abbrev seven : Data
seven = number (unsigned 7)

abbrev of_one : List ℕ → Data → Data
of_one key d = object (put key d no_members)

abbrev of_two : List ℕ → Data → List ℕ → Data → Data
of_two a d b e = object (put a d (put b e no_members))

-- `{"forget":7,"run":null}` is a run
abbrev pub FirstKeyCounts : Type 0
FirstKeyCounts = request_of (of_two (codes "forget") seven (codes "run") null) ≡ Some (Run, null)

-- `{"forget":7,"stop":null}` takes a name away, and `{"stop":7}`, `7` ask nothing
abbrev pub OthersArePassedOver : Type 0
OthersArePassedOver =
    (request_of (of_two (codes "forget") seven (codes "stop") null) ≡ Some (Forget, seven))
    × (request_of (of_one (codes "stop") seven) ≡ None)
    × (request_of seven ≡ None)

-- the id of `{"id":7,"run":null}`, and of lines without one
abbrev pub IdsAreFound : Type 0
IdsAreFound =
    (id_of (Some (of_two (codes "id") seven (codes "run") null)) ≡ seven)
    × (id_of (Some (of_one (codes "run") null)) ≡ null)
    × (id_of None ≡ null)
