-- Names that come and go.
use Rattle.std.specs.Prelude.{◌≡◌, ℕ, Bool, true, false, List, Option, Some, None, Result, Ok, Err, codes}
use Rattle.contract.specs.declared.tree.Contract.{Contract}
use Rattle.request_answers.specs.MarloweTrace.JsonReadNames.declared.fault.JsonFault.TheVariants as json
use Rattle.request_answers.specs.RequestReasons.Definitions.Named.{has_room, is_there, put_named, without_named}
use Rattle.request_answers.specs.RequestReasons.Definitions.declared.definition.Definition.{Definition}
use Rattle.request_answers.specs.RequestReasons.RequestParts.Answered.{ok_answer, reasoned_answer, refused_answer}
use Rattle.request_answers.specs.RequestReasons.RequestParts.declared.refusal.Part.TheVariants as parts
use Rattle.request_answers.specs.RequestReasons.RequestParts.declared.refusal.Refusal.{Refusal}
use Rattle.request_answers.specs.RequestReasons.RequestParts.declared.refusal.Refusal.TheVariants as refusals
use Rattle.request_answers.specs.Definition.{named_so}

-- a contract of this name, of a line of so many bytes
abbrev pub Names : List ℕ × Contract → ℕ → Definition → Type 0
Names told bytes d = (told ≡ named_so d) × (d.bytes ≡ bytes)

-- the names change where there is room
abbrev pub ChangesIfRoom : Bool → List Definition → List Definition → List ℕ → List ℕ → List Definition → Type 0
ChangesIfRoom true new defs id text after = (text ≡ ok_answer id (codes "true")) × (after ≡ new)
ChangesIfRoom false new defs id text after = (text ≡ refused_answer id refusals.Full) × (after ≡ defs)

abbrev pub Puts : Definition → List Definition → List ℕ → List ℕ → List Definition → Type 0
Puts d defs id text after = ChangesIfRoom (has_room (put_named d defs)) (put_named d defs) defs id text after

-- the names have one more, or it is told why they haven't, with a reason
abbrev pub Changes : ℕ → List Definition → List ℕ → Result (List ℕ × Contract) Refusal → List ℕ → List Definition → List ℕ → Type 0
Changes bytes defs id (Ok told) text after reason = (d : Definition) × Names told bytes d × Puts d defs id text after
Changes bytes defs id (Err refusal) text after reason = (text ≡ reasoned_answer id refusal reason) × (after ≡ defs)

abbrev truth : Bool → List ℕ
truth true = codes "true"
truth false = codes "false"

-- a name is taken away, and it is told whether it was there
abbrev pub TakesAway : List Definition → List ℕ → List ℕ → List ℕ → List Definition → Type 0
TakesAway defs id name text after = (text ≡ ok_answer id (truth (is_there name defs))) × (after ≡ without_named name defs)

-- .. or it is told that it is none, with a reason
abbrev pub Forgets : List Definition → List ℕ → Option (List ℕ) → List ℕ → List Definition → List ℕ → Type 0
Forgets defs id (Some name) text after reason = TakesAway defs id name text after
Forgets defs id None text after reason = (text ≡ reasoned_answer id (refusals.Part parts.Forget json.NoForm) reason) × (after ≡ defs)
