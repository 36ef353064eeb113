-- Scenarios with files: what stands in for them, and why nothing does.
use Rattle.std.specs.Prelude.{◌≡◌, ◌≢◌, ℕ, ◌-◌, List, [], ◌∷◌, ◌++◌, map, Option, Some, None, Result, Ok, Err, MatchResult, if◌then◌else◌, codes}
use Rattle.std.specs.Str.{is_utf8}
use Rattle.serde_json.specs.Data.{string}
use Rattle.serde_json.specs.Written.{compact_text}
use Rattle.json_read_names.specs.declared.fault.JsonFault.{JsonFault}
use Rattle.json_read_names.specs.Parts.{Reading}
use Rattle.json_read_names.specs.ReadsText.{of_text_within}
use Rattle.json_read_contracts.specs.ReadsContract as reads
use Rattle.marlowe_refusals.specs.Refusals.{json_fault_name}
use Rattle.file_parts.specs.declared.named.FileName.{FileName}
use Rattle.file_parts.specs.declared.join.JoinFault.{JoinFault}
use Rattle.file_parts.specs.declared.join.JoinFault.TheVariants as joins
use Rattle.file_parts.specs.Files.{HasFiles, Named, Text, files_in}
use Rattle.scenario_files.specs.declared.fault.FilesFault.{FilesFault}
use Rattle.scenario_files.specs.declared.fault.FilesFault.TheVariants.{Contract, NotJoined, Memory}

-- the contracts of a scenario that are given as files; a text that isn't in UTF-8 has none
abbrev pub named_files : ℕ → List ℕ → List Named
named_files depth scenario = if is_utf8 scenario then files_in depth scenario else []

-- ---- each file is a contract: it nests three levels less deep than a scenario, in which it is that deep

abbrev pub fault_of : {X : Type 0} → Reading X → Option JsonFault
fault_of (Ok x) = None
fault_of (Err fault) = Some fault

abbrev pub file_fault : ℕ → List ℕ → Option JsonFault
file_fault depth text = fault_of (of_text_within (depth - 3) reads.contract text)

-- the fault of a file, or else what follows
abbrev pub fault_or : List ℕ → Option JsonFault → Option FilesFault → Option FilesFault
fault_or name (Some fault) later = Some (Contract name fault)
fault_or name None later = later

-- of the first file that is no contract, the fault; each is beside its text
abbrev pub first_fault : ℕ → List FileName → List (List ℕ) → Option FilesFault
first_fault depth [] texts = None
first_fault depth (f ∷ fs) [] = None
first_fault depth (f ∷ fs) (t ∷ ts) = fault_or f.contract (file_fault depth t) (first_fault depth fs ts)

-- ---- paths with texts

abbrev pub beside : List FileName → List (List ℕ) → List Text
beside [] texts = []
beside (f ∷ fs) [] = []
beside (f ∷ fs) (t ∷ ts) = (f.path, t) ∷ beside fs ts

-- A text with the files of a scenario: each file is a contract, and the text's tree is the scenario's with the tree of each file in its place
abbrev pub IsWithFiles : ℕ → List ℕ → List FileName → List (List ℕ) → List ℕ → Type 0
IsWithFiles depth scenario files texts text =
    (first_fault depth files texts ≡ None) × HasFiles depth scenario (beside files texts) text

-- or the fault of the first file that is no contract; the others have no definition
abbrev pub IsFaultOf : ℕ → List FileName → List (List ℕ) → FilesFault → Type 0
IsFaultOf depth files texts (Contract name fault) = first_fault depth files texts ≡ Some (Contract name fault)
IsFaultOf depth files texts NotJoined = first_fault depth files texts ≡ None
IsFaultOf depth files texts Memory = Unit {0}

-- what comes once each file is a contract
abbrev pub IsNoContract : FilesFault → Type 0
IsNoContract (Contract name fault) = ⊥
IsNoContract NotJoined = Unit {0}
IsNoContract Memory = Unit {0}

abbrev pub joining : JoinFault → FilesFault
joining joins.NotJoined = NotJoined
joining joins.Memory = Memory

-- ---- as a line, as members, and the status for tools

abbrev pub files_refusal : FilesFault → List ℕ
files_refusal (Contract name fault) = codes "refused contract " ++ (name ++ (codes " " ++ json_fault_name fault))
files_refusal NotJoined = codes "refused scenario NotJoined"
files_refusal Memory = codes "refused Memory"

abbrev pub quoted : List ℕ → List ℕ
quoted text = compact_text (string text)

abbrev pub files_members : FilesFault → List ℕ
files_members (Contract name fault) = codes "\"of\":\"contract\",\"name\":\"" ++ (json_fault_name fault ++ (codes "\",\"contract\":" ++ quoted name))
files_members NotJoined = codes "\"of\":\"scenario\",\"name\":\"NotJoined\""
files_members Memory = codes "\"of\":\"memory\",\"name\":\"Memory\""

abbrev pub files_status : FilesFault → ℕ
files_status (Contract name fault) = 4
files_status NotJoined = 4
files_status Memory = 1
