-- A scenario whose contracts may be files of their own: what becomes of it before it is played.
use Rattle.std.specs.Prelude.{◌≡◌, ◌⊎◌, ℕ, ◌-◌, List, [], slice_get, Some}
use Rattle.file_parts.specs.declared.named.FileName.{FileName}
use Rattle.scenario_files.specs.declared.fault.FilesFault.{FilesFault}
use Rattle.scenario_files.specs.Paths.{IsBeside}
use Rattle.scenario_files.specs.ScenarioFiles.{IsFaultOf, IsWithFiles, files_members, files_refusal, files_status}
use Rattle.serve.specs.JsonMembers.declared.spelling.Spelling.{Spelling}
use Rattle.serve.specs.RefusalReasons.declared.source.Source.{Source}
use Rattle.serve.specs.RefusalReasons.Reasons.{TellsOfTable}
use Rattle.marlowe_commands.specs.declared.face.Face.{Face}
use Rattle.marlowe_commands.specs.declared.files.Joined.{Joined}
use Rattle.marlowe_commands.specs.declared.files.Joined.TheVariants as joined
use Rattle.marlowe_commands.specs.Streams.{IsShown, Refusal, Streams, refuses, shown, streams_of}

-- a file that is no contract: for people its line, with status 1
abbrev pub files_refused : FilesFault → Refusal
files_refused f = ((files_refusal f, 1), (files_members f, files_status f))

-- that is shown, with what explains it or without it
abbrev pub IsFaultShown : Face → FilesFault → List ℕ → Streams → Type 0
IsFaultShown face f told streams =
    (streams ≡ shown face (refuses [] (files_refused f)) told) ⊎ (streams ≡ shown face (refuses [] (files_refused f)) [])

-- what explains one of these files, by its path beside the scenario's
pub record TellsFile (scenario : List ℕ) (depth : ℕ) (files : List FileName) (texts : List (List ℕ)) (w : Spelling) (written : List ℕ) : Type 0 where
  pub index : ℕ
  pub file : FileName
  pub is_there : slice_get files index ≡ Some file
  pub source : Source
  pub path : IsBeside scenario file.path source.path.now
  pub text : slice_get texts index ≡ Some source.text.now
  pub tells : TellsOfTable source (depth - 3) w written

-- A SCENARIO WITH ITS FILES: its text with each of them in its place; or the refusal of the first that is no contract, and what explains it
abbrev pub IsJoined : Face → ℕ → Source → List FileName → List (List ℕ) → Joined → Type 0
IsJoined face depth scenario files texts (joined.Text whole) = IsWithFiles depth scenario.text.now files texts whole.items
IsJoined face depth scenario files texts (joined.Refused printed) =
    (f : FilesFault) × IsFaultOf depth files texts f
    × IsShown face (λ said. said ≡ refuses [] (files_refused f)) (TellsFile scenario.path.now depth files texts) (streams_of printed)
