-- From what becomes of a scenario's files to what is printed.
use Rattle.std.proofs.Common.{◌≡◌, ◌⊎◌, ◌∙◌, ◌<◌, ◌-◌, ℕ, List, [], Some, Vec, Global, Result, Ok, Err, IfOk, get_or, length, map, option_map, inl, inr, refl, sym, ap, subst}
use Rattle.std.specs.Prelude.{slice_get}
use Rattle.std.proofs.lemmas.Option.{slice_get-map, slice_get_read}
use Rattle.serve.specs.JsonMembers.declared.spelling.Spelling.{Spelling}
use Rattle.file_parts.specs.declared.named.FileName.{FileName}
use Rattle.scenario_files.specs.declared.fault.FilesFault.{FilesFault}
use Rattle.scenario_files.specs.declared.fault.FilesFault.TheVariants as faults
use Rattle.scenario_files.specs.Paths.{IsBeside}
use Rattle.scenario_files.specs.ScenarioFiles.{IsFaultOf, files_status}
use Rattle.serve.specs.RefusalReasons.declared.source.Source.{Source}
use Rattle.serve.specs.RefusalReasons.Reasons.{TellsOfTable}
use Rattle.marlowe_commands.specs.declared.face.Face.{Face}
use Rattle.marlowe_commands.specs.declared.files.Joined.{Joined}
use Rattle.marlowe_commands.specs.declared.files.Joined.TheVariants as joined
use Rattle.marlowe_commands.specs.declared.printed.Printed.{Printed}
use Rattle.marlowe_commands.specs.Files.{IsFaultShown, IsJoined, TellsFile, files_refused}
use Rattle.marlowe_commands.specs.Streams.{IsShown, IsWell, Saying, Shows, Streams, refuses, spelling_of, streams_of}
use Rattle.marlowe_commands.proofs.ShownLemmas.{shows}

abbrev Bytes : Type 0
Bytes = Vec ℕ Global

-- what is told of one of the files is told by its path
pub tells_file : {E : Type 0} (scenario : List ℕ) (depth : ℕ) (files : List FileName) (texts : List Bytes) (w : Spelling) (at n : ℕ) (file : FileName)
    (text : Bytes) (named path : List ℕ) (source : Source) (r : Result Bytes E) → at < length files → at < length texts → file ≡ get_or files at file
    → text ≡ get_or texts at text → named ≡ file.path → IsBeside scenario named path → source.path.now ≡ path → source.text.now ≡ text.items → n ≡ depth - 3
    → IfOk r (λ told. TellsOfTable source n w told.items) → IfOk r (λ told. TellsFile scenario depth files (map (λ (t : Bytes). t.items) texts) w told.items)
tells_file scenario depth files texts w at n file text named path source (Ok told) below within is_file is_text same beside at_path at_text size tells =
    record {
      index = at;
      file = file;
      is_there = slice_get_read files (length files) at file refl below is_file;
      source = source;
      path = subst (λ p. IsBeside scenario p source.path.now) same (subst (IsBeside scenario named) (sym at_path) beside);
      text =
          slice_get-map (λ (t : Bytes). t.items) texts at
          ∙ ap (option_map (λ (t : Bytes). t.items)) (slice_get_read texts (length texts) at text refl within is_text)
          ∙ ap Some (sym at_text);
      tells = subst (λ m. TellsOfTable source m w told.items) size tells;
    }
tells_file scenario depth files texts w at n file text named path source (Err e) below within is_file is_text same beside at_path at_text size tells = tt {0}

is_shown : (face : Face) (scenario : List ℕ) (depth : ℕ) (files : List FileName) (texts : List (List ℕ)) (f : FilesFault) (told : List ℕ) (streams : Streams)
    → (told ≡ []) ⊎ TellsFile scenario depth files texts (spelling_of face) told → IsFaultShown face f told streams
    → IsShown face (λ said. said ≡ refuses [] (files_refused f)) (TellsFile scenario depth files texts) streams
is_shown face scenario depth files texts f told streams tells (inl is) =
    record { said = refuses [] (files_refused f); is_said = refl; told = told; tells = tells; is = is }
is_shown face scenario depth files texts f told streams tells (inr is) =
    record { said = refuses [] (files_refused f); is_said = refl; told = []; tells = inl refl; is = is }

pub joined_refused : (face : Face) (depth : ℕ) (scenario : Source) (files : List FileName) (texts : List (List ℕ)) (f : FilesFault) (told : List ℕ)
    (printed : Printed) → IsFaultOf depth files texts f → (told ≡ []) ⊎ TellsFile scenario.path.now depth files texts (spelling_of face) told
    → IsFaultShown face f told (streams_of printed) → IsJoined face depth scenario files texts (joined.Refused printed)
joined_refused face depth scenario files texts f told printed is tells it =
    (f, is, is_shown face scenario.path.now depth files texts f told (streams_of printed) tells it)

status_is : (f : FilesFault) → (files_status f ≡ 1) ⊎ (files_status f ≡ 4)
status_is (faults.Contract name f) = inr refl
status_is faults.NotJoined = inr refl
status_is faults.Memory = inl refl

well : (f : FilesFault) (said : Saying) → said ≡ refuses [] (files_refused f) → IsWell (Unit {0}) ⊥ said
well f said is = subst (IsWell (Unit {0}) ⊥) (sym is) (inl refl, inl (refl, status_is f))

refused_shows : (face : Face) (depth : ℕ) (scenario : Source) (files : List FileName) (texts : List (List ℕ)) (printed : Printed)
    → IsJoined face depth scenario files texts (joined.Refused printed) → Shows face (Unit {0}) ⊥ (streams_of printed)
refused_shows face depth scenario files texts printed (f, is, it) =
    shows face (Unit {0}) ⊥ (λ said. said ≡ refuses [] (files_refused f)) (TellsFile scenario.path.now depth files texts) (streams_of printed) (well f) it

-- a file that is no contract is a refusal as any other
pub joined_shows : (face : Face) (depth : ℕ) (scenario : Source) (files : List FileName) (texts : List (List ℕ)) (whole : Joined) (printed : Printed)
    → whole ≡ joined.Refused printed → IsJoined face depth scenario files texts whole → Shows face (Unit {0}) ⊥ (streams_of printed)
joined_shows face depth scenario files texts whole printed is it =
    refused_shows face depth scenario files texts printed (subst (IsJoined face depth scenario files texts) is it)
