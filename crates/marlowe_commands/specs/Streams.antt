-- What a command says, and how it is shown: on which stream, and with which status.
use Rattle.std.specs.Prelude.{◌≡◌, ◌⊎◌, ℕ, Bool, true, false, List, [], ◌∷◌, ◌++◌, codes}
use Rattle.std.specs.Str.{IsUtf8}
use Rattle.serde_json.specs.Data.{string}
use Rattle.serve.specs.JsonForms.declared.sort.Sort.{Sort}
use Rattle.unread_keys.specs.Unread.{notes_in}
use Rattle.unread_notes.specs.Notes.{AreNotes as FileNotes}
use Rattle.serve.specs.JsonMembers.Members.{next_member}
use Rattle.serve.specs.JsonMembers.declared.spelling.Spelling.{Spelling}
use Rattle.serve.specs.JsonMembers.declared.spelling.Spelling.TheVariants.{Lines, Members}
use Rattle.serve.specs.RefusalObjects.Objects.{named, refused_line}
use Rattle.marlowe_commands.specs.declared.face.Face.{Face}
use Rattle.marlowe_commands.specs.declared.face.Face.TheVariants.{Plain, Explained, Json}
use Rattle.marlowe_commands.specs.declared.printed.Printed.{Printed}
use Rattle.marlowe_commands.specs.declared.said.Refusal.{Refusal as Refused}
use Rattle.marlowe_commands.specs.declared.said.Said.{Said}
use Rattle.marlowe_commands.specs.declared.said.Said.TheVariants as said

-- ---- what is printed

-- the bytes on standard output and on standard error, and the status
abbrev pub Streams : Type 0
Streams = List ℕ × List ℕ × ℕ

abbrev pub streams_of : Printed → Streams
streams_of printed = (printed.output.items, printed.errors.items, printed.status)

-- ---- what a command says

-- the line of a refusal, without its line feed, and its status for people; its first members as JSON, and its status for tools
abbrev pub Refusal : Type 0
Refusal = (List ℕ × ℕ) × (List ℕ × ℕ)

-- a text with its status, or a text and the refusal that ends it
pub data Saying : Type 0 where
  says : List ℕ → ℕ → Saying
  refuses : List ℕ → Refusal → Saying

abbrev pub refusal_of : Refused → Refusal
refusal_of r = ((r.line.items, r.status), (r.members.items, r.tool_status))

abbrev pub saying_of : Said → Saying
saying_of (said.Text text status) = says text.items status
saying_of (said.Refused text r) = refuses text.items (refusal_of r)

-- ---- how it is shown

-- for people: a refusal on standard error, its line and behind it lines that explain it
abbrev pub for_people : List ℕ → Refusal → List ℕ → Streams
for_people text ((line, status), tool) lines = (text, (line ++ 10 ∷ []) ++ lines, status)

-- for tools: all on standard output, a refusal as an object on a line, with these members behind its first ones
abbrev pub for_tools : List ℕ → Refusal → List ℕ → Streams
for_tools text (people, (members, status)) told = (text ++ refused_line members told, [], status)

-- a refusal behind a text
abbrev pub refused_shown : Face → List ℕ → Refusal → List ℕ → Streams
refused_shown Plain text refusal told = for_people text refusal []
refused_shown Explained text refusal told = for_people text refusal told
refused_shown Json text refusal told = for_tools text refusal told

-- a text alone is on standard output, whoever reads it
abbrev pub shown : Face → Saying → List ℕ → Streams
shown face (says text status) told = (text, [], status)
shown face (refuses text refusal) told = refused_shown face text refusal told

-- in which spelling a refusal is explained
abbrev pub spelling_of : Face → Spelling
spelling_of Plain = Lines
spelling_of Explained = Lines
spelling_of Json = Members

-- a command says something and shows it so. Where it refuses, this is told of it, or nothing for want of memory
pub record IsShown (face : Face) (Says : Saying → Type 0) (Tells : Spelling → List ℕ → Type 0) (streams : Streams) : Type 0 where
  pub said : Saying
  pub is_said : Says said
  pub told : List ℕ
  pub tells : (told ≡ []) ⊎ Tells (spelling_of face) told
  pub is : streams ≡ shown face said told

-- ---- statuses

-- for people 1, and for tools 1 or, where a text isn't read, 4; or 2 for both, where a file can't be read
abbrev pub IsStatus : Refusal → Type 0
IsStatus ((line, status), (members, tool)) = (status ≡ 1) × ((tool ≡ 1) ⊎ (tool ≡ 4)) ⊎ (status ≡ 2) × (tool ≡ 2)

-- a text with status 0, or with 3 where there may be alarms; or a refusal, before which is a text only where there may be outcomes
abbrev pub IsWell : Type 0 → Type 0 → Saying → Type 0
IsWell alarms outcomes (says text status) = (status ≡ 0) ⊎ alarms × (status ≡ 3)
IsWell alarms outcomes (refuses text refusal) = ((text ≡ []) ⊎ outcomes) × IsStatus refusal

-- ---- notes

-- the notes on the text of a file, which is read as one of a sort
abbrev pub AreOfFile : List ℕ → Type 0
AreOfFile lines = (file text : List ℕ) × (sort : Sort) × (depth : ℕ) × IsUtf8 text × FileNotes file text (notes_in depth text sort) lines

-- .. of one file behind those of another
abbrev pub AreOfFiles : List (List ℕ) → List ℕ → Type 0
AreOfFiles [] notes = notes ≡ []
AreOfFiles (lines ∷ others) notes = (rest : List ℕ) × AreOfFile lines × AreOfFiles others rest × (notes ≡ lines ++ rest)

abbrev pub AreNotes : List ℕ → Type 0
AreNotes notes = (files : List (List ℕ)) × AreOfFiles files notes

-- notes behind what is on standard error: the rest stays
abbrev pub with_notes : List ℕ → Streams → Streams
with_notes notes (output, errors, status) = (output, errors ++ notes, status)

-- what is printed shows such a saying, and behind it, where explanations are wanted, maybe notes on texts
pub record Shows (face : Face) (alarms outcomes : Type 0) (streams : Streams) : Type 0 where
  pub said : Saying
  pub is_well : IsWell alarms outcomes said
  pub told : List ℕ
  pub notes : List ℕ
  pub are_notes : AreNotes notes
  pub are_explained : (notes ≡ []) ⊎ (face ≡ Explained)
  pub is : streams ≡ with_notes notes (shown face said told)

-- ---- what that says of the streams

-- a text with status 0, or with status 3 where there may be alarms, and nothing on standard error; or there a refusal with status 1 or 2, and
-- on standard output nothing, or with status 1 maybe outcomes
abbrev pub IsForPeople : Type 0 → Type 0 → Streams → Type 0
IsForPeople alarms outcomes (output, errors, status) =
    ((status ≡ 0) ⊎ alarms × (status ≡ 3)) × (errors ≡ [])
    ⊎ ((status ≡ 1) ⊎ (status ≡ 2)) × ((output ≡ []) ⊎ outcomes)

-- the same with notes on standard error: without a refusal there is nothing else
abbrev pub IsExplained : Type 0 → Type 0 → Streams → Type 0
IsExplained alarms outcomes (output, errors, status) =
    ((status ≡ 0) ⊎ alarms × (status ≡ 3)) × AreNotes errors
    ⊎ ((status ≡ 1) ⊎ (status ≡ 2)) × ((output ≡ []) ⊎ outcomes)

-- all is on standard output
abbrev pub IsForTools : Type 0 → Streams → Type 0
IsForTools alarms (output, errors, status) =
    (errors ≡ []) × ((status ≡ 0) ⊎ ((status ≡ 1) ⊎ ((status ≡ 2) ⊎ ((status ≡ 4) ⊎ alarms × (status ≡ 3)))))

abbrev pub IsFor : Face → Type 0 → Type 0 → Streams → Type 0
IsFor Plain alarms outcomes streams = IsForPeople alarms outcomes streams
IsFor Explained alarms outcomes streams = IsExplained alarms outcomes streams
IsFor Json alarms outcomes streams = IsForTools alarms streams

-- ---- where there is nothing to say

-- the text of the library that reads command lines: help, or what is wrong with one
abbrev pub IsHelp : Streams → Type 0
IsHelp (output, errors, status) = (status ≡ 0) × (errors ≡ []) ⊎ (status ≡ 2) × (output ≡ [])

-- a file that can't be read, by its path
abbrev pub unreadable : List ℕ → Refusal
unreadable path = ((codes "unreadable " ++ path, 2), (named (codes "file") (codes "unreadable") ++ next_member (codes "file") (string path), 2))
