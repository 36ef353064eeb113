-- Notes on a contract, as lines for people and as JSON for tools.
use Rattle.std.specs.Prelude.{ℕ, List, [], ◌∷◌, ◌++◌, map, flat_map, codes}
use Rattle.serde_json.specs.Data.{Data, string, array}
use Rattle.serde_json.specs.View.{items_of}
use Rattle.serde_json.specs.Written.{compact_text}
use Rattle.contract.specs.Names.declared.party.Party.{Party}
use Rattle.contract.specs.Tree.{ContractTree}
use Rattle.json_write_contracts.specs.WrittenNames.{two, three, party_json, choice_id_json}
use Rattle.places.specs.Places.{keys_of}
use Rattle.places.specs.Texts.{place_text, place_json}
use Rattle.contract_notes.specs.declared.note.Source.{Source}
use Rattle.contract_notes.specs.declared.note.Source.TheVariants.{Name, Choice}
use Rattle.contract_notes.specs.declared.note.Remark.{Remark}
use Rattle.contract_notes.specs.declared.note.Remark.TheVariants.{Unbound, Unread}
use Rattle.contract_notes.specs.declared.note.Note.{Note}

-- a name as a text, and a choice by its name and its owner
abbrev pub source_json : Source → Data
source_json (Name x) = string x
source_json (Choice id) = choice_id_json id

-- what is noted of it, at a place
abbrev pub remark_text : Remark → List ℕ → List ℕ
remark_text (Unbound a) place = compact_text (source_json a) ++ (codes " is 0 at " ++ (place ++ (codes ", where nothing has set it" ++ 10 ∷ [])))
remark_text (Unread a) place = compact_text (source_json a) ++ (codes " of " ++ (place ++ (codes " is read nowhere behind it" ++ 10 ∷ [])))

abbrev pub note_line : ContractTree → Note → List ℕ
note_line c n = codes "note: " ++ remark_text n.remark (place_text (keys_of n.place c))

abbrev pub once_line : Party → List ℕ
once_line p = codes "note: " ++ (compact_text (party_json p) ++ (codes " is named once" ++ 10 ∷ []))

abbrev pub notes_lines : ContractTree → List Note → List Party → List ℕ
notes_lines c notes once = flat_map (note_line c) notes ++ flat_map once_line once

-- ---- JSON

abbrev pub remark_word : Remark → List ℕ
remark_word (Unbound a) = codes "unbound"
remark_word (Unread a) = codes "unread"

abbrev pub source_of : Remark → Source
source_of (Unbound a) = a
source_of (Unread a) = a

abbrev pub note_json : ContractTree → Note → Data
note_json c n = three (codes "kind") (string (remark_word n.remark)) (codes "place") (place_json (keys_of n.place c)) (codes "source") (source_json (source_of n.remark))

-- the parties that are named once, and the notes on numbers
abbrev pub notes_json : ContractTree → List Note → List Party → Data
notes_json c notes once = two (codes "named_once") (array (items_of (map party_json once))) (codes "numbers") (array (items_of (map (note_json c) notes)))
