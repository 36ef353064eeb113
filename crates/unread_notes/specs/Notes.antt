-- The notes on a text that is read: which keys aren't, and where they stand.
use Rattle.std.specs.Prelude.{◌≡◌, ◌⊎◌, ℕ, List, [], ◌∷◌, ◌++◌, Some, drop, length, take}
use Rattle.json.specs.Token.{Token}
use Rattle.json.specs.Lex.{tokens}
use Rattle.text_spots.specs.Spots.{spot_at}
use Rattle.part_tokens.specs.PartTokens.{first_token}
use Rattle.unread_keys.specs.Unread.{Note}
use Rattle.unread_notes.specs.Lines.{line_of, more_line}

-- the text goes on with the key at the offset, or the offset is its end
abbrev pub KeyStands : List ℕ → ℕ → List ℕ → Type 0
KeyStands text n key = (n ≡ length text) ⊎ (first_token (tokens (drop n text)) ≡ Some (Token.key key))

-- the line of a note, with the line and the column at which its key begins
abbrev pub IsLine : List ℕ → List ℕ → Note → List ℕ → Type 0
IsLine file text note line = (n : ℕ) × KeyStands text n note.key × (line ≡ line_of file (spot_at text n) note)

-- a line for each note, in their order
abbrev pub AreLines : List ℕ → List ℕ → List Note → List ℕ → Type 0
AreLines file text [] lines = lines ≡ []
AreLines file text (note ∷ notes) lines = (line : List ℕ) × (rest : List ℕ) × IsLine file text note line × AreLines file text notes rest × (lines ≡ line ++ rest)

-- the lines of all notes: the first hundred, and whether there are more
pub record AreNotes (file text : List ℕ) (all : List Note) (lines : List ℕ) : Type 0 where
  pub told : List ℕ
  pub are_lines : AreLines file text (take 100 all) told
  pub lines_are : lines ≡ told ++ more_line file (length all)

-- these lines, behind what there was
abbrev pub PutsLines : List ℕ → List ℕ → List Note → List ℕ → List ℕ → Type 0
PutsLines file text notes old new = (lines : List ℕ) × AreLines file text notes lines × (new ≡ old ++ lines)

abbrev pub PutsLine : List ℕ → List ℕ → Note → List ℕ → List ℕ → Type 0
PutsLine file text note old new = (line : List ℕ) × IsLine file text note line × (new ≡ old ++ line)
