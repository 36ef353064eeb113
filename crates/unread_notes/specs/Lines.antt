-- The line of a note.
use Rattle.std.specs.Prelude.{ℕ, nat_lt, List, [], ◌∷◌, ◌++◌, flat_map, codes, decimal, chars, encode_utf8_all, if◌then◌else◌}
use Rattle.serde_json.specs.Data.{string}
use Rattle.serde_json.specs.Written.{compact_text}
use Rattle.text_spots.specs.declared.spots.Spot.{Spot}
use Rattle.text_spots.specs.Shown.{path_shown, shown}
use Rattle.json_forms.specs.Forms.{key_word}
use Rattle.unread_keys.specs.declared.unread.Step.{Step}
use Rattle.unread_keys.specs.declared.unread.Step.TheVariants as steps
use Rattle.unread_keys.specs.declared.unread.Why.{Why}
use Rattle.unread_keys.specs.declared.unread.Why.TheVariants.{NoKey, Again}
use Rattle.unread_keys.specs.Unread.{Note}

-- ---- where

abbrev pub step_text : Step → List ℕ
step_text (steps.Key k) = codes "." ++ key_word k
step_text (steps.Item n) = codes "[" ++ (decimal n ++ codes "]")

abbrev pub path_text : List Step → List ℕ
path_text path = flat_map step_text path

-- the whole has no path
abbrev pub at_text : List Step → List ℕ
at_text [] = []
at_text (step ∷ path) = codes " at " ++ path_shown (path_text (step ∷ path))

abbrev pub spot_text : List ℕ → Spot → List ℕ
spot_text file spot = codes "note: " ++ (file ++ (codes ":" ++ (decimal spot.line ++ (codes ":" ++ decimal spot.column))))

-- ---- what

-- a text as it stands in JSON
abbrev pub key_shown : List ℕ → List ℕ
key_shown key = encode_utf8_all (shown (chars (compact_text (string key))))

-- `serde_json` keeps the last of the members with one key
abbrev pub why_text : Why → List ℕ
why_text NoKey = codes "is not read"
why_text Again = codes "stands again; the last is read"

abbrev pub key_text : List ℕ → Why → List ℕ
key_text key why = codes ": the key " ++ (key_shown key ++ (codes " " ++ (why_text why ++ codes "\n")))

abbrev pub line_of : List ℕ → Spot → Note → List ℕ
line_of file spot note = spot_text file spot ++ (at_text note.path ++ key_text note.key note.why)

-- ---- how many

-- a hundred notes are told; this stands for all others
abbrev pub more_line : List ℕ → ℕ → List ℕ
more_line file count = if nat_lt 100 count then codes "note: " ++ (file ++ codes ": .. and more\n") else []
