-- The lines of a text that is no JSON, or too long, and its members for tools.
use Rattle.std.specs.Prelude.{◌≡◌, ℕ, Bool, true, false, nat_eq, List, [], ◌∷◌, ◌++◌, drop, codes, decimal}
use Rattle.std.specs.Str.{IsUtf8}
use Rattle.std.specs.Str.Lossy.{utf8_valid_len, utf8_lossy}
use Rattle.std.specs.List.{starts_with}
use Rattle.text_spots.specs.Spots.{mark, spot_at}
use Rattle.explanations.specs.declared.broken.NoJson.{NoJson}
use Rattle.explanations.specs.declared.broken.NoJson.TheVariants as no_json
use Rattle.serde_json.specs.Data.{string}
use Rattle.json_members.specs.Members.{first_member, next_member, count_json}
use Rattle.told_parts.specs.Lines.{piece_shown, spot_text}
use Rattle.told_parts.specs.Members.{spot_members}

-- what stands there
abbrev pub rest_text : List ℕ → List ℕ
rest_text [] = codes "the end of the text"
rest_text (b ∷ bs) = piece_shown (utf8_lossy (b ∷ bs))

-- why, in words: lists and objects may nest so deep
abbrev pub reason_words : ℕ → NoJson → List ℕ → List ℕ
reason_words depth no_json.NotUtf8 rest = codes "no UTF-8"
reason_words depth no_json.Mark rest = codes "a byte order mark stands before the text"
reason_words depth no_json.TooDeep rest = codes "nested deeper than " ++ decimal depth
reason_words depth no_json.Syntax rest = codes "no JSON; here stands " ++ rest_text rest

-- what to do about a text that is nested too deep
abbrev pub depth_hint : List ℕ
depth_hint = codes "wait less often in a row, or run what is left as a contract of its own"

abbrev pub reason_hint_line : NoJson → List ℕ
reason_hint_line no_json.TooDeep = codes "  " ++ (depth_hint ++ codes "\n")
reason_hint_line reason = []

abbrev pub reason_text : ℕ → NoJson → List ℕ → List ℕ
reason_text depth reason rest = reason_words depth reason rest ++ (codes "\n" ++ reason_hint_line reason)

abbrev pub no_json_lines : ℕ → List ℕ → List ℕ → NoJson → ℕ → List ℕ
no_json_lines depth file text reason n =
    spot_text file (spot_at text n) ++ (codes ": " ++ reason_text depth reason (drop n text))

-- ---- members for tools

abbrev pub reason_hint_member : NoJson → List ℕ
reason_hint_member no_json.TooDeep = next_member (codes "hint") (string depth_hint)
reason_hint_member reason = []

abbrev pub no_json_members : ℕ → List ℕ → List ℕ → NoJson → ℕ → List ℕ
no_json_members depth file text reason n =
    spot_members file (spot_at text n) ++ (next_member (codes "reason") (string (reason_words depth reason (drop n text))) ++ reason_hint_member reason)

abbrev pub too_long_members : List ℕ → ℕ → List ℕ
too_long_members file n = first_member (codes "file") (string file) ++ next_member (codes "length") (count_json n)

-- ---- what is promised

abbrev pub has_mark : List ℕ → Bool
has_mark text = starts_with nat_eq text mark

-- what is promised of the reason and of its offset in the text: where a text in UTF-8 breaks the form of JSON, nothing
abbrev pub IsReason : List ℕ → NoJson → ℕ → Type 0
IsReason text no_json.NotUtf8 n = ¬ (IsUtf8 text) × (n ≡ utf8_valid_len text)
IsReason text no_json.Mark n = IsUtf8 text × (has_mark text ≡ true) × (n ≡ 0)
IsReason text no_json.TooDeep n = IsUtf8 text × (has_mark text ≡ false)
IsReason text no_json.Syntax n = IsUtf8 text × (has_mark text ≡ false)

abbrev pub too_long_line : List ℕ → ℕ → List ℕ
too_long_line file n = codes "  " ++ (file ++ (codes ": " ++ (decimal n ++ codes " bytes, and 1048576 are read\n")))
