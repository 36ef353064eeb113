-- Where in a text something stands: its line and its column, both from 1.
use Rattle.std.specs.Prelude.{ℕ, suc, nat_lt, nat_le, nat_eq, ◌==◌, ◌||◌, Bool, not, List, [], ◌∷◌, take, drop, reverse, count_by, if◌then◌else◌}
use Rattle.std.specs.List.{starts_with, take_while}
use Rattle.text_spots.specs.declared.spots.Spot.{Spot}

-- the byte order mark of UTF-8
abbrev pub mark : List ℕ
mark = 239 ∷ 187 ∷ 191 ∷ []

-- a mark at the beginning is none of the text
abbrev pub without_mark : List ℕ → List ℕ
without_mark bytes = if starts_with nat_eq bytes mark then drop 3 bytes else bytes

-- a byte with which a Unicode scalar value begins in UTF-8
abbrev pub begins_scalar : ℕ → Bool
begins_scalar b = nat_lt b 128 || nat_le 192 b

-- those behind the last line feed, from the back
abbrev pub of_last_line : List ℕ → List ℕ
of_last_line bytes = take_while (λ b. not (b == 10)) (reverse bytes)

-- the line and the column of what comes behind these bytes: a line ends at a line feed, and a column is a scalar value
abbrev pub line_behind : List ℕ → ℕ
line_behind bytes = suc (count_by (λ b. b == 10) bytes)

abbrev pub column_behind : List ℕ → ℕ
column_behind bytes = suc (count_by begins_scalar (of_last_line bytes))

abbrev pub spot_behind : List ℕ → Spot
spot_behind bytes = record { line = line_behind bytes; column = column_behind bytes }

-- the spot of the byte at an offset, from 0
abbrev pub spot_at : List ℕ → ℕ → Spot
spot_at text offset = spot_behind (without_mark (take offset text))
