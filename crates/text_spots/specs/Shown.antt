-- What is shown of a text on a line for people.
use Rattle.std.specs.Prelude.{ℕ, ◌-◌, ◌/◌, ◌%◌, nat_lt, nat_le, ◌&&◌, ◌||◌, Bool, List, [], ◌∷◌, ◌++◌, length, take, drop, flat_map, codes, if◌then◌else◌}
use Rattle.std.specs.Char.{digit_char}

-- ---- characters, as numbers of Unicode

abbrev pub is_among : ℕ → ℕ → ℕ → Bool
is_among first last c = nat_le first c && nat_le c last

-- a control character, or one that ends a line or turns the direction of what follows
abbrev pub is_hidden : ℕ → Bool
is_hidden c = nat_lt c 32 || (is_among 127 159 c || (is_among 8206 8207 c || (is_among 8232 8238 c || is_among 8294 8297 c)))

-- as JSON escapes it: four hexadecimal digits
abbrev pub escape : ℕ → List ℕ
escape c = 92 ∷ 117 ∷ digit_char (c / 4096 % 16) ∷ digit_char (c / 256 % 16) ∷ digit_char (c / 16 % 16) ∷ digit_char (c % 16) ∷ []

abbrev pub seen : ℕ → List ℕ
seen c = if is_hidden c then escape c else c ∷ []

-- ---- texts

-- what stands for the rest of a text
abbrev pub rest_mark : List ℕ
rest_mark = codes ".."

-- the first 60 characters of a text, none of them hidden
abbrev pub shown : List ℕ → List ℕ
shown cs = flat_map seen (take 60 cs) ++ (if nat_lt 60 (length cs) then rest_mark else [])

-- the bytes of a path, of which the middle is left out where there are more than 400
abbrev pub path_shown : List ℕ → List ℕ
path_shown bytes = if nat_le (length bytes) 400 then bytes else take 199 bytes ++ (rest_mark ++ drop (length bytes - 199) bytes)
