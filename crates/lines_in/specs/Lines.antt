-- The lines of a stream.
use Rattle.std.specs.Prelude.{ℕ, List, [], ◌∷◌, ◌++◌, length, nat_lt, ◌==◌, ◌||◌, not, Bool, true, false, if◌then◌else◌}

abbrev pub longest_line : ℕ
longest_line = 4194304

-- a line without its line feed, or one that is longer than 4 MiB
pub data Line : Type 0 where
  text : List ℕ → Line
  too_long : Line

abbrev pub is_empty : List ℕ → Bool
is_empty [] = true
is_empty (b ∷ bs) = false

-- a line that has ended, where it may be known that it is too long
abbrev pub one_line : Bool → List ℕ → Line
one_line is_long line = if is_long || nat_lt longest_line (length line) then too_long else text line

-- the lines of bytes, where so much of the first has come before them. Bytes behind the last line feed are a line
abbrev pub lines : Bool → List ℕ → List ℕ → List Line
lines is_long line [] = if is_long || not (is_empty line) then one_line is_long line ∷ [] else []
lines is_long line (b ∷ bs) = if b == 10 then one_line is_long line ∷ lines false [] bs else lines is_long (line ++ b ∷ []) bs

-- the lines of a whole stream
abbrev pub lines_of : List ℕ → List Line
lines_of bytes = lines false [] bytes
