-- Worked rows, computed on the definitions.
use Rattle.std.specs.Prelude.{◌≡◌, ℕ, List, [], ◌∷◌, ◌++◌, length, replicate, codes}
use Rattle.text_spots.specs.Spots.{spot_at, mark}
use Rattle.text_spots.specs.Shown.{shown, path_shown}

abbrev pub IsAt : List ℕ → ℕ → ℕ → ℕ → Type 0
IsAt text offset line column = spot_at text offset ≡ record { line = line; column = column }

-- a line ends at a line feed alone, and a tab is one column; behind the end of the text is where it ends
abbrev pub LinesEndAtLineFeeds : Type 0
LinesEndAtLineFeeds =
    IsAt [] 0 1 1
    × IsAt (codes "{\n  \"pay\"") 0 1 1
    × IsAt (codes "{\n  \"pay\"") 1 1 2
    × IsAt (codes "{\n  \"pay\"") 2 2 1
    × IsAt (codes "{\n  \"pay\"") 4 2 3
    × IsAt (codes "\r\n\t\t1") 4 2 3
    × IsAt (codes "\n\n\n") 9 4 1

-- a scalar value of two, three or four bytes is one column
abbrev pub ColumnsAreScalarValues : Type 0
ColumnsAreScalarValues =
    IsAt (195 ∷ 188 ∷ 49 ∷ []) 2 1 2
    × IsAt (226 ∷ 130 ∷ 172 ∷ 49 ∷ []) 3 1 2
    × IsAt (240 ∷ 159 ∷ 152 ∷ 128 ∷ 49 ∷ []) 4 1 2

-- a byte order mark at the beginning is none; elsewhere it is a scalar value
abbrev pub MarksAreNone : Type 0
MarksAreNone = IsAt (mark ++ codes "{}") 3 1 1 × IsAt (mark ++ codes "{}") 4 1 2 × IsAt (codes "{" ++ mark) 4 1 3

-- control characters are escaped, and so is what turns the direction of a text
abbrev pub NothingIsHidden : Type 0
NothingIsHidden =
    (shown (codes "\"ada\"") ≡ codes "\"ada\"")
    × (shown (27 ∷ codes "[31m") ≡ codes "\\u001b[31m")
    × (shown (127 ∷ 159 ∷ 160 ∷ []) ≡ codes "\\u007f\\u009f" ++ 160 ∷ [])
    × (shown (8238 ∷ 97 ∷ []) ≡ codes "\\u202ea")

-- sixty characters are shown whole, and of more the first sixty
abbrev pub SixtyAreShown : Type 0
SixtyAreShown = (shown (replicate 60 97) ≡ replicate 60 97) × (shown (replicate 61 97) ≡ replicate 60 97 ++ codes "..")

-- a path of 400 bytes is shown whole; a longer one is shown in 400
abbrev pub PathsAreCut : Type 0
PathsAreCut =
    (path_shown (replicate 400 97) ≡ replicate 400 97)
    × (path_shown (replicate 200 97 ++ replicate 201 98) ≡ replicate 199 97 ++ (codes ".." ++ replicate 199 98))
    × (length (path_shown (replicate 401 97)) ≡ 400)
