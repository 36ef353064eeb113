-- The lines of a text as an object for tools.
use Rattle.std.specs.Prelude.{ℕ, List, [], ◌∷◌, ◌++◌, codes}
use Rattle.std.specs.Str.Lines.{lines}
use Rattle.json_members.specs.Members.{first_member, words_json}

-- an object with a list of texts as `lines`, and a line feed
abbrev pub list_object : List (List ℕ) → List ℕ
list_object texts = codes "{" ++ (first_member (codes "lines") (words_json texts) ++ (codes "}" ++ 10 ∷ []))

abbrev pub lines_object : List ℕ → List ℕ
lines_object text = list_object (lines text)
