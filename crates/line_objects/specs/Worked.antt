-- Worked rows of lines as an object, computed on the definitions.
use Rattle.std.specs.Prelude.{◌≡◌, [], ◌∷◌, ◌++◌, codes}
use Rattle.line_objects.specs.Objects.{lines_object}

abbrev pub NoLines : Type 0
NoLines = lines_object [] ≡ codes "{\"lines\":[]}" ++ 10 ∷ []

abbrev pub TwoLines : Type 0
TwoLines = lines_object (codes "k0 close" ++ (10 ∷ (codes "v0 \"x\"" ++ 10 ∷ []))) ≡ codes "{\"lines\":[\"k0 close\",\"v0 \\\"x\\\"\"]}" ++ 10 ∷ []
