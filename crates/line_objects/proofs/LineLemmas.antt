-- Lists of texts, and the worked rows.
use Rattle.std.proofs.Common.{◌≡◌, List, [], refl, ap, map}
use Rattle.std.specs.Prelude.{◌∷◌}
use Rattle.std.specs.Fmt.{digits}
use Rattle.json.proofs.OnLiterals.{json_on_literals}
use Rattle.line_objects.specs.Worked.{TwoLines}

pub map_twice : {A B C : Type 0} (f : B → C) (g : A → B) (xs : List A) → map f (map g xs) ≡ map (λ x. f (g x)) xs
map_twice f g [] = refl
map_twice f g (x ∷ xs) = ap (λ rest. f (g x) ∷ rest) (map_twice f g xs)

pub two_lines : TwoLines
unfolding digits json_on_literals
two_lines = refl
