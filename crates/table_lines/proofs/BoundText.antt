-- A bound as it is printed is its compact JSON, whatever the size of its numbers.
use Rattle.std.proofs.Common.{◌≡◌, ℤ, pos, negsuc, ◌++◌, refl, ap₂, codes}
use Rattle.std.specs.Fmt.{signed_decimal}
use Rattle.json.proofs.OnLiterals.{json_on_literals}
use Rattle.serde_json.specs.Find.{of_integer}
use Rattle.serde_json.specs.Written.{number_text}
use Rattle.table.specs.Names.declared.bound.Bound.{Bound}
use Rattle.table_lines.specs.TableLines.{bound}

-- an integer's digits
number_is : (z : ℤ) → signed_decimal z ≡ number_text (of_integer z)
number_is (pos n) = refl
number_is (negsuc n) = refl

pub bound_is : (b : Bound) → codes "{\"from\":" ++ (signed_decimal b.from ++ (codes ",\"to\":" ++ (signed_decimal b.to ++ codes "}"))) ≡ bound b
unfolding json_on_literals
bound_is b = ap₂ (λ x y. codes "{\"from\":" ++ (x ++ (codes ",\"to\":" ++ (y ++ codes "}")))) (number_is b.from) (number_is b.to)
