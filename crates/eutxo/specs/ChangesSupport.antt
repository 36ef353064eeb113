-- No reader needs this file: it serves the rule on sums alone.
-- What is spent and made, token by token, and a walk along it.
use Rattle.std.specs.Prelude.{◌≡◌, ℤ, pos, ◌+ℤ◌, neg_ℤ, Bool, false, if◌then◌else◌, List, [], ◌∷◌, ◌++◌, Option, Some, None}
use Rattle.std.specs.FinMap.{entries}
use Rattle.std.specs.Ordering.{int_eq, is_lt}
use Rattle.contract.specs.Names.declared.token.Token.{Token}
use Rattle.contract.specs.Names.Equal.{same_token}
use Rattle.contract.specs.Names.Orders.{token_cmp}
use Rattle.eutxo_types.specs.Bundle.Bundles.{Amounts}

-- an amount, which counts against the others where it is made
abbrev pub signed : Bool → ℤ → ℤ
signed made n = if made then neg_ℤ n else n

abbrev pub signed_entries : Bool → List (Token × ℤ) → List (Token × ℤ)
signed_entries made [] = []
signed_entries made (e ∷ es) = (e.0, signed made e.1) ∷ signed_entries made es

-- the amounts of all that these hold
abbrev pub changes_of : {A : Type 0} → (A → Amounts) → Bool → List A → List (Token × ℤ)
changes_of held made [] = []
changes_of held made (x ∷ xs) = signed_entries made (entries (held x)) ++ changes_of held made xs

-- no entry is of a lesser token
abbrev pub NoneBelow : Token → List (Token × ℤ) → Type 0
NoneBelow t [] = Unit {0}
NoneBelow t (e ∷ es) = (is_lt (token_cmp e.0 t) ≡ false) × NoneBelow t es

-- the tokens never fall
abbrev pub NeverFalls : List (Token × ℤ) → Type 0
NeverFalls [] = Unit {0}
NeverFalls (e ∷ es) = NoneBelow e.0 es × NeverFalls es

-- whether the next of these is of this token
abbrev pub goes_on : Token → List (Token × ℤ) → Bool
goes_on t [] = false
goes_on t (e ∷ es) = same_token t e.0

-- the first token whose entries don't come to 0, where those of the first token begin with a sum
abbrev pub uneven : ℤ → List (Token × ℤ) → Option Token
uneven s [] = None
uneven s (e ∷ es) = if goes_on e.0 es then uneven (s +ℤ e.1) es else if int_eq (s +ℤ e.1) (pos 0) then uneven (pos 0) es else Some e.0
