-- The least token of which two lists hold different sums.
use Rattle.std.specs.Prelude.{Bool, not, if◌then◌else◌, List, [], ◌∷◌, ◌++◌, map, filter, Option, Some, None}
use Rattle.std.specs.FinMap.{entries}
use Rattle.std.specs.Ordering.{int_eq, is_lt}
use Rattle.contract.specs.Names.declared.token.Token.{Token}
use Rattle.contract.specs.Names.Orders.{token_cmp}
use Rattle.eutxo_types.specs.Bundle.Bundles.{Amounts}
use Rattle.eutxo_types.specs.Bundle.Totals.{total_of}

-- the tokens that these hold
abbrev pub tokens_of : {A : Type 0} → (A → Amounts) → List A → List Token
tokens_of held [] = []
tokens_of held (x ∷ xs) = map (λ e. e.0) (entries (held x)) ++ tokens_of held xs

-- the lesser of a token and one that may be there
abbrev pub lesser : Token → Option Token → Option Token
lesser t None = Some t
lesser t (Some u) = if is_lt (token_cmp u t) then Some u else Some t

-- the least of these tokens
abbrev pub least : List Token → Option Token
least [] = None
least (t ∷ ts) = lesser t (least ts)

-- whether the two sums of a token differ
abbrev pub differs : {A B : Type 0} → (A → Amounts) → (B → Amounts) → List A → List B → Token → Bool
differs held had xs ys t = not (int_eq (total_of held t xs) (total_of had t ys))

-- the least token of which they do
abbrev pub first_differing : {A B : Type 0} → (A → Amounts) → (B → Amounts) → List A → List B → Option Token
first_differing held had xs ys = least (filter (differs held had xs ys) (tokens_of held xs ++ tokens_of had ys))
