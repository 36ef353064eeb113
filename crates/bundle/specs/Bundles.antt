-- Amounts of several tokens, as finite maps: a token that isn't there has 0.
use Rattle.std.specs.Prelude.{ℤ, pos, ◌+ℤ◌, ◌-ℤ◌, ◌-◌, ◌^◌, int_lt, Bool, false, ◌||◌, cond, if◌then◌else◌, List, [], ◌∷◌, ◌≡◌, ◌⊎◌, Option, Some, None, is_none, Result, Ok, Err}
use Rattle.std.specs.Option.{unwrap_or, MatchOption}
use Rattle.std.specs.Ordering.{int_eq}
use Rattle.std.specs.FinMap as map
use Rattle.std.specs.FinMap.{FinMap}
pub use Rattle.names.specs.Collections.Positive.{AllPositive}
use Rattle.bundle.specs.declared.fault.BundleFault.{BundleFault}
use Rattle.bundle.specs.declared.fault.BundleFault.TheVariants as faults
use Rattle.names.specs.declared.token.Token.{Token}
use Rattle.names.specs.Orders.{token_cmp}

-- amounts by token
abbrev pub Amounts : Type 0
Amounts = FinMap token_cmp ℤ

-- how much there is of a token
abbrev pub amount_of : Amounts → Token → ℤ
amount_of m t = unwrap_or (map.get m t) (pos 0)

-- the amounts with this one in the token's place, which 0 removes
abbrev pub with_amount : Amounts → Token → ℤ → Amounts
with_amount m t n = cond (int_eq n (pos 0)) (map.remove m t) (map.insert m t n)

-- what each entry makes of its token's amount
abbrev pub each : (ℤ → ℤ → ℤ) → Amounts → List (Token × ℤ) → Amounts
each f m [] = m
each f m (e ∷ es) = each f (with_amount m e.0 (f (amount_of m e.0) e.1)) es

-- both together, token by token
abbrev pub plus : Amounts → Amounts → Amounts
plus a b = each (λ m n. m +ℤ n) a (map.entries b)

-- what the second leaves of the first
abbrev pub minus : Amounts → Amounts → Amounts
minus a b = each (λ m n. m -ℤ n) a (map.entries b)

-- the first of these entries of whose token there is less
abbrev pub first_short : Amounts → List (Token × ℤ) → Option Token
first_short m [] = None
first_short m (e ∷ es) = if int_lt (amount_of m e.0) e.1 then Some e.0 else first_short m es

-- the least token of which the first has less than the second
abbrev pub lacking : Amounts → Amounts → Option Token
lacking a b = first_short a (map.entries b)

-- Ok where no token lacks; else a fault names it, or memory for its name is refused
abbrev pub TellsShort : Option Token → Result (Unit {0}) BundleFault → Type 0
TellsShort lacks result = MatchOption lacks (result ≡ Ok tt) (λ token. (result ≡ Err (faults.Short token)) ⊎ (result ≡ Err faults.Memory))

abbrev pub covers : Amounts → Amounts → Bool
covers a b = is_none (lacking a b)

-- whether a sum lies above 2^127 - 1
abbrev pub is_large : ℤ → ℤ → Bool
is_large m n = int_lt (pos (2 ^ 127 - 1)) (m +ℤ n)

abbrev pub any_large : Amounts → List (Token × ℤ) → Bool
any_large m [] = false
any_large m (e ∷ es) = is_large (amount_of m e.0) e.1 || any_large m es

-- whether the sum of a token of the second does
abbrev pub too_large : Amounts → Amounts → Bool
too_large a b = any_large a (map.entries b)
