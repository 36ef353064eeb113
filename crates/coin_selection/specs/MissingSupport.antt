-- No reader needs this file: what is left of a missing amount, and the least token that is missing.
use Rattle.std.specs.Prelude.{◌≡◌, ℤ, pos, ◌+ℤ◌, ◌-ℤ◌, ◌<ℤ◌, ◌≤ℤ◌, ◌^◌, int_lt, true, if◌then◌else◌, Option, Some, None, is_some}
use Rattle.std.specs.Option.{IsSome, option_map}
use Rattle.std.specs.Ordering.{is_lt, eq_by_cmp}
use Rattle.std.specs.FinMap.{get}
use Rattle.contract.specs.Names.declared.token.Token.{Token}
use Rattle.contract.specs.Names.Orders.{token_cmp}
use Rattle.builder_spec.specs.Bundle.Bundles.{Amounts, amount_of}

-- once so much is there: nothing, where that is as much as is needed
abbrev pub left : Option ℤ → ℤ → Option ℤ
left None n = None
left (Some m) n = if int_lt n m then Some (m -ℤ n) else None

-- it is needed, and no token before it is
abbrev pub IsLeast : Amounts → Token → Type 0
IsLeast m t = IsSome (get m t) × ((u : Token) → is_lt (token_cmp u t) ≡ true → get m u ≡ None)

-- a number that may be a need: no sum of amounts that fit a list comes near the limit
abbrev pub InRange : ℤ → Type 0
InRange n = (pos 0 <ℤ n) × (n ≤ℤ pos (2 ^ 200))

-- of one token something else is needed, by what was, and of each other as much as before
abbrev pub ChangesOne : (Token → Option ℤ) → (Token → Option ℤ) → Token → (Option ℤ → Option ℤ) → Type 0
ChangesOne old new t f = (u : Token) → new u ≡ (if eq_by_cmp token_cmp t u then f (old u) else old u)

-- so much more of a token is needed
abbrev pub Adds : Amounts → Amounts → Token → ℤ → Type 0
Adds old new t n = ChangesOne (get old) (get new) t (λ _. Some (amount_of old t +ℤ n))

-- one, where nothing is needed
abbrev pub or_one : Option ℤ → Option ℤ
or_one o = if is_some o then o else Some (pos 1)

-- a need that grows by a number
abbrev pub more_by : ℤ → Option ℤ → Option ℤ
more_by n o = option_map (λ m. m +ℤ n) o
