-- No reader needs this file: what a map of missing amounts stands for.
use Rattle.std.specs.Prelude.{◌≡◌, ℕ, ℤ, pos, ◌-ℤ◌, int_lt, Bool, not, if◌then◌else◌, List, [], ◌∷◌, Option, Some, None, is_some}
use Rattle.std.specs.Ordering.{eq_by_cmp}
use Rattle.std.specs.FinMap.{get}
use Rattle.contract.specs.Names.declared.party.Party.{Party}
use Rattle.contract.specs.Names.declared.party.Party.TheVariants.{Address, Role}
use Rattle.contract.specs.Names.declared.token.Token.{Token}
use Rattle.contract.specs.Names.Orders.{token_cmp}
use Rattle.builder_spec.specs.Bundle.Bundles.{Amounts}
use Rattle.builder_spec.specs.Bundle.Totals.{total_of}
use Rattle.builder_spec.specs.Eutxo.Rules.{has_signed}
use Rattle.builder_spec.specs.Roles.Steps.{role_token}
use Rattle.builder_spec.specs.Ledger.declared.look.Unspent.{Unspent}
use Rattle.builder_spec.specs.Holding.{amount_in, wanted}

-- a number, where it is above 0
abbrev pub if_positive : ℤ → Option ℤ
if_positive n = if int_lt (pos 0) n then Some n else None

-- one at least, where it must be
abbrev pub one_at_least : Bool → ℤ → ℤ
one_at_least must n = if must then (if int_lt (pos 0) n then n else pos 1) else n

-- how much of a token is needed: as much as is wanted, and one at least of each of these roles' tokens
abbrev pub required_amount : List Token → List (Token × ℤ) → Token → ℤ
required_amount [] ns t = wanted ns t
required_amount (r ∷ rs) ns t = one_at_least (eq_by_cmp token_cmp r t) (required_amount rs ns t)

-- how much more of it is needed than outputs hold
abbrev pub lacking_amount : List Token → List (Token × ℤ) → List Unspent → Token → ℤ
lacking_amount rs ns us t = required_amount rs ns t -ℤ total_of amount_in t us

-- a map has, of each token, the number that a function gives it, where that is above 0
abbrev pub IsMissing : (Token → ℤ) → Amounts → Type 0
IsMissing f m = (t : Token) → get m t ≡ if_positive (f t)

-- where as much is missing as is wanted, one at least of each of these roles' tokens is missing afterwards
abbrev pub AddsRoles : List Token → Amounts → Amounts → Type 0
AddsRoles rs old new = (ns : List (Token × ℤ)) → IsMissing (wanted ns) old → IsMissing (required_amount rs ns) new

-- of what is missing as much less is missing afterwards as outputs hold
abbrev pub TakesHeld : List Unspent → Amounts → Amounts → Type 0
TakesHeld us old new = (f : Token → ℤ) → IsMissing f old → IsMissing (λ t. f t -ℤ total_of amount_in t us) new

-- an address acts by its signature, and a role unless its token is needed
abbrev pub may_act_but : List ℕ → List (List ℕ) → Amounts → Party → Bool
may_act_but currency signers m (Address a) = has_signed signers a
may_act_but currency signers m (Role r) = not (is_some (get m (role_token currency r)))
