-- What each kind of request may fail of: offers that nobody signed, funds, limits, and outputs that are named twice.
use Rattle.std.specs.Prelude.{ℕ, ℤ, pos, ◌-◌, ◌^◌, int_lt, nat_lt, Bool, false, ◌||◌, if◌then◌else◌, List, [], ◌∷◌, map, length, Option, Some, None, option_map}
use Rattle.std.specs.List.{list_all, list_any}
use Rattle.std.specs.FinMap.{entries}
use Rattle.contract.specs.Names.declared.token.Token.{Token}
use Rattle.ledger.specs.Bundle.Bundles.{Amounts}
use Rattle.ledger.specs.EutxoTypes.declared.lock.Lock.{Lock}
use Rattle.ledger.specs.EutxoTypes.declared.lock.Lock.TheVariants.{Key, Payout, Contract}
use Rattle.ledger.specs.EutxoTypes.declared.output_ref.OutputRef.{OutputRef}
use Rattle.ledger.specs.EutxoTypes.Parts.{same_ref}
use Rattle.ledger.specs.Eutxo.Rules.{has_signed}
use Rattle.ledger.specs.declared.look.Unspent.{Unspent}
use Rattle.builder_spec.specs.declared.fault.BuildFault.{BuildFault}
use Rattle.builder_spec.specs.declared.fault.BuildFault.TheVariants.{NotSigned, NoFunds, TooMany, Repeated}
use Rattle.builder_spec.specs.Holding.{sums, amount_in, least_lacking}

-- whether a lock is the key of a signer
abbrev pub is_signed : List (List ℕ) → Lock → Bool
is_signed signers (Key a) = has_signed signers a
is_signed signers (Payout currency role) = false
is_signed signers (Contract script d) = false

-- 3: an offered output isn't under the key of a signer
abbrev pub signature_cause : List (List ℕ) → List Unspent → Option BuildFault
signature_cause signers offered = if list_all (λ u. is_signed signers u.output.lock) offered then None else Some NotSigned

-- 5: the least token of which less is offered than is wanted
abbrev pub funds_cause : List (Token × ℤ) → List Unspent → Option BuildFault
funds_cause ns offered = option_map NoFunds (least_lacking ns offered)

-- there is more than 2^127 - 1 of a token
abbrev pub is_much : Amounts → Bool
is_much m = list_any (λ e. int_lt (pos (2 ^ 127 - 1)) e.1) (entries m)

-- 6: more than 256 outputs are spent, or more of a token than an amount has room for
abbrev pub is_over : List Unspent → Bool
is_over us = nat_lt 256 (length us) || is_much (sums amount_in us)

abbrev pub limit_cause : List Unspent → Option BuildFault
limit_cause spent = if is_over spent then Some TooMany else None

-- whether two of these references name one output
abbrev pub has_repeat : List OutputRef → Bool
has_repeat [] = false
has_repeat (r ∷ rs) = list_any (λ s. same_ref s r) rs || has_repeat rs

-- 7: of all that is handed in to be spent, two name one output
abbrev pub repeat_cause : List Unspent → Option BuildFault
repeat_cause us = if has_repeat (map (λ u. u.reference) us) then Some Repeated else None
