-- The orders of parties, tokens, accounts and choices, which `cmp` answers (the law `names_stand_in_order`).
use Rattle.std.specs.Prelude.{ℕ, List, Bool, false, true}
use Rattle.std.specs.declared.cmp.Ordering.{Ordering}
use Rattle.std.specs.Ordering.{nat_cmp, bool_cmp, ordering_then, then_cmp, on}
use Rattle.std.specs.Cmp.Lexicographic.{slice_cmp}
use Rattle.names.specs.declared.party.Party.{Party}
use Rattle.names.specs.declared.party.Party.TheVariants.{Address, Role}
use Rattle.names.specs.declared.token.Token.{Token}
use Rattle.names.specs.declared.account.Account.{Account}
use Rattle.names.specs.declared.choice_id.ChoiceId.{ChoiceId}

-- texts and bytes, byte by byte
abbrev pub bytes_cmp : List ℕ → List ℕ → Ordering
bytes_cmp = slice_cmp nat_cmp

abbrev pub is_role : Party → Bool
is_role (Address a) = false
is_role (Role a) = true

abbrev pub party_text : Party → List ℕ
party_text (Address a) = a
party_text (Role a) = a

-- addresses before roles, then by bytes
abbrev pub party_cmp : Party → Party → Ordering
party_cmp = then_cmp (on is_role bool_cmp) (on party_text bytes_cmp)

-- by currency symbol, then name
abbrev pub token_cmp : Token → Token → Ordering
token_cmp a b = ordering_then (bytes_cmp a.symbol b.symbol) (bytes_cmp a.name b.name)

-- by owner, then token
abbrev pub account_cmp : Account → Account → Ordering
account_cmp a b = ordering_then (party_cmp a.owner b.owner) (token_cmp a.token b.token)

-- by name, then owner
abbrev pub choice_id_cmp : ChoiceId → ChoiceId → Ordering
choice_id_cmp a b = ordering_then (bytes_cmp a.name b.name) (party_cmp a.owner b.owner)
