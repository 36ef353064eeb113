-- How parties, tokens, choice ids, payees and bounds are spelled in bytes, and which of them fit (Marlowe specification
-- version 3, "Participants, roles and public keys", "Multi-asset token", "Choices" and "Accounts", has what they are).
use Rattle.std.specs.Prelude.{ℕ, ℤ, List, ◌∷◌, ◌++◌}
use Rattle.contract.specs.Names.declared.party.Party.{Party}
use Rattle.contract.specs.Names.declared.party.Party.TheVariants as parties
use Rattle.contract.specs.Names.declared.token.Token.{Token}
use Rattle.contract.specs.Names.declared.choice_id.ChoiceId.{ChoiceId}
use Rattle.contract.specs.Names.declared.payee.Payee.{Payee}
use Rattle.contract.specs.Names.declared.payee.Payee.TheVariants as payees
use Rattle.contract.specs.Names.declared.bound.Bound.{Bound}
use Rattle.contract_bytes.specs.Numbers.{number_bytes, text_bytes, NumberFits, TextFits}

abbrev pub party_bytes : Party → List ℕ
party_bytes (parties.Address text) = 0x00 ∷ text_bytes text
party_bytes (parties.Role name) = 0x01 ∷ text_bytes name

abbrev pub token_bytes : Token → List ℕ
token_bytes t = text_bytes t.symbol ++ text_bytes t.name

abbrev pub choice_id_bytes : ChoiceId → List ℕ
choice_id_bytes id = text_bytes id.name ++ party_bytes id.owner

abbrev pub payee_bytes : Payee → List ℕ
payee_bytes (payees.Account owner) = 0x00 ∷ party_bytes owner
payee_bytes (payees.Party party) = 0x01 ∷ party_bytes party

abbrev pub bound_bytes : Bound → List ℕ
bound_bytes b = number_bytes b.from ++ number_bytes b.to

-- a token and how much there is of it
abbrev pub holding_bytes : Token × ℤ → List ℕ
holding_bytes e = token_bytes e.0 ++ number_bytes e.1

-- ---- what fits

abbrev pub PartyFits : Party → Type 0
PartyFits (parties.Address text) = TextFits text
PartyFits (parties.Role name) = TextFits name

abbrev pub TokenFits : Token → Type 0
TokenFits t = TextFits t.symbol × TextFits t.name

abbrev pub ChoiceIdFits : ChoiceId → Type 0
ChoiceIdFits id = TextFits id.name × PartyFits id.owner

abbrev pub PayeeFits : Payee → Type 0
PayeeFits (payees.Account owner) = PartyFits owner
PayeeFits (payees.Party party) = PartyFits party

abbrev pub BoundFits : Bound → Type 0
BoundFits b = NumberFits b.from × NumberFits b.to

abbrev pub HoldingFits : Token × ℤ → Type 0
HoldingFits e = TokenFits e.0 × NumberFits e.1
