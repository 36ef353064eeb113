-- The orders of bytes, parties, tokens, accounts and choices tell all values apart: what they tie is equal.
use Rattle.std.proofs.Common.{ℕ, List, ap}
use Rattle.std.proofs.lemmas.Map.Lookups.{CmpEqualImpliesEq, exact_bytes, exact_pairs}
use Rattle.names.specs.declared.party.Party.{Party}
use Rattle.names.specs.declared.party.Party.TheVariants.{Address, Role}
use Rattle.names.specs.declared.token.Token.{Token}
use Rattle.names.specs.Orders.{bytes_cmp, party_cmp, token_cmp, account_cmp, choice_id_cmp}

pub bytes_exact : CmpEqualImpliesEq bytes_cmp
bytes_exact = exact_bytes

pub party_exact : CmpEqualImpliesEq party_cmp
party_exact (Address a) (Address b) h = ap Address (exact_bytes a b h)
party_exact (Address a) (Role b) h = cc
party_exact (Role a) (Address b) h = cc
party_exact (Role a) (Role b) h = ap Role (exact_bytes a b h)

pub token_exact : CmpEqualImpliesEq token_cmp
token_exact a b h = ap (λ (p : List ℕ × List ℕ). record { symbol = p.0; name = p.1 }) (exact_pairs bytes_cmp bytes_cmp exact_bytes exact_bytes (a.symbol, a.name) (b.symbol, b.name) h)

pub account_exact : CmpEqualImpliesEq account_cmp
account_exact a b h = ap (λ (p : Party × Token). record { owner = p.0; token = p.1 }) (exact_pairs party_cmp token_cmp party_exact token_exact (a.owner, a.token) (b.owner, b.token) h)

pub choice_id_exact : CmpEqualImpliesEq choice_id_cmp
choice_id_exact a b h = ap (λ (p : List ℕ × Party). record { name = p.0; owner = p.1 }) (exact_pairs bytes_cmp party_cmp exact_bytes party_exact (a.name, a.owner) (b.name, b.owner) h)
