-- The orders of bytes, parties, tokens, accounts and choices are total. No reader needs this file: it is the proof that
-- `impl Ord` for a party has to give, and what proofs above cite.
use Rattle.std.specs.Cmp.{IsTotalOrder, on_total, then_total, bool_cmp_total}
use Rattle.std.specs.Cmp.Lexicographic.{nat_list_cmp_total}
use Rattle.names.specs.declared.token.Token.{Token}
use Rattle.names.specs.declared.account.Account.{Account}
use Rattle.names.specs.declared.choice_id.ChoiceId.{ChoiceId}
use Rattle.names.specs.Orders.{bytes_cmp, is_role, party_text, party_cmp, token_cmp, account_cmp, choice_id_cmp}

pub bytes_total : IsTotalOrder bytes_cmp
bytes_total = nat_list_cmp_total

pub party_total : IsTotalOrder party_cmp
party_total = then_total (on_total is_role bool_cmp_total) (on_total party_text nat_list_cmp_total)

pub token_total : IsTotalOrder token_cmp
token_total = then_total (on_total (λ (t : Token). t.symbol) nat_list_cmp_total) (on_total (λ (t : Token). t.name) nat_list_cmp_total)

pub account_total : IsTotalOrder account_cmp
account_total = then_total (on_total (λ (a : Account). a.owner) party_total) (on_total (λ (a : Account). a.token) token_total)

pub choice_id_total : IsTotalOrder choice_id_cmp
choice_id_total = then_total (on_total (λ (c : ChoiceId). c.name) nat_list_cmp_total) (on_total (λ (c : ChoiceId). c.owner) party_total)
