-- One more payment that may be due.
use Rattle.std.proofs.Common.{◌≡◌, ℕ, suc, ◌+◌, ◌<◌, List, sym, ◌∙◌, ap, arith, Option, Some, None, drop, length, get_or}
use Rattle.std.specs.Prelude.{if◌then◌else◌, is_some}
use Rattle.std.proofs.lemmas.List.{at_drop_more}
use Rattle.contract.specs.declared.payment.Payment.{Payment}
use Rattle.contract.specs.Names.declared.party.Party.{Party}
use Rattle.eutxo.specs.EutxoTypes.declared.output.Output.{Output}
use Rattle.roles.specs.Steps.{and_owed_output, due_to, due_outputs}

-- what is due from a payment on begins with what is due for it
pub due_next : (currency : List ℕ) (ps : List Payment) (i : ℕ) (p : Payment) → i < length ps → p ≡ get_or ps i p →
    due_outputs currency (drop i ps) ≡ and_owed_output currency p (due_to p) (due_outputs currency (drop (i + 1) ps))
due_next currency ps i p l e =
    at_drop_more (λ (qs : List Payment). due_outputs currency qs) ps i p l ∙ ap (λ (q : Payment). and_owed_output currency q (due_to q) (due_outputs currency (drop (i + 1) ps))) (sym e)

pub due_more : (currency : List ℕ) (ps : List Payment) (i : ℕ) (p : Payment) → i < length ps → p ≡ get_or ps i p →
    length (due_outputs currency (drop i ps)) ≡ (if is_some (due_to p) then 1 else 0) + length (due_outputs currency (drop (i + 1) ps))
due_more currency ps i p l e = ap (λ (os : List Output). length os) (due_next currency ps i p l e) ∙ by (due_to p) (due_outputs currency (drop (i + 1) ps))
  where
    by : (o : Option Party) (os : List Output) → length (and_owed_output currency p o os) ≡ (if is_some o then 1 else 0) + length os
    by None os = let e : length os ≡ 0 + length os = omega arith in e
    by (Some party) os = let e : suc (length os) ≡ 1 + length os = omega arith in e
