-- A history that is made again, call by call.
use Rattle.std.proofs.Common.{◌≡◌, ℕ, ℤ, ◌+◌, ◌<◌, ◌≤ℤ◌, ◌<ℤ◌, List, [], ◌∷◌, ◌++◌, length, take, get_or, refl, sym, ◌∙◌, ap, subst, arith}
use Rattle.std.proofs.lemmas.Int.{ints}
use Rattle.std.proofs.lemmas.List.{take_more}
use Rattle.std.proofs.lemmas.Option.{slice_get_read}
use Rattle.std.specs.Prelude.{slice_get, Some}
use Rattle.ledger_kept.specs.EutxoTypes.declared.output.Output.{Output}
use Rattle.ledger_kept.specs.Ledger.declared.call.Entry.{Entry}
use Rattle.ledger_kept.specs.LedgerSpec.Genesis.{SumsFit, HasLargeSum}
use Rattle.ledger_kept.specs.LedgerSpec.Legal.{IsLegal, before_entry, with_entry, entry_of}
use Rattle.ledger_kept.specs.LedgerSpec.Replay.{Course}

same_entry : (a b : Entry) → a.seat ≡ b.seat → a.number ≡ b.number → a.call ≡ b.call → a.reply ≡ b.reply → a ≡ b
same_entry a b p q r s = λ i. record { seat = p i; number = q i; call = r i; reply = s i }

-- the call of the next entry, made again, adds that entry
pub next_again : (c : Course) → IsLegal c → (n : ℕ) (e : Entry) → n < length c.entries → e ≡ get_or c.entries n e →
    with_entry (before_entry c n) (entry_of (before_entry c n) e.seat e.call) ≡ before_entry c (n + 1)
next_again c legal n e here is =
    let d = before_entry c n in
    let at : slice_get c.entries n ≡ Some e = slice_get_read c.entries (length c.entries) n e refl here is in
    let f = legal n e at in
    let same : entry_of d e.seat e.call ≡ e = same_entry (entry_of d e.seat e.call) e refl (sym f.number) refl (sym f.reply) in
    let more : take (n + 1) c.entries ≡ take n c.entries ++ e ∷ [] = take_more c.entries n e here ∙ ap (λ (x : Entry). take n c.entries ++ x ∷ []) (sym is) in
    ap (λ (x : Entry). with_entry d x) same ∙ ap (λ (l : List Entry). record c { entries = l }) (sym more)

too_large : (a b : ℤ) → a ≤ℤ b → b <ℤ a → ⊥
too_large a b h k = omega (arith, ints, h, k)

-- sums that fit are none that is too large
pub none_large : (os : List Output) → SumsFit os → HasLargeSum os → ⊥
none_large os fit large = too_large _ _ (fit large.0) large.1
