use Rattle.std.proofs.Common.{rules, ◌≡◌, [], ◌∷◌, ◌++◌, ℕ, List, refl, sym, ap, ◌∙◌}
use Rattle.ledger.specs.declared.call.Entry.{Entry}
use Rattle.chain_index.specs.LedgerSpec.Legal.{entry_of}
use Rattle.chain_index.specs.LedgerSpec.Replay.{Course}
use Rattle.hub.specs.declared.answer.Answer.{Answer}
use Rattle.hub.specs.Seats.{entry_told}
use Rattle.hub.proofs.SeatsLemmas.{fits_call, same_entry}
use Rattle.hub.proofs.desk.Desk.admit.Goals as goal

pub invariant_of-seat-2 : goal.invariant_of-seat-2
invariant_of-seat-2 g c =
    let i = c.seat.invariant in
    let old : Course = c.self.inside.chain in
    let me : ℕ = c.seat.inside.number in
    let m = c.in_ok-made.ensures in
    let e : Entry = entry_of old me c.args.call in
    let a : Answer = record { place = c.in_ok-made.made.place; number = c.in_ok-made.made.number; call = c.submit_of-kept.result; reply = c.in_ok-made.made.mine } in
    let entry : e ≡ entry_told me a = same_entry e (entry_told me a) refl (sym m.number) (c.requires ∙ sym c.submit_of-kept.ensures) (sym m.replies.0) in
    let written = c.self.invariant.3 in
    let add : c.beginning.result ≡ c.self.inside.journal ++ e ∷ [] =
    c.beginning.ensures ∙ (m.journal ∙ (ap (λ (k : Course). k.entries) m.chain ∙ ap (λ (l : List Entry). l ++ e ∷ []) (sym written))) in
    let more : c.push_reserved.new.self.items ≡ c.seat.inside.answers.items ++ a ∷ [] = cc (c.push_reserved.ensures.items, c.answer_of.ensures, c.reserve.ensures.items) in (
      c.add.ensures.parts ∙ i.0,
      search rules,
      fits_call {made = e} {a = a} c.seat.inside.seen c.self.inside.journal old.entries c.beginning.result me c.seat.inside.answers.items c.push_reserved.new.self.items i.2 c.covers.ensures.prefix written add entry m.place more,
    )
