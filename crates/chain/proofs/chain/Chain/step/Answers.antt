use Rattle.std.proofs.Common.{rules, ◌≡◌, ◌∷◌, [], ◌++◌, refl, sym, ◌∙◌, ap, subst, List}
use Rattle.chain.specs.ChainSupport.{IsKept}
use Rattle.ledger_views.specs.Ledger.declared.call.Entry.{Entry}
use Rattle.ledger_views.specs.LedgerLaws.Sound.{IsMore}
use Rattle.ledger_views.specs.LedgerKept.Kept.{IsIndexOf, world_with}
use Rattle.ledger_views.specs.LedgerSpec.Calls.{reply_to}
use Rattle.ledger_views.specs.LedgerSpec.Legal.{entry_of, with_entry}
use Rattle.ledger_views.specs.LedgerSpec.Replay.{Course, count_of, published, published_at, world}
use Rattle.chain.proofs.LegalLemmas.{kept_cut, kept_settled, made_entry, stays_published}
use Rattle.chain.proofs.chain.Chain.step.Goals as goal

pub invariant_of-self-in-Ok : goal.invariant_of-self-in-Ok
invariant_of-self-in-Ok c =
    let s = c.self.inside in
    let course : Course = record { genesis = s.genesis; first_tick = s.first_tick; entries = s.entries.items } in
    let lent : c.new-kept.result ≡ course = search rules in
    let found = c.in_ok-reply in
    let number : c.count_of.result ≡ count_of c.args.seat s.entries.items = c.count_of.ensures ∙ c.self.invariant.tally.counts c.args.seat in
    let reply = found.ensures.reply ∙ ap (λ (v : Course). reply_to (world v) c.args.call) lent in
    let present = subst (λ (v : Course). IsIndexOf c.answer_or_cut-found.new.index.present (world_with (world v) c.args.call)) lent found.ensures.tied in
    kept_settled _ c.answer_or_cut-found.new.index _ course c.args.seat c.count_of.result c.args.call found.field-0.reply _ number reply c.in-Ok.ensures.entries (c.in-Ok.ensures.tally course refl c.self.invariant.tally) present
    c.settle.ensures c.self.invariant.legal c.self.invariant.sums

pub invariant_of-self-in-Err-1 : goal.invariant_of-self-in-Err-1
invariant_of-self-in-Err-1 c =
    let s = c.self.inside in
    let course : Course = record { genesis = s.genesis; first_tick = s.first_tick; entries = s.entries.items } in
    let cut = kept_cut _ _ s.index c.answer_or_cut-found.new.index _ course c.self.invariant (c.in-Err.ensures.still course c.self.invariant.tally) c.in_ok-reply.ensures.settled c.cut.ensures in
    subst (λ (l : List Entry). IsKept c.add_entry.new.tally c.cut.new.self (let v : Course = record { genesis = s.genesis; first_tick = s.first_tick; entries = l } in v)) (sym c.in-Err.ensures.err) cut

pub returns-in-Ok-clause-entry : goal.returns-in-Ok-clause-entry
returns-in-Ok-clause-entry c =
    let s = c.self.inside in
    let course : Course = record { genesis = s.genesis; first_tick = s.first_tick; entries = s.entries.items } in
    let lent : c.new-kept.result ≡ course = search rules in
    let number : c.count_of.result ≡ count_of c.args.seat s.entries.items = c.count_of.ensures ∙ c.self.invariant.tally.counts c.args.seat in
    let reply = c.in_ok-reply.ensures.reply ∙ ap (λ (v : Course). reply_to (world v) c.args.call) lent in
    let made = made_entry course c.args.seat c.count_of.result c.args.call c.in_ok-reply.field-0.reply number reply in
    ap (λ (l : List Entry). let v : Course = record { genesis = s.genesis; first_tick = s.first_tick; entries = l } in v) (c.in-Ok.ensures.entries ∙ ap (λ (e : Entry). s.entries.items ++ e ∷ []) made)
    ∙ ap (λ (v : Course). with_entry v (entry_of v c.args.seat c.args.call)) c.self.view_is

pub returns-in-Ok-clause-mine : goal.returns-in-Ok-clause-mine
returns-in-Ok-clause-mine c =
    let lent : c.new-kept.result ≡ c.args.self.now = search rules in
    c.in_ok-reply.ensures.mine ∙ ap (λ (v : Course). reply_to (world v) c.args.call) lent

pub returns-in-Ok-clause-told : goal.returns-in-Ok-clause-told
returns-in-Ok-clause-told c =
    let lent : c.new-kept.result ≡ c.args.self.now = search rules in
    c.in_ok-reply.ensures.told ∙ ap (λ (v : Course). reply_to (world v) c.args.call) lent

pub returns-in-Ok-clause-stays : goal.returns-in-Ok-clause-stays
returns-in-Ok-clause-stays c =
    let s = c.self.inside in
    let course : Course = record { genesis = s.genesis; first_tick = s.first_tick; entries = s.entries.items } in
    let lent : c.new-kept.result ≡ course = search rules in
    let number : c.count_of.result ≡ count_of c.args.seat s.entries.items = c.count_of.ensures ∙ c.self.invariant.tally.counts c.args.seat in
    let reply = c.in_ok-reply.ensures.reply ∙ ap (λ (v : Course). reply_to (world v) c.args.call) lent in
    let made = made_entry course c.args.seat c.count_of.result c.args.call c.in_ok-reply.field-0.reply number reply in
    let entries = c.in-Ok.ensures.entries ∙ ap (λ (e : Entry). s.entries.items ++ e ∷ []) made in
    subst (λ (v : Course). IsMore (published_at (published v.entries)) (published_at (published c.add_entry.new.entries.items))) c.self.view_is
    (subst (λ (l : List Entry). IsMore (published_at (published s.entries.items)) (published_at (published l))) (sym entries) (stays_published course c.args.seat c.args.call))
