use Rattle.std.proofs.Common.{rules, ◌≡◌, ℤ, to_z, of_z, w64, ap, sym, ◌∙◌, subst}
use Rattle.ledger_kept.specs.Ledger.declared.call.Call.{Call}
use Rattle.ledger_kept.specs.LedgerSpec.Legal.{IsLegal, with_entry, entry_of}
use Rattle.ledger_kept.specs.LedgerSpec.Replay.{Course}
use Rattle.chain_holdings.specs.After.{course}
use Rattle.chain_holdings.proofs.AgainLemmas.{next_again}
use Rattle.chain_holdings.proofs.again.made_again.Goals as goal

-- the next call adds the next entry
pub loop-entry-preserved : goal.loop-entry-preserved
loop-entry-preserved c =
    let tick = to_z w64 (of_z w64 c.args.tick) in
    let same : tick ≡ c.args.tick = search rules in
    let es = c.args.entries.now in
    let e = c.entry-item.result in
    let legal = subst (λ (k : ℤ). IsLegal (course c.args.first k es)) (sym same) c.requires.legal in
    c.in_ok-call.ensures.entry ∙ ap (λ (x : Call). with_entry c.loop-entry.chain (entry_of c.loop-entry.chain e.seat x)) c.in_ok-again.ensures
    ∙ ap (λ (d : Course). with_entry d (entry_of d e.seat e.call)) c.loop-entry.invariant
    ∙ next_again (course c.args.first tick es) legal c.loop-entry.entry-index e c.loop-entry-test.true c.entry-item.is
