use Rattle.std.proofs.Common.{◌≡◌, ◌+◌, ◌++◌, ◌∷◌, [], length, List, sym, ◌∙◌, ap, subst, refl, take, drop, Some, length-append}
use Rattle.std.specs.List.{slice_get}
use Rattle.ledger_views.specs.Ledger.declared.call.Ticketed.{Ticketed}
use Rattle.ledger_views.specs.LedgerSpec.Replay.{Pending, World, pending_entry, world}
use Rattle.ledger_views.specs.LedgerSpec.Calls.{fault_on, round_verdicts}
use Rattle.ledger_views.specs.LedgerKept.Kept.{IsIndexOf}
use Rattle.ledger_dispatch.specs.DispatchSupport.{with_places}
use Rattle.ledger_dispatch.proofs.TiedLemmas.{can_be_taken, tied_after}
use Rattle.ledger_dispatch.proofs.RoundLemmas.{at_taken, begun, ticketed, stands_on, told_more}
use Rattle.ledger_dispatch.proofs.dispatch.round.Goals as goal

pub loop-i-init : goal.loop-i-init
loop-i-init c =
    let w = world c.args.kept.now in
    let vs = c.new-places.result in
    let none : vs ≡ [] = c.new-places.ensures in
    let start : w ≡ with_places w vs = sym (ap (with_places w) none ∙ begun w) in
    record {
      tied = subst (λ (v : World). IsIndexOf c.args.index.now.present v) start c.requires.tied;
      settled = refl;
      told = ap length none;
      places =
          ap (λ (v : World). round_verdicts v (take c.args.count w.replay.pending)) start
          ∙ ap (λ (l : List Ticketed). l ++ round_verdicts (with_places w vs) (take c.args.count w.replay.pending)) (sym none);
    }

pub judge_one-requires : goal.judge_one-requires
judge_one-requires c = can_be_taken c.each_is_judged_alike.ensures c.loop-i.index.present (with_places (world c.args.kept.now) c.loop-i.places) c.pending_at-ticket.result.1.now c.loop-i.invariant.tied

pub loop-i-preserved : goal.loop-i-preserved
loop-i-preserved c =
    let w = world c.args.kept.now in
    let i = c.loop-i.i in
    let vs = c.loop-i.places in
    let here = with_places w vs in
    let ps = take c.args.count w.replay.pending in
    let tx = c.pending_at-ticket.result.1.now in
    let p : Pending = pending_entry c.pending_at-ticket.result.0 tx in
    let t = c.in_ok-place.place in
    let law = c.each_is_judged_alike.ensures in
    let tied = c.loop-i.invariant.tied in
    let there : slice_get w.replay.pending i ≡ Some p = c.pending_at-ticket.ensures in
    let taken : slice_get ps i ≡ Some p =
    ap (λ (l : List Pending). slice_get l i) (sym c.first_of-i-end.ensures.same) ∙ at_taken w.replay.pending c.first_of-i-end.result i c.loop-i-test.true ∙ there in
    let told : t ≡ ticketed p (fault_on here tx) = c.in_ok-place.ensures.verdict ∙ ap (ticketed p) (law c.loop-i.index.present here tx tied).fault in
    let next = tied_after law c.loop-i.index.present c.judge_one.new.index.present here tx tied c.in_ok-place.ensures.fits c.in_ok-place.ensures.present in
    let added = c.in_ok-push.ensures.added in
    let long = c.loop-i.invariant.told in
    record {
      tied =
          subst (λ (l : List Ticketed). IsIndexOf c.judge_one.new.index.present (with_places w l)) (sym added)
          (subst (λ (v : World). IsIndexOf c.judge_one.new.index.present v) (stands_on w vs i p t long there told) next);
      settled = c.judge_one.ensures.settled ∙ c.loop-i.invariant.settled;
      told = ap length added ∙ length-append vs (t ∷ []) ∙ ap (λ n. n + 1) long;
      places =
          told_more w ps vs i p t (round_verdicts w ps) c.loop-i.invariant.places long taken there told
          ∙ ap (λ (l : List Ticketed). l ++ round_verdicts (with_places w l) (drop (i + 1) ps)) (sym added);
    }
