use Rattle.std.proofs.Common.{◌≤◌, sym, subst, arith}
use Rattle.std.specs.Prelude.{IsSome, nat_eq}
use Rattle.std.specs.Map.{lookup}
use Rattle.ledger_kept.specs.Kept.{Tally, counted, IsTally}
use Rattle.ledger_kept.specs.TallySupport.{IsCounted}
use Rattle.chain_index.specs.LedgerSpec.Replay.{Course}
use Rattle.ledger_kept.proofs.KeepLemmas.{on_err, counts_alike, kept_counts, tickets_fit, counts_fit, kept}
use Rattle.ledger_kept.proofs.tally.Tally.keep.Goals as goal

pub returns-in_err-make_room-clause-err : goal.returns-in_err-make_room-clause-err
returns-in_err-make_room-clause-err c =
    let s = c.self.inside in
    let was : Tally = record { tick = s.tick; tickets = s.tickets; pending = s.pending.items; places = s.places.items; counts = s.counts.entries } in
    on_err c.from_residual.result (counts_alike c.args.self.now was c.make_room.new.counts.entries c.self.view_is c.make_room.ensures.counts)

pub returns-in_err-follow-clause-err : goal.returns-in_err-follow-clause-err
returns-in_err-follow-clause-err c =
    let s = c.self.inside in
    let was : Tally = record { tick = s.tick; tickets = s.tickets; pending = s.pending.items; places = s.places.items; counts = s.counts.entries } in
    let stays = counts_alike c.args.self.now was c.make_room.new.counts.entries c.self.view_is c.make_room.ensures.counts in
    on_err c.from_residual-in_err-follow.result (λ (d : Course) (is : IsTally c.args.self.now d). subst (λ (t : Tally). IsTally t d) (sym c.in_err-follow.ensures.err) (stays d is))

pub count-requires : goal.count-requires
count-requires c =
    let s = c.self.inside in
    let e = c.args.entry.now in
    let n = c.args.place in
    let so = c.requires.so in
    let was : Tally = record { tick = s.tick; tickets = s.tickets; pending = s.pending.items; places = s.places.items; counts = s.counts.entries } in
    let now : Tally = record was { counts = c.make_room.new.counts.entries } in
    let is = counts_alike c.args.self.now was c.make_room.new.counts.entries c.self.view_is c.make_room.ensures.counts so.0 so.2 in
    let after = sym c.in_ok-follow.ensures.ok in
    let room = subst (λ cs. IsSome (lookup (nat_eq e.seat) cs)) (sym (kept_counts now n e.call e.reply)) c.in_ok-make_room.ensures.there in
    let count = subst (λ (t : Tally). counted t.counts e.seat ≤ n) after (counts_fit now so.0 n e.seat e.call e.reply so.1 is) in
    let tickets = subst (λ (t : Tally). t.tickets ≤ n) after (tickets_fit now so.0 n e.call e.reply so.1 is) in
    record {
      room = subst (λ (t : Tally). IsSome (lookup (nat_eq e.seat) t.counts)) after room;
      count = omega (arith, count);
      tickets = omega (arith, tickets);
    }

pub returns-clause-ok : goal.returns-clause-ok
returns-clause-ok c d l is =
    let s = c.self.inside in
    let e = c.args.entry.now in
    let was : Tally = record { tick = s.tick; tickets = s.tickets; pending = s.pending.items; places = s.places.items; counts = s.counts.entries } in
    let now : Tally = record was { counts = c.make_room.new.counts.entries } in
    kept now c.count.new.self d c.args.place e l
    (counts_alike c.args.self.now was c.make_room.new.counts.entries c.self.view_is c.make_room.ensures.counts d is)
    (subst (λ (t : Tally). IsCounted t e c.count.new.self) c.in_ok-follow.ensures.ok c.count.ensures)
