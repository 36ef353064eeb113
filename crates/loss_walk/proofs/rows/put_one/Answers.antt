use Rattle.std.proofs.Common.{sym, subst, Option}
use Rattle.loss_walk.specs.declared.floor.Floor.{Floor}
use Rattle.loss_walk.specs.Floors.{IsUnder, least_of}
use Rattle.loss_walk.proofs.FloorLemmas.{lowers_finds, kept_finds}
use Rattle.loss_walk.proofs.rows.put_one.Goals as goal

pub returns-then-is_kept : goal.returns-then-is_kept
returns-then-is_kept c =
    kept_finds c.args.known.now c.args.account.now c.args.rows.now c.in_ok-span.span
    (λ n u. c.is_kept.ensures c.if-is_kept.true n (subst (λ (o : Option Floor). IsUnder (least_of o) n) (sym c.get-row.ensures.value) u)) c.in_ok-span.ensures

pub returns : goal.returns
returns c =
    let f = c.lowered.result in
    lowers_finds c.args.account.now f c.args.rows.now (λ n u. subst (λ (o : Option Floor). IsUnder (least_of o) n) c.get-row.ensures.value (c.lowered.ensures.own n u)) c.args.known.now c.in_ok-span.span c.set.new.self c.lowered.ensures.other c.in_ok-span.ensures
    c.in_ok-set.ensures.ok
