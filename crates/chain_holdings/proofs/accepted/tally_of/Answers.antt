use Rattle.std.proofs.Common.{rules, ◌≡◌, ℤ, List, take, to_z, of_z, w64, subst, arith}
use Rattle.std.proofs.lemmas.List.{length-take-le, take_all}
use Rattle.ledger_kept.specs.Ledger.declared.call.Entry.{Entry}
use Rattle.chain_holdings.proofs.TallyLemmas.{IsOf, some_course, tally_next}
use Rattle.chain_holdings.proofs.accepted.tally_of.Goals as goal

pub keep-requires-clause-so : goal.keep-requires-clause-so
keep-requires-clause-so c =
    let tick = to_z w64 (of_z w64 c.args.tick) in
    let i = c.loop-place.place in
    let es = c.args.entries.now in
    some_course c.loop-place.tally tick (take i es) i (length-take-le i es (omega (arith, c.loop-place-test.true))) c.loop-place.invariant

pub loop-place-preserved : goal.loop-place-preserved
loop-place-preserved c =
    let tick = to_z w64 (of_z w64 c.args.tick) in
    let i = c.loop-place.place in
    let es = c.args.entries.now in
    tally_next c.loop-place.tally c.keep.new.self tick es i c.index-entries-place.result c.loop-place-test.true c.index-entries-place.is (length-take-le i es (omega (arith, c.loop-place-test.true))) c.loop-place.invariant c.in_ok-keep.ensures.ok

pub returns : goal.returns
returns c =
    let tick = to_z w64 (of_z w64 c.args.tick) in
    let same : tick ≡ c.args.tick = search rules in
    let all = subst (λ (es : List Entry). IsOf c.loop-place.tally tick es) (take_all c.loop-place.place c.args.entries.now c.loop-place-test.false) c.loop-place.invariant in
    subst (λ (k : ℤ). IsOf c.loop-place.tally k c.args.entries.now) same all
