use Rattle.std.proofs.Common.{◌≡◌, length, sym, ◌∙◌, arith}
use Rattle.marlowe_run.specs.Semantics.Evaluation.Path.{waits_for}
use Rattle.marlowe_next.specs.Applicable.{refusal}
use Rattle.next_lines.specs.Seen.{seen_cases}
use Rattle.marlowe_next.specs.AnswerSupport.{seen_if}
use Rattle.marlowe_next.proofs.CasesLemmas.{takes_at, offer_there, told_more, room_more, all_told, first_told}
use Rattle.marlowe_next.proofs.cases.told_cases.Goals as goal

pub told_case-requires-clause-takes : goal.told_case-requires-clause-takes
told_case-requires-clause-takes g c =
    let fs = c.args.offers.now in
    let n = c.loop-index.index in
    let f = c.index-offers-index.result in
    takes_at c.args.interval c.args.state.now (g.S.Parts.tree c.args.parts.now c.args.place) fs n f c.requires.offers (offer_there fs n f c.loop-index-test.true c.index-offers-index.is)

pub loop-index-preserved : goal.loop-index-preserved
loop-index-preserved g c =
    let count : c.len.result ≡ length c.loop-index.told.items = omega (arith, c.len.ensures, c.loop-index.told.ok.0) in
    record {
      tells =
          λ i from whole z.
          told_more c.args.interval c.args.state.now (g.S.Parts.tree c.args.parts.now c.args.place) c.args.offers.now c.loop-index.index c.index-offers-index.result (seen_cases c.loop-index.told.items) (seen_if c.in_ok-case.case)
          (seen_cases c.put_some.new.told.items) c.requires.offers c.loop-index-test.true c.index-offers-index.is c.in_ok-case.ensures c.in_ok-put_some.ensures i from whole z (c.loop-index.invariant.tells i from whole z);
      within = room_more c.args.most c.loop-index.told.items c.put_some.new.told.items c.in_ok-case.case c.len.result c.loop-index.invariant.within count (sym c.is_full.ensures ∙ c.if-is_full.false) c.in_ok-put_some.ensures;
    }

pub returns-then-is_full : goal.returns-then-is_full
returns-then-is_full g c =
    let count : c.len.result ≡ length c.loop-index.told.items = omega (arith, c.len.ensures, c.loop-index.told.ok.0) in
    let tree = g.S.Parts.tree c.args.parts.now c.args.place in
    λ i from whole z.
    first_told c.args.most (refusal i from whole) (waits_for tree) c.args.offers.now c.loop-index.index c.len.result c.count_from-more.result c.loop-index.told.items (sym c.is_full.ensures ∙ c.if-is_full.true) count
    (c.loop-index.invariant.tells i from whole z) (c.count_from-more.ensures (refusal i from whole))

pub returns : goal.returns
returns g c =
    let tree = g.S.Parts.tree c.args.parts.now c.args.place in
    λ i from whole z.
    all_told c.args.most (refusal i from whole) (waits_for tree) c.args.offers.now c.loop-index.index c.loop-index.told.items (c.loop-index.invariant.tells i from whole z) c.loop-index-test.false c.requires.offers.each c.loop-index.invariant.within
