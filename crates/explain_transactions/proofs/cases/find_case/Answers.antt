use Rattle.std.proofs.Common.{sym, ◌∙◌}
use Rattle.semantics.specs.Evaluation.Path.{waits_for}
use Rattle.next_inputs.specs.Taking.{taken_case, leaving_case}
use Rattle.explain_transactions.proofs.CasesLemmas.{further_none, taken_past, leaving_past, taken_here, leaving_here, taken_within}
use Rattle.explain_transactions.proofs.cases.find_case.Goals as goal

pub loop-index-init : goal.loop-index-init
loop-index-init g c =
    let ks = waits_for (g.S.Parts.tree c.args.parts.now c.args.place) in
    record { taken = sym (further_none (taken_case c.args.interval c.args.state.now c.args.input.now ks)); leaving = sym (further_none (leaving_case c.args.interval c.args.state.now c.args.input.now ks)) }

pub returns-in_default : goal.returns-in_default
returns-in_default g c =
    let ks = waits_for (g.S.Parts.tree c.args.parts.now c.args.place) in
    leaving_here c.args.interval c.args.state.now c.args.input.now ks c.loop-index.index _ c.case-case.ensures.tree _ c.in_default.ensures c.loop-index.invariant.leaving

pub returns-then-is_taken : goal.returns-then-is_taken
returns-then-is_taken g c =
    let i = c.args.interval in
    let s = c.args.state.now in
    let x = c.args.input.now in
    let ks = waits_for (g.S.Parts.tree c.args.parts.now c.args.place) in
    let q = rw c.if-is_taken.true at c.in-Ok.ensures in
    let t = taken_here i s x ks c.loop-index.index _ c.case-case.ensures.tree q c.loop-index.invariant.taken in
    (t, taken_within i s x ks c.loop-index.index t)

pub loop-index-preserved : goal.loop-index-preserved
loop-index-preserved g c =
    let i = c.args.interval in
    let s = c.args.state.now in
    let x = c.args.input.now in
    let ks = waits_for (g.S.Parts.tree c.args.parts.now c.args.place) in
    let n = c.loop-index.index in
    let q = rw c.if-is_taken.false at c.in-Ok.ensures in
    let v = c.loop-index.invariant in
    record { taken = v.taken ∙ taken_past i s x ks n _ c.case-case.ensures.tree q; leaving = v.leaving ∙ leaving_past i s x ks n _ c.case-case.ensures.tree q }
