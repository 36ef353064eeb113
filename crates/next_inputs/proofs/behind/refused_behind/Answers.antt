use Rattle.std.proofs.Common.{◌≡◌, ◌≢◌, Option, Some, sym, subst}
use Rattle.std.proofs.lemmas.Result.{IfOk-weaker}
use Rattle.std.specs.Result.{result_err}
use Rattle.contract.specs.declared.fault.SemFault.{SemFault}
use Rattle.contract.specs.declared.fault.SemFault.TheVariants.{Memory}
use Rattle.semantics.specs.Evaluation.Parts.{case_tree_of}
use Rattle.semantics.specs.Walk.{answer_of}
use Rattle.next_inputs.specs.Opening.{opening}
use Rattle.next_inputs.specs.Behind.{IsRefusedBehind}
use Rattle.next_inputs.proofs.BehindLemmas.{refused_at_once, refused_later, refused_at_rest}
use Rattle.next_inputs.proofs.behind.refused_behind.Goals as goal

pub returns-then-rests : goal.returns-then-rests
returns-then-rests g c =
    let S = g.S.Parts in
    let o = c.args.parts.now in
    let t = S.tree o c.args.place in
    refused_at_rest c.args.interval c.args.state.now t c.args.index c.args.input.now (case_tree_of (S.tree o) (S.value_tree o) (S.observation_tree o) c.case-case.result) c.sum_refused.result c.case-case.ensures.tree (c.rests.ensures c.if-rests.true) c.sum_refused.ensures

pub returns-in-Ok : goal.returns-in-Ok
returns-in-Ok g c =
    let S = g.S.Parts in
    let o = c.args.parts.now in
    let j = c.args.interval in
    let t = S.tree o c.args.place in
    IfOk-weaker c.refused_from.result (λ (f : Option SemFault). f ≡ result_err (answer_of (opening j c.in-Ok.after (S.tree o c.case-case.result.then)))) (IsRefusedBehind j c.args.state.now t c.args.index c.args.input.now)
    (λ f h. refused_later j c.args.state.now t c.args.index c.args.input.now (case_tree_of (S.tree o) (S.value_tree o) (S.observation_tree o) c.case-case.result) c.in-Ok.after f c.case-case.ensures.tree c.in-Ok.ensures h)
    c.refused_from.ensures

pub returns-in-Err : goal.returns-in-Err
returns-in-Err g c =
    let j = c.args.interval in
    let s = c.args.state.now in
    let t = g.S.Parts.tree c.args.parts.now c.args.place in
    let e = c.in-Err.fault in
    IfOk-weaker c.told.result (λ (f : Option SemFault). (f ≡ Some e) × (e ≢ Memory)) (IsRefusedBehind j s t c.args.index c.args.input.now)
    (λ f h. subst (λ (x : Option SemFault). IsRefusedBehind j s t c.args.index c.args.input.now x) (sym h.0) (refused_at_once j s t c.args.index c.args.input.now e (c.in-Err.ensures h.1))) c.told.ensures
