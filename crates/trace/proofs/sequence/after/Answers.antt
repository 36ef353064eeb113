use Rattle.std.proofs.Common.{◌∙◌, ◌+◌, drop, sym, ap, refl, arith, Result, Err}
use Rattle.std.proofs.lemmas.Result.{err_from_is_err_and}
use Rattle.contract.specs.Tree.{contract_tree}
use Rattle.semantics.specs.Walk.{Standing, standing}
use Rattle.analysis_spec.specs.Marks.{leads_after}
use Rattle.trace.specs.declared.refused.Refused.{Refused}
use Rattle.trace.proofs.Joining.{left_here, refused_here, left_whole, leads_here, led_whole}
use Rattle.trace.proofs.sequence.after.Goals as goal

pub loop-index-init : goal.loop-index-init
loop-index-init c = rw c.in_ok-left.ensures (record { answer = refl; path = refl })

pub returns-in_err-left-2-clause-answer : goal.returns-in_err-left-2-clause-answer
returns-in_err-left-2-clause-answer c =
    let p = err_from_is_err_and c.from_residual-in_err-left-2.result c.from_residual-in_err-left-2.ensures.1 in
    let a = standing c.loop-index.left.state (contract_tree c.loop-index.left.contract.now) in
    let f = c.in_err-left-2.field-0.0.fault in
    let h = c.in_err-left-2.ensures.answer in
    rw (p.1, p.2)
    (λ m.
    c.loop-index.invariant.answer
    ∙ (refused_here c.loop-index.index a c.args.transactions.now c.index-transactions-index.result f (omega arith) c.index-transactions-index.is (h.1 m)
    ∙ ap (λ n. let o : Result Standing Refused = Err (record { index = n; fault = f }) in o) (sym h.0)))

pub loop-index-preserved : goal.loop-index-preserved
loop-index-preserved c =
    let ts = c.args.transactions.now in
    let n = c.loop-index.index in
    let t = c.index-transactions-index.result in
    let a = standing c.loop-index.left.state (contract_tree c.loop-index.left.contract.now) in
    let b = standing c.in_ok-left-2.left.state (contract_tree c.in_ok-left-2.left.contract.now) in
    let h = c.in_ok-left-2.ensures in
    let v = c.loop-index.invariant in
    record {
      answer = v.answer ∙ left_here n a b ts t (omega arith) c.index-transactions-index.is h.answer;
      path = v.path ∙ (leads_here c.loop-index.left.path n a b ts t (omega arith) c.index-transactions-index.is h.answer ∙ ap (λ here. leads_after here b (drop (n + 1) ts)) (sym h.path));
    }

pub returns : goal.returns
returns c =
    let a = standing c.loop-index.left.state (contract_tree c.loop-index.left.contract.now) in
    let n = c.loop-index.index in
    let ts = c.args.transactions.now in
    let v = c.loop-index.invariant in
    record { answer = v.answer ∙ left_whole n a ts c.loop-index-test.false; path = sym (v.path ∙ led_whole c.loop-index.left.path n a ts c.loop-index-test.false) }
