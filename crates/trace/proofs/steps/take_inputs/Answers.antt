use Rattle.std.proofs.Common.{◌∙◌, ◌+◌, ◌<◌, ap, sym, arith, length, drop}
use Rattle.std.proofs.lemmas.Result.{err_from_is_err_and}
use Rattle.contract.specs.Tree.{contract_tree}
use Rattle.semantics.specs.Evaluation.Numbers.{all_fit}
use Rattle.semantics.specs.Walk.{standing, then_walk, answer_of}
use Rattle.semantics.specs.Computed.{one_input, all_inputs}
use Rattle.semantics.proofs.Walks.{follows, fails_first, same_answer}
use Rattle.semantics.proofs.Computing.{inputs_here, inputs_done}
use Rattle.analysis_spec.specs.Marks.{led}
use Rattle.trace.proofs.SteppingLemmas.{led_more}
use Rattle.trace.proofs.steps.take_inputs.Goals as goal

pub returns-in_err-at : goal.returns-in_err-at
returns-in_err-at c =
    let p = err_from_is_err_and c.from_residual.result c.from_residual.ensures.1 in
    let i = c.args.interval in
    let xs = c.args.inputs.now in
    let n = c.loop-input.input-index in
    let x = c.input-item.result in
    let a = standing c.loop-input.state (contract_tree c.loop-input.at.now) in
    let h : n < length xs = omega arith in
    let e = inputs_here i xs n x a h c.input-item.is in
    let k = fails_first (one_input i x a) (all_inputs i (drop (n + 1) xs)) _ c.in_err-at.ensures in
    let v = c.loop-input.invariant in
    rw (p.1, p.2) (λ m. same_answer (all_inputs i xs (standing c.args.state.now (contract_tree c.args.contract.now))) (then_walk (one_input i x a) (all_inputs i (drop (n + 1) xs))) (v.fits ∙ ap (λ w. all_fit w.numbers) e) (v.end ∙ ap (λ w. w.end) e) ∙ k m)

pub loop-input-preserved : goal.loop-input-preserved
loop-input-preserved c =
    let i = c.args.interval in
    let xs = c.args.inputs.now in
    let n = c.loop-input.input-index in
    let x = c.input-item.result in
    let a = standing c.loop-input.state (contract_tree c.loop-input.at.now) in
    let b = standing c.take_input.new.state (contract_tree c.in_ok-at.at.now) in
    let h : n < length xs = omega arith in
    let e = inputs_here i xs n x a h c.input-item.is in
    let f = follows (one_input i x a) (all_inputs i (drop (n + 1) xs)) b c.in_ok-at.ensures.answer in
    let v = c.loop-input.invariant in
    record {
      fits = v.fits ∙ (ap (λ w. all_fit w.numbers) e ∙ f.fits);
      end = v.end ∙ (ap (λ w. w.end) e ∙ f.end);
      path = v.path
          ∙ (ap (λ w. led c.loop-input.path w.turns) e
          ∙ (ap (led c.loop-input.path) f.turns
          ∙ (led_more c.loop-input.path (one_input i x a).turns (all_inputs i (drop (n + 1) xs) b).turns ∙ ap (λ p. led p (all_inputs i (drop (n + 1) xs) b).turns) (sym c.in_ok-at.ensures.path))));
    }

pub returns : goal.returns
returns c =
    let i = c.args.interval in
    let xs = c.args.inputs.now in
    let n = c.loop-input.input-index in
    let a = standing c.loop-input.state (contract_tree c.loop-input.at.now) in
    let whole = all_inputs i xs (standing c.args.state.now (contract_tree c.args.contract.now)) in
    let e = inputs_done i xs n a c.loop-input-test.false in
    let v = c.loop-input.invariant in
    record {
      answer = same_answer whole (all_inputs i (drop n xs) a) v.fits v.end ∙ ap answer_of e;
      path = sym (v.path ∙ ap (λ w. led c.loop-input.path w.turns) e);
    }
