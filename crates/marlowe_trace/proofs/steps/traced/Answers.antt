use Rattle.std.proofs.Common.{◌≡◌, ℕ, ◌+◌, ◌==◌, ◌||◌, not, cond, Bool, List, [], ◌++◌, length, drop, sym, ap, ◌∙◌}
use Rattle.contract.specs.Tree.{contract_tree}
use Rattle.marlowe_run.specs.Semantics.Walk.{standing}
use Rattle.analysis_spec.specs.Runs.{walk_from}
use Rattle.trace.specs.Traces.{walks}
use Rattle.marlowe_trace.specs.Traced.{line_of, lines_of}
use Rattle.marlowe_trace.proofs.StepLemmas.{lines_here, left_here, states_here}
use Rattle.marlowe_trace.proofs.steps.traced.Goals as goal

pub loop-index-preserved : goal.loop-index-preserved
loop-index-preserved c =
    let last = c.args.last in
    let n = c.loop-index.index in
    let ts = c.args.transactions.now in
    let t = c.index-transactions-index.result in
    let a = standing c.loop-index.place.state (contract_tree c.loop-index.place.contract.now) in
    let b = standing c.in-Ok.next.state (contract_tree c.in-Ok.next.contract.now) in
    let text = c.loop-index.text.items in
    let told : c.step.new.text.items ≡ text ++ cond (not last || (n + 1 == length ts)) (line_of (walk_from a t)) [] =
    c.in-Ok.ensures.text ∙ ap (λ (p : Bool). text ++ cond p (line_of (walk_from a t)) []) c.is_printed-is_printed.ensures in
    record {
      fits = c.in-Ok.ensures.fits;
      refused = c.loop-index.invariant.refused ∙ left_here n ts a b t c.loop-index-test.true c.index-transactions-index.is c.in-Ok.ensures.answer;
      lines = c.loop-index.invariant.lines
          ∙ (lines_here last n ts a b t text c.loop-index-test.true c.index-transactions-index.is c.in-Ok.ensures.answer ∙ ap (λ (z : List ℕ). z ++ lines_of last (walks b (drop (n + 1) ts))) (sym told));
      states = λ h. c.loop-index.invariant.states (states_here n ts a t c.loop-index-test.true c.index-transactions-index.is b c.in-Ok.ensures.answer c.in-Ok.ensures.returns h);
    }
