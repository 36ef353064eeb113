use Rattle.std.proofs.Common.{[], ◌∙◌, ap, sym}
use Rattle.contract.specs.declared.interval.Interval.{Interval}
use Rattle.contract.specs.Tree.{contract_tree}
use Rattle.contract.specs.States.States.{StateMaps}
use Rattle.semantics.specs.Walk.{Walk, standing, answer_of}
use Rattle.semantics.specs.Transaction.{begun}
use Rattle.analysis_spec.specs.Marks.{led, settling}
use Rattle.trace.specs.Warned.{warned_at}
use Rattle.trace.proofs.OpeningLemmas.{opened, can_reduce}
use Rattle.trace.proofs.settling.settle.Goals as goal

pub returns : goal.returns
returns c =
    let i = c.args.interval in
    let s = c.in_ok-state.state in
    let d = contract_tree c.args.contract.now in
    let j = c.in_ok-fixed.fixed in
    let t = c.fix.new.state in
    let fixed = c.in_ok-fixed.ensures in
    let q = opened i s d j t fixed.reply fixed.state in
    let h = rw c.new-trail.ensures at c.in_ok-place.ensures in
    let a = standing c.settle.new.state (contract_tree c.in_ok-place.place.now) in
    rw (← c.in_ok-state.ensures) (record {
      answer = ap answer_of q.walk ∙ h.goes.answer;
      warnings = h.warnings ∙ sym (ap (λ (w : Walk). w.warnings) q.walk);
      payments = h.payments ∙ sym (ap (λ (w : Walk). w.payments) q.walk);
      can_reduce = can_reduce i s d j t a c.is_quiet-can_reduce.result fixed.reply fixed.state c.is_quiet-can_reduce.ensures h.goes.answer;
      path = h.goes.path ∙ sym (ap (λ (w : Walk). led [] w.turns) q.walk);
      warned = h.warned ∙ sym (ap (λ (k : Interval). warned_at (settling [] k (begun i s) d)) q.interval ∙ ap (λ (u : StateMaps). warned_at (settling [] j u d)) q.state);
    })
