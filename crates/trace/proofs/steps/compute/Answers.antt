use Rattle.std.proofs.Common.{◌≡◌, false, ◌&&◌, ◌==◌, length}
use Rattle.std.proofs.lemmas.Result.{err_from_is_err_and}
use Rattle.contract.specs.Tree.{contract_tree}
use Rattle.semantics.specs.Walk.{standing}
use Rattle.semantics.specs.Computed.{settled, all_inputs}
use Rattle.semantics.specs.Reduced.{is_quiet}
use Rattle.semantics.proofs.Computing.{computed_refused, computed_useless, computed_fails, computed_busy, not_left, not_right}
use Rattle.trace.proofs.SteppingLemmas.{goes_then}
use Rattle.trace.proofs.steps.compute.Goals as goal
use Rattle.trace.proofs.steps.compute.Goals.{After-take_inputs, else-is_empty-via-then-is_empty+else-is_quiet, else-is_empty-via-else-is_empty}

pub returns-in_err-fixed : goal.returns-in_err-fixed
returns-in_err-fixed c =
    let p = err_from_is_err_and c.from_residual.result c.from_residual.ensures.1 in
    rw (p.1, p.2) (computed_refused c.args.interval c.args.state.now (contract_tree c.args.contract.now) c.args.inputs.now _ c.in_err-fixed.ensures.reply)

pub returns-then-is_quiet : goal.returns-then-is_quiet
returns-then-is_quiet c =
    computed_useless c.args.interval c.args.state.now c.in_ok-fixed.fixed c.fix.new.state (contract_tree c.args.contract.now) c.args.inputs.now
    c.in_ok-fixed.ensures.reply c.in_ok-fixed.ensures.state c.if-is_empty.ensures c.if-is_quiet.ensures

pub returns-in_err-at : goal.returns-in_err-at
returns-in_err-at c =
    let p = err_from_is_err_and c.from_residual-in_err-at.result c.from_residual-in_err-at.ensures.1 in
    rw (p.1, p.2) (computed_fails c.args.interval c.args.state.now c.in_ok-fixed.fixed c.fix.new.state (contract_tree c.args.contract.now) c.args.inputs.now _
    c.in_ok-fixed.ensures.reply c.in_ok-fixed.ensures.state c.in_err-at.ensures)

something : (c : After-take_inputs) → (length c.args.inputs.now == 0) && is_quiet c.in_ok-fixed.fixed c.fix.new.state (contract_tree c.args.contract.now) ≡ false
something c = elim c.else-is_empty.branch [ else-is_empty-via-then-is_empty+else-is_quiet w ↦ not_right _ _ w.if-is_quiet.ensures | else-is_empty-via-else-is_empty w ↦ not_left _ _ w.if-is_empty.ensures ]

pub returns : goal.returns
returns c =
    let j = c.in_ok-fixed.fixed in
    let d = contract_tree c.args.contract.now in
    let w = settled j c.fix.new.state d in
    let a = standing c.settle.new.state (contract_tree c.in_ok-at.at.now) in
    let h = c.in_ok-at.ensures in
    goes_then (λ e. contract_tree e.now) c.args.path.now c.settle.new.path c.take_inputs.new.path c.settle.new.state c.take_inputs.new.state _ w (all_inputs j c.args.inputs.now a) c.in_ok-at.at w.warnings w.payments c.take_inputs.result
    (computed_busy c.args.interval c.args.state.now j c.fix.new.state d c.args.inputs.now a c.in_ok-fixed.ensures.reply c.in_ok-fixed.ensures.state (something c) h.answer) h c.take_inputs.ensures
