use Rattle.std.proofs.lemmas.Result.{err_from_is_err_and}
use Rattle.contract.specs.Tree.{contract_tree}
use Rattle.semantics.specs.Walk.{Standing, standing, Walk}
use Rattle.semantics.specs.Computed.{settled, applied, one_input}
use Rattle.semantics.proofs.Walks.{follows, fails_first}
use Rattle.trace.proofs.SteppingLemmas.{goes_then}
use Rattle.trace.proofs.steps.take_input.Goals as goal

pub returns-in_err-then : goal.returns-in_err-then
unfolding one_input
returns-in_err-then c =
    let p = err_from_is_err_and c.from_residual.result c.from_residual.ensures.1 in
    rw (p.1, p.2) (fails_first (applied c.args.interval c.args.input.now (standing c.args.state.now (contract_tree c.args.contract.now))) (λ b. settled c.args.interval b.state b.contract) _ c.in_err-then.ensures)

pub returns : goal.returns
unfolding one_input
returns c =
    let i = c.args.interval in
    let w = applied i c.args.input.now (standing c.args.state.now (contract_tree c.args.contract.now)) in
    let f : Standing → Walk = λ b. settled i b.state b.contract in
    let a = standing c.apply_once.new.state (contract_tree c.in_ok-then.then.now) in
    let h = c.in_ok-then.ensures in
    goes_then (λ d. contract_tree d.now) c.args.path.now c.apply_once.new.path c.settle.new.path c.apply_once.new.state c.settle.new.state _ w (f a) c.in_ok-then.then w.warnings w.payments c.settle.result (follows w f a h.answer) h c.settle.ensures
