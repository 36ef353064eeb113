use Rattle.std.proofs.Common.{List, [], sym, subst}
use Rattle.contract.specs.declared.transaction.Transaction.{Transaction}
use Rattle.contract.specs.Tree.{contract_tree}
use Rattle.semantics.specs.Walk.{standing}
use Rattle.analysis_spec.specs.declared.path.PathStep.{PathStep}
use Rattle.analysis_spec.specs.PlacedRuns.{TellsAt, EndsFrom}
use Rattle.replay.proofs.RunLemmas.{ends_with, on_yes}
use Rattle.replay.proofs.playing.ends_at.Goals as goal

pub returns-in-Ok : goal.returns-in-Ok
returns-in-Ok c =
    let a = standing c.args.state.now (contract_tree c.args.contract.now) in
    let b = standing c.in-Ok.left.state (contract_tree c.in-Ok.left.contract.now) in
    let kind = c.args.alarm.now.kind in
    let place = c.args.alarm.now.place in
    let last = c.in-Some.last.now in
    on_yes c.tells_at.result
    (λ k.
    subst (λ (ts : List Transaction). EndsFrom kind place [] a ts) (sym c.in-Some.ensures.cases.0)
    (ends_with kind place [] 0 a b c.in-Some.before.now last c.in-Ok.ensures.answer (subst (λ (p : List PathStep). TellsAt kind place p b last) c.in-Ok.ensures.path k)))
    c.tells_at.ensures
