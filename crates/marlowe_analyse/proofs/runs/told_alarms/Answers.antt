use Rattle.std.proofs.Common.{List, length, sym, subst, arith}
use Rattle.contract.specs.Tree.{contract_tree}
use Rattle.marlowe_analyse.specs.declared.order.Standing.{Standing}
use Rattle.marlowe_analyse.specs.OrderSupport.{StandForAll}
use Rattle.marlowe_analyse.proofs.RunsLemmas.{all_told}
use Rattle.marlowe_analyse.proofs.runs.told_alarms.Goals as goal

pub returns : goal.returns
returns c =
    let ss = c.deref.result.now in
    let stand = subst (λ (zs : List Standing). StandForAll c.args.alarms.now zs) (sym c.deref.ensures.value) c.in_ok-standings.ensures.all in
    all_told c.args.state.now (contract_tree c.args.contract.now) ss c.args.alarms.now c.in_ok-told.told.items (length ss) (omega arith) stand c.in_ok-told.ensures
