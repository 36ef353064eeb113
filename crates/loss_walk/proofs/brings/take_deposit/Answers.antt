use Rattle.std.proofs.Common.{Bool, sym, subst}
use Rattle.contract.specs.Tree.{value_tree, deposit}
use Rattle.analysis_walk.specs.Knowledge.{actions_before}
use Rattle.loss_walk.specs.Brings.{Takes}
use Rattle.loss_walk.proofs.BringLemmas.{deposits}
use Rattle.loss_walk.proofs.brings.take_deposit.Goals as goal

pub returns-in_ok-known : goal.returns-in_ok-known
returns-in_ok-known c =
    let x = c.in_ok-known.field-0 in
    let before = actions_before c.args.earlier.now in
    subst (λ (b : Bool). Takes b c.args.known before (deposit c.args.owner.now c.args.payer.now c.args.token.now (value_tree c.args.value.now)) x.known) (sym c.if-net.false)
    (deposits c.args.known before c.args.owner.now c.args.payer.now c.args.token.now (value_tree c.args.value.now) x c.in_ok-known.ensures)
