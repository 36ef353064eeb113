use Rattle.contract.specs.Tree.{value_tree}
use Rattle.analysis_walk.specs.Knowledge.{actions_before}
use Rattle.loss_walk.proofs.BringLemmas.{brings_none, brings_some}
use Rattle.loss_walk.proofs.CoverLemmas.{none_known}
use Rattle.loss_walk.proofs.brings.bring.Goals as goal

pub returns-in_default : goal.returns-in_default
returns-in_default c =
    brings_none c.args.known c.put_held.new.known (actions_before c.args.earlier.now) c.args.owner.now c.args.payer.now c.args.token.now (value_tree c.args.value.now) c.in_ok-known.field-0 c.in_ok-put_held.ensures c.in_ok-known.ensures
    (none_known c.in_ok-known.field-0.known c.in_default.not-Some)

pub returns : goal.returns
returns c =
    brings_some c.args.known c.put_held.new.known c.in-Some.there c.take_held.new.known (actions_before c.args.earlier.now) c.args.owner.now c.args.payer.now c.args.token.now (value_tree c.args.value.now) c.in_ok-known.field-0
    c.in_ok-put_held.ensures c.in_ok-known.ensures c.in-Some.is c.in_ok-take_held.ensures
