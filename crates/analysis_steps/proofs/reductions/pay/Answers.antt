use Rattle.std.proofs.Common.{◌++◌, ap, ◌∙◌}
use Rattle.contract.specs.Tree.{value_tree}
use Rattle.analysis_spec.specs.declared.kind.AlarmKind.TheVariants.{NonPositivePay, PartialPay, Leaves128}
use Rattle.analysis_values.specs.Answered.{unless}
use Rattle.analysis_steps.proofs.ConcludedLemmas.{pay_so, three_put}
use Rattle.analysis_steps.proofs.reductions.pay.Goals as goal

pub returns : goal.returns
returns c =
    let above = c.in_ok-above.above in
    let covered = c.in_ok-covered.covered in
    let kinds = unless above NonPositivePay ++ unless covered PartialPay in
    pay_so c.args.known c.evaluate.new.known c.transfer.new.known c.args.from.now c.args.to.now c.args.token.now (value_tree c.args.value.now) c.in_ok-due.due.number c.in_ok-balance.balance above covered
    c.in_ok-due.due.fits c.in_ok-sum.sum c.put_unless-3.new.kinds c.in_ok-due.ensures.number c.in_ok-due.ensures.fits c.in_ok-above.ensures c.in_ok-covered.ensures c.in_ok-balance.ensures c.in_ok-sum.ensures
    (three_put c.new-kinds.result c.put_unless.new.kinds c.put_unless-2.new.kinds c.put_unless-3.new.kinds (unless above NonPositivePay) (unless covered PartialPay) (unless c.both-fits.result Leaves128) c.new-kinds.ensures
    c.in_ok-put_unless.ensures c.in_ok-put_unless-2.ensures c.in_ok-put_unless-3.ensures
    ∙ ap (λ b. kinds ++ unless b Leaves128) c.both-fits.ensures)
