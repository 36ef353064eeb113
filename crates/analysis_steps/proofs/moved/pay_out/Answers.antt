use Rattle.std.proofs.lemmas.Result.{on_ok_weaker}
use Rattle.analysis_steps.proofs.MovedLemmas.{pays_out_by}
use Rattle.analysis_steps.proofs.moved.pay_out.Goals as goal

pub returns : goal.returns
returns c =
    on_ok_weaker c.replace_paid.result (λ h. pays_out_by c.args.known.now c.sum.new.known c.replace_paid.new.self c.args.party.now c.args.token.now c.args.amount.now c.in_ok-before.before c.in_ok-total.total
    c.in_ok-before.ensures c.in_ok-total.ensures.symbols c.sum.ensures.view h) c.replace_paid.ensures
