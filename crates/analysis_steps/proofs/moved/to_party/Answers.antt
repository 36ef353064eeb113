use Rattle.std.proofs.lemmas.Result.{on_ok_weaker}
use Rattle.analysis_steps.proofs.MovedLemmas.{moves_to_party}
use Rattle.analysis_steps.proofs.moved.to_party.Goals as goal

pub returns : goal.returns
returns c =
    on_ok_weaker c.pay_out.result (λ h. moves_to_party c.args.known.now c.debit.new.known c.pay_out.new.known c.args.from.now c.args.party.now c.args.token.now c.args.amount.now c.in_ok-debit.ensures h) c.pay_out.ensures
