use Rattle.std.proofs.lemmas.Result.{on_ok_weaker}
use Rattle.analysis_steps.proofs.MovedLemmas.{debits_by}
use Rattle.analysis_steps.proofs.moved.debit.Goals as goal

pub returns : goal.returns
returns c =
    on_ok_weaker c.replace_account.result (λ h. debits_by c.args.known.now c.rest.new.known c.replace_account.new.self c.args.owner.now c.args.token.now c.args.amount.now c.in_ok-before.before c.in_ok-left.left
    c.in_ok-before.ensures c.in_ok-left.ensures.symbols c.rest.ensures.view h) c.replace_account.ensures
