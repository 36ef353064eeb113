use Rattle.std.proofs.lemmas.Result.{IfOk-weaker}
use Rattle.explain_transactions.proofs.ToldLemmas.{settles_on}
use Rattle.explain_transactions.proofs.inputs.take_and_settle.Goals as goal

pub returns-in-None : goal.returns-in-None
returns-in-None c =
    IfOk-weaker c.settle.result _ _ (settles_on c.args.interval c.args.input.now c.args.left.now c.take_input.new.left c.settle.new.left (rw c.in-None.is at c.in_ok-stop.ensures)) c.settle.ensures
