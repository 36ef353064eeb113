use Rattle.std.specs.Prelude.{None}
use Rattle.contract.specs.Tree.{contract_tree}
use Rattle.marlowe_next.specs.Question.{reached_by}
use Rattle.marlowe_next.proofs.AnswerLemmas.{texts_so, answers_so}
use Rattle.marlowe_next.proofs.answer.next_after.Goals as goal

pub returns : goal.returns
returns c =
    let led = reached_by (contract_tree c.args.whole.now) c.args.start.now c.args.transactions.now in
    record { text = texts_so None c.args.asked led c.from_transactions.result c.from_transactions.ensures; answer = answers_so None c.args.asked led c.from_transactions.result c.from_transactions.ensures }
