use Rattle.std.specs.Prelude.{Some, Ok}
use Rattle.marlowe_next.specs.Question.{reached_at}
use Rattle.marlowe_next.proofs.AnswerLemmas.{texts_so, answers_so}
use Rattle.marlowe_next.proofs.answer.next_there.Goals as goal

pub returns : goal.returns
returns c =
    let led = Ok (reached_at c.args.whole.now c.args.left.now) in
    record { text = texts_so (Some c.args.most) c.args.asked led c.from_left.result c.from_left.ensures; answer = answers_so (Some c.args.most) c.args.asked led c.from_left.result c.from_left.ensures }
