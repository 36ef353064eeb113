use Rattle.std.specs.Prelude.{map, None, option_map}
use Rattle.marlowe_next.specs.Question.{reached}
use Rattle.marlowe_next.proofs.AnswerLemmas.{texts_so, answers_so}
use Rattle.marlowe_next.proofs.answer.next.Goals as goal

pub returns : goal.returns
returns c =
    let led = reached c.args.asked c.args.contract.now (option_map (λ text. text.now) c.args.state) (map (λ text. text.items) c.args.after.now) in
    record { text = texts_so None c.args.asked led c.from_contract.result c.from_contract.ensures; answer = answers_so None c.args.asked led c.from_contract.result c.from_contract.ensures }
