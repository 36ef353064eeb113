use Rattle.std.proofs.Common.{ap}
use Rattle.lines_in.specs.Held.{told}
use Rattle.serve.proofs.StreamLemmas.{text-goes-on, long-goes-on}
use Rattle.serve.proofs.stream.turn.Goals as goal

pub returns-in_ok-put_answer-in-Line-clause-going : goal.returns-in_ok-put_answer-in-Line-clause-going
returns-in_ok-put_answer-in-Line-clause-going g c = λ first begun h.
    text-goes-on g.P.Player.tells c.args.readable first begun (g.S.Source.remaining c.args.input.now) (g.K.Sink.contents c.args.output.now) (g.K.Sink.contents c.put_answer.new.output) c.args.desk.now.lines c.step.new.self c.args.desk.now.definitions c.answer_with-text.new.definitions
    c.args.desk.now.number c.args.desk.now.waiting.items c.put_answer.new.waiting.items c.step.new.self.given c.line.result.now (told c.step.result c.step.new.self.given) c.answer_with-text.result
    c.step.ensures.open c.step.ensures.lines (ap (λ s. told s c.step.new.self.given) c.in-Line.is) c.line.ensures c.answer_with-text.ensures.answer c.answer_with-text.ensures.err c.in_ok-put_answer-in-Line.ensures.adds h

pub returns-in_ok-put_answer-in-TooLong-clause-going : goal.returns-in_ok-put_answer-in-TooLong-clause-going
returns-in_ok-put_answer-in-TooLong-clause-going g c = λ first begun h.
    long-goes-on g.P.Player.tells c.args.readable first begun (g.S.Source.remaining c.args.input.now) (g.K.Sink.contents c.args.output.now) (g.K.Sink.contents c.put_answer-in-TooLong.new.output) c.args.desk.now.lines c.step.new.self c.args.desk.now.definitions
    c.args.desk.now.number c.args.desk.now.waiting.items c.put_answer-in-TooLong.new.waiting.items (told c.step.result c.step.new.self.given) c.answer_too_long-text.result
    c.step.ensures.open c.step.ensures.lines (ap (λ s. told s c.step.new.self.given) c.in-TooLong.is) c.answer_too_long-text.ensures c.in_ok-put_answer-in-TooLong.ensures.adds h
