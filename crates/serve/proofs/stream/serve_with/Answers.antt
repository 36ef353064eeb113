use Rattle.serve.proofs.StreamLemmas.{ends, is-true, stops}
use Rattle.serve.proofs.stream.serve_with.Goals as goal

pub returns-in-Ok-true-clause-whole : goal.returns-in-Ok-true-clause-whole
returns-in-Ok-true-clause-whole g c = λ _.
    let first = g.S.Source.remaining c.args.input.now in
    let begun = g.K.Sink.contents c.args.output.now in
    let over = c.turn.ensures.ended (is-true c.turn.result c.in-Ok-true.field-0 c.in-Ok-true.is c.in-Ok-true.field-0-test) in
    ends g.P.Player.tells c.args.readable first begun (g.S.Source.remaining c.turn.new.input) (g.K.Sink.contents c.turn.new.output) c.turn.new.desk.lines c.turn.new.desk.definitions c.turn.new.desk.number c.turn.new.desk.waiting.items
    (c.in-Ok-true.ensures.going first begun c.loop-step.invariant.going) over.0 over.1 over.2

pub returns-in-Ok-write-clause-front : goal.returns-in-Ok-write-clause-front
returns-in-Ok-write-clause-front g c = λ _.
    stops g.P.Player.tells c.args.readable (g.S.Source.remaining c.args.input.now) (g.K.Sink.contents c.args.output.now) (g.S.Source.remaining c.loop-step.input) (g.K.Sink.contents c.loop-step.output) (g.K.Sink.contents c.write.new.output) c.loop-step.desk.lines c.loop-step.desk.definitions c.loop-step.desk.number c.loop-step.desk.waiting.items
    c.loop-step.invariant.going c.in-Ok-write.ensures.whole
