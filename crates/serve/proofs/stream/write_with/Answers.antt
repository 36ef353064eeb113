use Rattle.serve.proofs.StreamLemmas.{goes-out}
use Rattle.serve.proofs.stream.write_with.Goals as goal

pub returns-clause-adds : goal.returns-clause-adds
returns-clause-adds g c =
    goes-out (g.K.Sink.contents c.args.output.now) (g.K.Sink.contents c.write.new.output) (g.K.Sink.contents c.emit.new.to) c.args.waiting.now.items c.write.new.waiting.items c.args.text.now
    c.in_ok-write.ensures.whole c.in_ok-write.ensures.none c.in_ok-emit.ensures.whole
