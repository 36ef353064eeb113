use Rattle.std.proofs.Common.{◌≡◌, ◌≤◌, false}
use Rattle.serve.specs.StreamsSupport.{Going}
use Rattle.serve.proofs.stream.serve_with.Given as goal

-- the lines so far are answered
abbrev pub invariant-loop-step : goal.invariant-loop-step
invariant-loop-step g l = record {
  reads : g.S.Source.has_failed l.input ≡ false;
  writes : g.K.Sink.has_failed l.output ≡ false;
  few : l.desk.number ≤ l.step;
  going : Going g.P.Player.tells l.readable (g.S.Source.remaining l.fn.input) (g.K.Sink.contents l.fn.output) (g.S.Source.remaining l.input) (g.K.Sink.contents l.output) l.desk.lines l.desk.definitions l.desk.number l.desk.waiting.items;
}
