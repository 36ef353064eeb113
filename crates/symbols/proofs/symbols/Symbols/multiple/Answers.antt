use Rattle.std.proofs.Common.{None}
use Rattle.std.specs.Int.{w128}
use Rattle.std.proofs.lemmas.Int.{to_z-of_z}
use Rattle.symbols.specs.Held.{GivesAny}
use Rattle.symbols.specs.Results.{GivesMultiple}
use Rattle.std.proofs.lemmas.Result.{IfOk-weaker}
use Rattle.symbols.proofs.ResultLemmas.{multiple_times, multiple_unknown}
use Rattle.symbols.proofs.symbols.Symbols.multiple.Goals as goal

pub returns-in-Some : goal.returns-in-Some
returns-in-Some c =
    let s = rw (c.in-Some.is, to_z-of_z w128 c.args.factor c.ranges.factor) at c.in_ok-times.ensures in
    multiple_times c.args.self.now c.args.expression.now c.in-Some.e c.args.factor s

pub returns-in-None : goal.returns-in-None
returns-in-None c =
    IfOk-weaker c.unknown.result (λ e. GivesAny c.args.self.now c.unknown.new.self e None None) (λ e. GivesMultiple c.args.factor c.args.self.now c.unknown.new.self c.args.expression.now e)
    (λ e h. multiple_unknown c.args.self.now c.unknown.new.self c.args.expression.now e c.args.factor h) c.unknown.ensures.any
