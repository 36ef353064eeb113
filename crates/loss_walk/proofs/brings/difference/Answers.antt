use Rattle.std.proofs.lemmas.Result.{IfOk-weaker}
use Rattle.std.proofs.Common.{None}
use Rattle.symbols.specs.Held.{GivesAny}
use Rattle.loss_walk.specs.Brings.{GivesDifference}
use Rattle.loss_walk.proofs.BringLemmas.{difference_any, difference_here}
use Rattle.loss_walk.proofs.brings.difference.Goals as goal

pub returns-in-Some-clause-symbols : goal.returns-in-Some-clause-symbols
returns-in-Some-clause-symbols c = difference_here c.args.known.now.symbols c.args.l.now c.args.m.now c.in-Some.e (rw c.in-Some.is at c.in_ok-difference.ensures)

pub returns-in-None-clause-symbols : goal.returns-in-None-clause-symbols
returns-in-None-clause-symbols c =
    let k = c.args.known.now.symbols in
    let z = c.fresh.new.self.symbols in
    IfOk-weaker c.fresh.result (λ e. GivesAny k z e None None) (λ e. GivesDifference k z c.args.l.now c.args.m.now e) (λ e h. difference_any k z c.args.l.now c.args.m.now e h) c.fresh.ensures.symbols
