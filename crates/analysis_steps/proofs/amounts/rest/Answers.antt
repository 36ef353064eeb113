use Rattle.std.proofs.lemmas.Result.{IfOk-weaker}
use Rattle.linear.specs.Linear.{Linear}
use Rattle.analysis_steps.specs.Amounts.{GivesRest}
use Rattle.analysis_steps.proofs.AmountLemmas.{rest_here}
use Rattle.analysis_steps.proofs.amounts.rest.Goals as goal

pub returns-in-Some-clause-symbols : goal.returns-in-Some-clause-symbols
returns-in-Some-clause-symbols c = rest_here c.args.known.now.symbols c.args.l.now c.args.m.now c.in-Some.e (rw c.in-Some.is at c.in_ok-rest.ensures)

pub returns-in-None-clause-symbols : goal.returns-in-None-clause-symbols
returns-in-None-clause-symbols c =
    let k = c.args.known.now.symbols in
    let z = c.ranged_rest.new.known.symbols in
    let l = c.args.l.now in
    let m = c.args.m.now in
    IfOk-weaker c.ranged_rest.result (λ e. (part : Linear) → GivesRest k z l part e) (λ e. GivesRest k z l m e) (λ e h. h m) c.ranged_rest.ensures.symbols
