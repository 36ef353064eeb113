use Rattle.std.proofs.lemmas.Result.{IfOk-weaker}
use Rattle.symbols.specs.Held.{Assumes}
use Rattle.analysis_steps.specs.Times.{AssumesMost}
use Rattle.analysis_steps.proofs.TimeLemmas.{assumes_most_by, assumes_most_none}
use Rattle.analysis_steps.proofs.times.assume_most.Goals as goal

pub returns-in-Some-clause-symbols : goal.returns-in-Some-clause-symbols
returns-in-Some-clause-symbols c =
    let k = c.args.known.now.symbols in
    let m = c.assume.new.self.symbols in
    let l = c.args.l.now in
    let n = c.args.m.now in
    let s = rw c.in-Some.is at c.in_ok-difference.ensures in
    IfOk-weaker c.assume.result (Assumes k m c.in-Some.d) (AssumesMost k m l n) (λ possible h. assumes_most_by k m l n c.in-Some.d possible s h) c.assume.ensures.symbols

pub returns-in-None-clause-symbols : goal.returns-in-None-clause-symbols
returns-in-None-clause-symbols c = assumes_most_none c.args.known.now.symbols c.args.l.now c.args.m.now
