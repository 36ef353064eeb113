use Rattle.std.proofs.lemmas.Result.{IfOk-weaker}
use Rattle.symbols.specs.Held.{GivesAny}
use Rattle.analysis_steps.specs.Amounts.{GivesSum}
use Rattle.analysis_steps.proofs.AmountLemmas.{sum_ranged}
use Rattle.analysis_steps.proofs.amounts.ranged_sum.Goals as goal

pub returns-clause-symbols : goal.returns-clause-symbols
returns-clause-symbols c =
    let k = c.args.known.now.symbols in
    let z = c.fresh.new.self.symbols in
    let l = c.args.l.now in
    let m = c.args.m.now in
    let low = c.sum_of_bounds-least.result in
    let high = c.sum_of_bounds-greatest.result in
    IfOk-weaker c.fresh.result (λ e. GivesAny k z e low high) (λ e. GivesSum k z l m e)
    (λ e h. sum_ranged k z l m e c.least.result c.least-2.result c.greatest.result c.greatest-2.result low high c.least.ensures c.least-2.ensures c.greatest.ensures c.greatest-2.ensures c.sum_of_bounds-least.ensures.least
    c.sum_of_bounds-greatest.ensures.greatest h)
    c.fresh.ensures.symbols
