use Rattle.std.proofs.Common.{pos, Some}
use Rattle.std.proofs.lemmas.Result.{IfOk-weaker}
use Rattle.linear.specs.Linear.{Linear}
use Rattle.symbols.specs.Held.{GivesAny}
use Rattle.analysis_steps.specs.Amounts.{GivesRest}
use Rattle.analysis_steps.proofs.AmountLemmas.{rest_ranged}
use Rattle.analysis_steps.proofs.amounts.ranged_rest.Goals as goal

pub returns-clause-symbols : goal.returns-clause-symbols
returns-clause-symbols c =
    let k = c.args.known.now.symbols in
    let z = c.fresh.new.self.symbols in
    let l = c.args.l.now in
    let most = c.greatest-greatest.result in
    IfOk-weaker c.fresh.result (λ e. GivesAny k z e (Some (pos 0)) most) (λ e. (part : Linear) → GivesRest k z l part e) (λ e h. rest_ranged k z l e most c.greatest-greatest.ensures h) c.fresh.ensures.symbols
