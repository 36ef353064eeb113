use Rattle.std.proofs.Common.{IfOk, subst}
use Rattle.refusal_reasons.specs.Reasons.{TellsText}
use Rattle.refusal_reasons.proofs.looks.value_told.Goals as goal

pub returns : goal.returns
returns g c =
    subst (λ s. IfOk c.explained_value.result (λ written. TellsText c.args.how c.args.source.path.now c.args.source.text.now s written.items)) c.sort-sort.ensures c.explained_value.ensures
