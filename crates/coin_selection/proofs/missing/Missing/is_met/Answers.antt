use Rattle.coin_selection.proofs.MissingLemmas.{nothing}
use Rattle.coin_selection.proofs.missing.Missing.is_met.Goals as goal

pub returns : goal.returns
returns c =
    let k = nothing c.self.inside.left.entries c.args.self.now c.self.view_is in
    (λ h. k.0 (c.is_empty.ensures.0 h), λ h. c.is_empty.ensures.1 (k.1 h))
