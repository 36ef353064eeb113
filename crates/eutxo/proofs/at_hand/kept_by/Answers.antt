use Rattle.std.proofs.Common.{ℕ, List, Option, sym, ap, ◌∙◌}
use Rattle.eutxo.specs.declared.judged.Judged.{Judged}
use Rattle.eutxo.proofs.ChecksLemmas.{same_judged}
use Rattle.eutxo.proofs.at_hand.kept_by.Goals as goal

pub returns-clause-judged : goal.returns-clause-judged
returns-clause-judged g c =
    let alike = c.equal_resolutions_decide_alike.ensures in
    let fault = c.in_ok-fault.fault in
    ap (λ (ps : List (Option ℕ)). let a : Judged = record { fault = fault; places = ps } in a) (c.copy-places.ensures ∙ c.places.ensures)
    ∙ same_judged g.V.Validator.judges _ c.args.tx.now c.args.found.now c.args.checked.now fault alike.alike alike.places c.verdict.ensures.whole c.requires (sym c.verdict.ensures.verdict ∙ c.in_ok-fault.ensures.fault)
