use Rattle.std.proofs.Common.{◌≡◌, true, false, [], ◌∷◌, refl, sym, ◌∙◌, ap, subst}
use Rattle.builder_spec.specs.Bundle.Bundles.{covers}
use Rattle.builder_spec.specs.Holding.{sums, amount_in}
use Rattle.builder_spec.specs.Causes.{is_much}
use Rattle.builder_spec.specs.Starts.{start_output}
use Rattle.builder_spec.proofs.FundsLaws.{amount}
use Rattle.builder.specs.FundsSupport.{Funds}
use Rattle.builder.proofs.CoveredLemmas.{start_room, start_covers}
use Rattle.builder.proofs.start.start_outputs.Goals as goal

pub start_output-requires-clause-room : goal.start_output-requires-clause-room
start_output-requires-clause-room c =
    let funds = c.requires.funds in
    let us = c.args.funds.front in
    let all : c.funds.inside.all ≡ sums amount_in us = ap (λ (f : Funds). f.all) c.funds.view_is ∙ funds.all ∙ ap (sums amount_in) (sym funds.front) in
    start_room c.args.asked.now.state us funds.bundles funds.covered (subst (λ m. is_much m ≡ false) all c.see_room.ensures)

pub with_change-requires : goal.with_change-requires
with_change-requires c =
    let funds = c.requires.funds in
    let us = c.args.funds.front in
    let all : c.funds.inside.all ≡ sums amount_in us = ap (λ (f : Funds). f.all) c.funds.view_is ∙ funds.all ∙ ap (sums amount_in) (sym funds.front) in
    subst (λ m. covers m (sums amount c.in_ok-outputs.outputs) ≡ true) (sym all) (subst (λ os. covers (sums amount_in us) (sums amount os) ≡ true) (sym c.in_ok-outputs.ensures)
    (start_covers c.args.asked.now.state us (start_output c.args.asked.now) refl funds.bundles funds.covered))
