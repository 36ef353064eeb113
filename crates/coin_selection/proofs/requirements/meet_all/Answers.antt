use Rattle.std.proofs.Common.{◌-ℤ◌, take, subst}
use Rattle.builder_spec.specs.Bundle.Totals.{total_of}
use Rattle.builder_spec.specs.Holding.{amount_in}
use Rattle.coin_selection.specs.RequiredSupport.{IsMissing}
use Rattle.coin_selection.proofs.ListLaws.{up_to}
use Rattle.coin_selection.proofs.HalvesLemmas.{bundle_at}
use Rattle.coin_selection.proofs.RequiredLemmas.{meet_more}
use Rattle.coin_selection.proofs.requirements.meet_all.Goals as goal

pub loop-output-preserved : goal.loop-output-preserved
loop-output-preserved c = λ f s.
    let us = c.args.outputs.now in
    let i = c.loop-output.output-index in
    let u = c.output-item.result in
    let more = meet_more amount_in f c.loop-output.missing c.meet_output.new.missing (take i us) u (c.loop-output.invariant f s) (bundle_at amount_in us i u c.loop-output-test.true c.output-item.is c.requires) c.meet_output.ensures in
    subst (λ vs. IsMissing (λ t. f t -ℤ total_of amount_in t vs) c.meet_output.new.missing) (up_to us i u c.loop-output-test.true c.output-item.is) more
