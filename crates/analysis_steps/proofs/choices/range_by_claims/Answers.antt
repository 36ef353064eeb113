use Rattle.std.proofs.Common.{◌∙◌}
use Rattle.analysis_steps.specs.Chosen.{is_lane}
use Rattle.analysis_steps.proofs.ChosenLemmas.{one_lane, owned_by_bounds}
use Rattle.analysis_steps.proofs.choices.range_by_claims.Goals as goal

pub returns : goal.returns
returns c = λ n p h.
    let mine = owned_by_bounds n c.args.bounds.now c.in_ok-claims.claims.items c.put_bounds.new.claims.items c.in_ok-put_bounds.ensures (c.in_ok-claims.ensures n p) h in
    let owners = rw c.deref.ensures.value at c.in_ok-found.ensures.owners in
    let within = rw c.deref-2.ensures.value at c.hull_of_claims.ensures in
    within n (owners is_lane n one_lane ∙ mine)
