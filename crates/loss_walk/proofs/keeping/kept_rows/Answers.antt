use Rattle.std.proofs.Common.{ap, ◌∙◌, rules, w64, SFits}
use Rattle.std.proofs.lemmas.Int.{to_z-of_z}
use Rattle.contract.specs.Tree.{contract_tree}
use Rattle.loss_walk.specs.Cuts.{quiet_from}
use Rattle.loss_walk.specs.Nets.{while_keeping_up}
use Rattle.loss_walk.proofs.CoverLemmas.{rows_hold}
use Rattle.loss_walk.proofs.keeping.kept_rows.Goals as goal

pub returns : goal.returns
returns c =
    let fits : SFits w64 c.min_time.result = search rules in
    rows_hold c.args.net c.args.party.now c.args.asked.now c.in_ok-known.known c.args.state.now (contract_tree c.args.contract.now) _ c.from.result c.in_ok-rows.rows c.walk.new.rows (λ i. while_keeping_up (c.in_ok-try_clone.ensures i) c.args.net (c.in_ok-try_clone-2.ensures i))
    c.in_ok-known.ensures (c.from.ensures ∙ ap quiet_from (to_z-of_z w64 c.min_time.result fits ∙ c.min_time.ensures)) c.in_ok-walk.ensures c.nets_bound_kept.ensures
