use Rattle.std.proofs.Common.{◌≡◌, ◌∙◌, ap, subst, sym}
use Rattle.std.proofs.Math.ListN.{get_or}
use Rattle.std.proofs.lemmas.List.{get_or_default}
use Rattle.table.specs.Flat.{IsFlat, Flat, observation_entry}
use Rattle.table.proofs.Lent.{lent_observation}
use Rattle.table.proofs.table.Table.observation_node.Goals as goal

pub returns : goal.returns
returns c =
    let w = subst (λ (f : Flat). IsFlat f) c.self.view_is c.self.invariant in
    let e : observation_entry c.args.self.now c.args.number ≡ c.index.result.now =
    sym (c.index.ensures ∙ (ap (λ (x : Flat). get_or x.observations c.args.number c.index.result.now) c.self.view_is ∙ get_or_default c.args.self.now.observations c.args.number _ _ c.requires)) in
    let l = lent_observation c.args.self.now c.args.number _ w c.requires e in
    record { entry = sym e; tree = l.tree; stand = l.stand; height = l.height; low = l.low }
