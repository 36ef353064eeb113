use Rattle.std.proofs.Common.{◌≡◌, ◌∙◌, ap, subst, sym}
use Rattle.std.proofs.Math.ListN.{get_or}
use Rattle.std.proofs.lemmas.List.{get_or_default}
use Rattle.table.specs.Flat.{IsFlat, Flat, cont_entry}
use Rattle.table.proofs.Lent.{lent_cont}
use Rattle.table.proofs.table.Table.cont_node.Goals as goal

pub returns : goal.returns
returns c =
    let w = subst (λ (f : Flat). IsFlat f) c.self.view_is c.self.invariant in
    let e : cont_entry c.args.self.now c.args.cont.0 ≡ c.index.result.now =
    sym (c.index.ensures ∙ (ap (λ (x : Flat). get_or x.conts c.args.cont.0 c.index.result.now) c.self.view_is ∙ get_or_default c.args.self.now.conts c.args.cont.0 _ _ c.requires)) in
    let l = lent_cont c.args.self.now c.args.cont.0 _ w c.requires e in
    record { entry = sym e; tree = l.tree; stand = l.stand; height = l.height; low = l.low }
