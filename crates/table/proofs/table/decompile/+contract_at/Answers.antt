use Rattle.std.proofs.Common.{◌∙◌, sym, ap, map, rules}
use mir.Val.{SFits}
use Rattle.std.specs.Int.{w64}
use Rattle.std.proofs.lemmas.Int.{to_z-of_z}
use Rattle.contract.specs.Tree as trees
use Rattle.table.specs.Flat as flat
use Rattle.table.proofs.table.decompile.«+contract_at».Goals as goal

pub contract_at-returns-in_ok-then-in-When : goal.contract_at-returns-in_ok-then-in-When
contract_at-returns-in_ok-then-in-When t c =
    let f = c.args.table.now in
    let e = rw c.in-When.is at c.cont_node.ensures.tree in
    let q = c.in_ok-cases-in-When.ensures ∙ ap (map (flat.case_tree f)) c.as_slice.ensures in
    let h = c.in_ok-then-in-When.ensures in
    let fits : SFits w64 c.in-When.timeout = search rules in
    (rw (to_z-of_z w64 c.in-When.timeout fits) at c.when.ensures) ∙ ((λ i. trees.when (trees.case_trees (q i)) c.in-When.timeout (h i)) ∙ sym e)
