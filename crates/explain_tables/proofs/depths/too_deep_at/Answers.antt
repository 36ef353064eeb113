use Rattle.std.proofs.Common.{ap, ◌∙◌, arith}
use Rattle.contract.specs.Tree.{contract_tree}
use Rattle.trace.specs.Paths.{part_along}
use Rattle.explain_tables.specs.Depths.{levels_of}
use Rattle.explain_tables.proofs.DepthLemmas.{levels_more, along_more, too_deep_below}
use Rattle.explain_tables.proofs.depths.too_deep_at.Goals as goal

pub returns-then-down-room : goal.returns-then-down-room
returns-then-down-room c =
    let v = c.way.invariant in
    let h = c.in-Some.ensures in
    rw c.in_ok-push.ensures.added
    (too_deep_below (contract_tree c.args.contract.now) (contract_tree c.way.at.now) (contract_tree c.in-Some.high.part.now) c.way.path c.in-Some.high.step c.way.room v.stands v.levels h.0 h.1
    (omega (arith, c.if-down-room.true, c.levels-down.ensures.levels)))

pub way-preserved : goal.way-preserved
way-preserved c =
    let root = contract_tree c.args.contract.now in
    let v = c.way.invariant in
    let h = c.in-Some.ensures in
    let e = c.in_ok-push.ensures.added in
    let m = ap levels_of e in
    let q = levels_more c.way.path c.in-Some.high.step in
    record {
      stands = ap (part_along root) e ∙ along_more root (contract_tree c.way.at.now) (contract_tree c.in-Some.high.part.now) c.way.path c.in-Some.high.step v.stands h.0;
      levels = omega (arith, m, q, v.levels, c.levels-down.ensures.levels, c.if-down-room.false);
      high = omega (arith, h.1, c.levels-down.ensures.levels, c.if-down-room.false);
    }
