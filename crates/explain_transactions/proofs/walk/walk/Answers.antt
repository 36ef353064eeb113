use Rattle.std.proofs.Common.{refl, sym, subst, Some}
use Rattle.contract.specs.Tree.{contract_tree}
use Rattle.explain_transactions.specs.declared.explanation.Explanation.{Explanation}
use Rattle.explain_transactions.specs.Support.{here, Tells}
use Rattle.explain_transactions.proofs.ToldLemmas.{tells_first, tells_input, tells_all, one_more}
use Rattle.explain_transactions.proofs.walk.walk.Goals as goal

pub returns-in-Some : goal.returns-in-Some
returns-in-Some c =
    let j = c.args.interval in
    let old = c.args.left in
    let d = contract_tree c.args.left.contract.now in
    let xs = c.args.inputs.now in
    subst (λ (e : Explanation). Tells j old.state d xs (Some e)) (sym c.told.ensures)
    (tells_first j old.state d xs old c.settle.new.left c.in-Some.stop refl c.requires (rw c.in-Some.is at c.in_ok-stop.ensures))

pub returns-in-Some-2 : goal.returns-in-Some-2
returns-in-Some-2 c =
    let j = c.args.interval in
    let s = c.args.left.state in
    let d = contract_tree c.args.left.contract.now in
    let xs = c.args.inputs.now in
    let v = c.loop-index.invariant in
    subst (λ (e : Explanation). Tells j s d xs (Some e)) (sym c.told-in-Some-2.ensures)
    (tells_input j s d xs c.loop-index.index c.index-inputs-index.result c.loop-index.left c.take_and_settle.new.left c.in-Some-2.stop c.loop-index-test.true c.index-inputs-index.is v.comes v.quiet
    (rw c.in-Some-2.is at c.in_ok-stop-2.ensures))

pub loop-index-preserved : goal.loop-index-preserved
loop-index-preserved c =
    let v = c.loop-index.invariant in
    let k = rw c.in_default-2.is at c.in_ok-stop-2.ensures in
    record {
      comes = one_more c.args.interval (here c.args.left) c.args.inputs.now c.loop-index.index c.index-inputs-index.result c.loop-index.left c.take_and_settle.new.left c.loop-index-test.true c.index-inputs-index.is v.comes k.0;
      quiet = k.1;
    }

pub returns : goal.returns
returns c =
    let v = c.loop-index.invariant in
    tells_all c.args.interval c.args.left.state (contract_tree c.args.left.contract.now) c.args.inputs.now c.loop-index.index c.loop-index.left.path (here c.loop-index.left) c.loop-index-test.false v.comes v.quiet
