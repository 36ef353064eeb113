use Rattle.std.proofs.Common.{sym, ◌∙◌}
use Rattle.contract.specs.Tree.{contract_tree}
use Rattle.alike_alarms.proofs.PartLemmas.{goes_on, leaves, arrives}
use Rattle.alike_alarms.proofs.parts.part_at.Goals as goal

pub loop-step-preserved : goal.loop-step-preserved
loop-step-preserved c =
    goes_on c.args.place.now (contract_tree c.args.contract.now) c.loop-step.step-index _ (contract_tree c.loop-step.at.now) c.loop-step-test.true c.loop-step.invariant (contract_tree c.in-Some.part.now) (sym c.in-Some.ensures)

pub returns-in-None : goal.returns-in-None
returns-in-None c =
    c.case_of.ensures ∙ leaves c.args.place.now (contract_tree c.args.contract.now) c.loop-step.step-index _ (contract_tree c.loop-step.at.now) c.loop-step-test.true c.loop-step.invariant (sym c.in-None.ensures)

pub returns : goal.returns
returns c = arrives c.args.place.now (contract_tree c.args.contract.now) c.loop-step.step-index (contract_tree c.loop-step.at.now) c.loop-step-test.false c.loop-step.invariant
