use Rattle.std.proofs.Common.{◌∷◌, [], ◌++◌, ap, sym, ◌∙◌}
use Rattle.contract.specs.Tree.{contract_tree}
use Rattle.places.specs.declared.key.Key.{Key}
use Rattle.places.proofs.PlacesLemmas.{goes_on_at, leaves_at, arrives}
use Rattle.places.proofs.keys.keys_of.Goals as goal

pub loop-step-preserved : goal.loop-step-preserved
loop-step-preserved c =
    goes_on_at c.args.place.now (contract_tree c.args.contract.now) c.loop-step.keys.items c.loop-step.step-index _ (contract_tree c.loop-step.at.now) c.loop-step-test.true c.loop-step.invariant (contract_tree c.in-Some.part.now)
    c.put_keys.new.keys.items (sym c.in-Some.ensures) c.in_ok-put_keys.ensures

pub returns-in-None : goal.returns-in-None
returns-in-None c =
    leaves_at c.args.place.now (contract_tree c.args.contract.now) c.loop-step.keys.items c.loop-step.step-index _ (contract_tree c.loop-step.at.now) c.loop-step-test.true c.loop-step.invariant c.put_keys.new.keys.items
    c.put_last_key.new.keys.items (sym c.in-None.ensures) c.in_ok-put_keys.ensures c.in_ok-put_last_key-in-None.ensures

pub returns : goal.returns
returns c =
    arrives c.args.place.now (contract_tree c.args.contract.now) c.loop-step.keys.items c.loop-step.step-index (contract_tree c.loop-step.at.now) c.push.new.self.items c.loop-step-test.false c.loop-step.invariant
    (c.in_ok-push.ensures.items ∙ ap (λ (k : Key). c.loop-step.keys.items ++ k ∷ []) c.form_key.ensures)
