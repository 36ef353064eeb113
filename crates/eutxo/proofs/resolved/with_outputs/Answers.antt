use Rattle.std.proofs.Common.{◌≡◌, ◌++◌, ◌+◌, ◌∷◌, [], List, drop, sym, ◌∙◌, ap}
use Rattle.std.specs.Option.{option_map, option_copied}
use Rattle.eutxo_types.specs.declared.output.Output.{Output}
use Rattle.eutxo_types.specs.declared.spend.Spend.{Spend}
use Rattle.eutxo.specs.Found.{with_outputs}
use Rattle.eutxo.proofs.FoundLemmas.{next_pair, no_pair}
use Rattle.eutxo.proofs.resolved.with_outputs.Goals as goal

pub returns-in-None : goal.returns-in-None
returns-in-None c =
    sym (c.loop-i.invariant ∙ no_pair c.args.inputs.now c.args.outputs.now c.loop-i.spent.items c.loop-i.i c.index-inputs-i.result c.loop-i-test.true c.index-inputs-i.is
    (sym c.output_at.ensures ∙ ap option_copied c.in-None.is))

pub loop-i-preserved : goal.loop-i-preserved
loop-i-preserved c =
    let more : c.push.new.self.items ≡ c.loop-i.spent.items ++ (c.index-inputs-i.result, c.in-Some.output.now) ∷ [] =
    c.in_ok-push-in-Some.ensures.items ∙ ap (λ (p : Spend × Output). c.loop-i.spent.items ++ p ∷ []) c.new.ensures in
    c.loop-i.invariant
    ∙ next_pair c.args.inputs.now c.args.outputs.now c.loop-i.spent.items c.loop-i.i c.index-inputs-i.result c.in-Some.output.now c.loop-i-test.true c.index-inputs-i.is
    (sym c.output_at.ensures ∙ ap option_copied c.in-Some.is)
    ∙ ap (λ (ys : List (Spend × Output)). option_map (λ rest. ys ++ rest) (with_outputs (drop (c.loop-i.i + 1) c.args.inputs.now) (drop (c.loop-i.i + 1) c.args.outputs.now))) (sym more)
