use Rattle.std.proofs.Common.{ap, sym, ◌∙◌, map}
use Rattle.std.proofs.lemmas.Result.{IfOk-weaker}
use Rattle.explanations.specs.Indexes.{Member}
use Rattle.explanations.proofs.IndexLemmas.{keys_of_object}
use Rattle.explanations.proofs.indexes.keys_in.Goals as goal

pub returns-in-Object : goal.returns-in-Object
returns-in-Object c =
    IfOk-weaker c.keys_of.result _ _
    (λ keys e. e ∙ ap (map (λ (m : Member). m.0.now)) c.as_slice.ensures.value ∙ sym (keys_of_object c.args.json.now c.in-Object.members c.in-Object.is))
    c.keys_of.ensures
