use Rattle.std.proofs.lemmas.Result.{IfOk-weaker}
use Rattle.json_tree.specs.View.{view}
use Rattle.explanations.specs.ExplainedSupport.{place_of}
use Rattle.explanations.proofs.ExplainLemmas.{place_told}
use Rattle.explanations.proofs.explain.told_json.Goals as goal

pub returns-in-Some : goal.returns-in-Some
returns-in-Some c =
    let stops = rw c.in-Some.is at c.in_ok-found.ensures in
    IfOk-weaker c.told_stop.result _ _
    (λ written told. place_told c.args.how c.args.file.now c.args.text.now c.args.sort (view c.args.json.now) (place_of c.in-Some.stop c.in-Some.part.now) written.items stops told)
    c.told_stop.ensures
