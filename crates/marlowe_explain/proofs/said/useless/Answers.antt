use Rattle.std.proofs.Common.{List, ℕ, ap, ◌∙◌}
use Rattle.std.proofs.lemmas.Result.{IfOk-weaker}
use Rattle.contract.specs.Tree.{contract_tree}
use Rattle.marlowe_next.specs.AnalysisSpec.declared.path.PathStep.{PathStep}
use Rattle.marlowe_explain.specs.Spelled.{useless_told}
use Rattle.marlowe_explain.proofs.said.useless.Goals as goal

pub returns : goal.returns
returns c =
    let whole = contract_tree c.args.contract.now in
    let lines : List PathStep → List ℕ → List ℕ = λ place next. useless_told c.args.spelling whole place next in
    IfOk-weaker c.useless_told.result _ _ (λ text e. record {
      next = c.in_ok-next.next.items;
      tells = c.in_ok-next.ensures;
      is = e ∙ (ap (λ (p : List PathStep). lines p c.deref.result.now) c.as_slice.ensures ∙ ap (lines c.args.left.now.path) c.deref.ensures.value);
    }) c.useless_told.ensures
