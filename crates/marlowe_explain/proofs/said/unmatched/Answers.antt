use Rattle.std.proofs.Common.{List, ℕ, length, refl, ap, ◌∙◌}
use Rattle.std.proofs.lemmas.Option.{slice_get_read}
use Rattle.std.proofs.lemmas.Result.{IfOk-weaker}
use Rattle.contract.specs.Tree.{contract_tree}
use Rattle.marlowe_next.specs.AnalysisSpec.declared.path.PathStep.{PathStep}
use Rattle.marlowe_explain.specs.Spelled.{unmatched_told}
use Rattle.marlowe_explain.proofs.said.unmatched.Goals as goal

pub returns-in_ok-next-in-Some : goal.returns-in_ok-next-in-Some
returns-in_ok-next-in-Some c =
    let whole = contract_tree c.args.contract.now in
    let input = c.in-Some.input.now in
    let lines : List PathStep → List ℕ → List ℕ = λ place next. unmatched_told c.args.spelling whole c.args.index input place next in
    let brought = slice_get_read c.args.inputs.now (length c.args.inputs.now) c.args.index input refl c.in-Some.ensures.lookup.3.0 c.in-Some.ensures.lookup.1 in
    IfOk-weaker c.unmatched_told.result _ _ (λ text e. record {
      input = input;
      brought = brought;
      next = c.in_ok-next-in-Some.next.items;
      tells = c.in_ok-next-in-Some.ensures;
      is = e ∙ (ap (λ (p : List PathStep). lines p c.deref.result.now) c.as_slice.ensures ∙ ap (lines c.args.left.now.path) c.deref.ensures.value);
    }) c.unmatched_told.ensures
