use Rattle.std.proofs.Common.{List, [], Some, None, sym, subst}
use Rattle.contract.specs.Names.declared.bound.Bound.{Bound}
use Rattle.analysis_walk.specs.Conclusions.{ChoosesSo}
use Rattle.analysis_walk.specs.Knowledge.{actions_before}
use Rattle.analysis_values.specs.Known.{IsDescribed}
use Rattle.analysis_steps.proofs.ChosenLemmas.{has_actions, chooses_none, chooses_so}
use Rattle.analysis_steps.proofs.choices.choose.Goals as goal

pub returns-in-None : goal.returns-in-None
returns-in-None c =
    let ks = c.args.earlier.now in
    let es = actions_before ks in
    let id = c.args.id.now in
    subst (λ kinds. ChoosesSo IsDescribed c.args.known es id c.args.bounds.now (record { kinds = kinds; known = None })) (sym c.new-kinds.ensures)
    (subst (λ (bounds : List Bound). ChoosesSo IsDescribed c.args.known es id bounds (record { kinds = []; known = None })) c.as_slice.ensures
    (chooses_none ks es id c.as_slice.result.now (has_actions ks) c.args.known (rw c.in-None.is at c.in_ok-range.ensures)))

pub returns-in_ok-chosen-in-Some : goal.returns-in_ok-chosen-in-Some
returns-in_ok-chosen-in-Some c =
    let ks = c.args.earlier.now in
    let es = actions_before ks in
    let id = c.args.id.now in
    let m = c.in_ok-chosen-in-Some.chosen in
    subst (λ kinds. ChoosesSo IsDescribed c.args.known es id c.args.bounds.now (record { kinds = kinds; known = Some m })) (sym c.new-kinds.ensures)
    (subst (λ (bounds : List Bound). ChoosesSo IsDescribed c.args.known es id bounds (record { kinds = []; known = Some m })) c.as_slice.ensures
    (chooses_so ks es id c.as_slice.result.now (has_actions ks) c.args.known m c.in-Some.range (rw c.in-Some.is at c.in_ok-range.ensures) c.in_ok-chosen-in-Some.ensures))
