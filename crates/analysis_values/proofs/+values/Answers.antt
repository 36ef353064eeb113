use Rattle.std.proofs.Common.{rules, refl, sym, ap, ◌∙◌, subst, FitsSigned}
use Rattle.std.specs.Int.{w128}
use Rattle.std.proofs.lemmas.Int.{to_z-of_z}
use Rattle.contract.specs.Tree.{value_tree, neg_value, cond_value, observation_tree}
use Rattle.contract.proofs.TreeLaws.{value_tree-AvailableMoney, value_tree-Constant, value_tree-NegValue, value_tree-AddValue, value_tree-SubValue, value_tree-MulValue, value_tree-DivValue, value_tree-ChoiceValue, value_tree-TimeIntervalStart, value_tree-TimeIntervalEnd, value_tree-UseValue, value_tree-Cond}
use Rattle.contract.proofs.TreeLaws.{observation_tree-AndObs, observation_tree-OrObs, observation_tree-NotObs, observation_tree-ChoseSomething, observation_tree-ValueGE, observation_tree-ValueGT, observation_tree-ValueLT, observation_tree-ValueLE, observation_tree-ValueEQ, observation_tree-TrueObs, observation_tree-FalseObs}
use Rattle.std.proofs.lemmas.Result.{IfOk-weaker}
use Rattle.analysis_values.specs.Steps.{IsEvaluated, IsObserved, tree_of, test_of, result_of, LooksWhereSaid}
use Rattle.analysis_values.proofs.StepLemmas.{evaluated_as, ok_both, ok_three, two_evaluated, two_fit, tree_evaluated, tree_visited, negation_evaluated, one_fits, both_evaluated, both_fit}
use Rattle.analysis_values.proofs.TruthLemmas.{leads_on_by, leads_on_then, evaluated_on, not_evaluated, and_evaluated, or_evaluated, evaluated_either, observed_as, settled_decides, test_decides, test_looks, not_decides}
use Rattle.analysis_values.specs.Branches.{branch_tree}
use Rattle.analysis_values.proofs.JunctionLemmas.{side_again}
use Rattle.analysis_values.proofs.«+values».Goals as goal

pub values::value_in-returns-in-AvailableMoney : goal.values::value_in-returns-in-AvailableMoney
values::value_in-returns-in-AvailableMoney t c =
    let e = ap value_tree c.in-AvailableMoney.is ∙ value_tree-AvailableMoney _ _ in
    evaluated_as c.money_of.result _ _ _ _ _ e c.money_of.ensures

pub values::value_in-returns-in-NegValue : goal.values::value_in-returns-in-NegValue
values::value_in-returns-in-NegValue t c =
    let e = ap value_tree c.in-NegValue.is ∙ value_tree-NegValue _ in
    evaluated_as c.opposite_of.result _ _ _ _ _ e c.opposite_of.ensures

pub values::value_in-returns-in-AddValue : goal.values::value_in-returns-in-AddValue
values::value_in-returns-in-AddValue t c =
    let e = ap value_tree c.in-AddValue.is ∙ value_tree-AddValue _ _ in
    evaluated_as c.of_two.result _ _ _ _ _ e c.of_two.ensures

pub values::value_in-returns-in-SubValue : goal.values::value_in-returns-in-SubValue
values::value_in-returns-in-SubValue t c =
    let e = ap value_tree c.in-SubValue.is ∙ value_tree-SubValue _ _ in
    evaluated_as c.of_two-in-SubValue.result _ _ _ _ _ e c.of_two-in-SubValue.ensures

pub values::value_in-returns-in-MulValue : goal.values::value_in-returns-in-MulValue
values::value_in-returns-in-MulValue t c =
    let e = ap value_tree c.in-MulValue.is ∙ value_tree-MulValue _ _ in
    evaluated_as c.of_two-in-MulValue.result _ _ _ _ _ e c.of_two-in-MulValue.ensures

pub values::value_in-returns-in-DivValue : goal.values::value_in-returns-in-DivValue
values::value_in-returns-in-DivValue t c =
    let e = ap value_tree c.in-DivValue.is ∙ value_tree-DivValue _ _ in
    evaluated_as c.of_two-in-DivValue.result _ _ _ _ _ e c.of_two-in-DivValue.ensures

pub values::value_in-returns-in-ChoiceValue : goal.values::value_in-returns-in-ChoiceValue
values::value_in-returns-in-ChoiceValue t c =
    let e = ap value_tree c.in-ChoiceValue.is ∙ value_tree-ChoiceValue _ in
    evaluated_as c.choice_of.result _ _ _ _ _ e c.choice_of.ensures

pub values::value_in-returns-in-TimeIntervalStart : goal.values::value_in-returns-in-TimeIntervalStart
values::value_in-returns-in-TimeIntervalStart t c =
    let e = ap value_tree c.in-TimeIntervalStart.is ∙ value_tree-TimeIntervalStart in
    evaluated_as c.start_of.result _ _ _ _ _ e c.start_of.ensures

pub values::value_in-returns-in-TimeIntervalEnd : goal.values::value_in-returns-in-TimeIntervalEnd
values::value_in-returns-in-TimeIntervalEnd t c =
    let e = ap value_tree c.in-TimeIntervalEnd.is ∙ value_tree-TimeIntervalEnd in
    evaluated_as c.end_of.result _ _ _ _ _ e c.end_of.ensures

pub values::value_in-returns-in-UseValue : goal.values::value_in-returns-in-UseValue
values::value_in-returns-in-UseValue t c =
    let e = ap value_tree c.in-UseValue.is ∙ value_tree-UseValue _ in
    evaluated_as c.bound_of.result _ _ _ _ _ e c.bound_of.ensures

pub values::value_in-returns-in-Cond : goal.values::value_in-returns-in-Cond
values::value_in-returns-in-Cond t c =
    let e = ap value_tree c.in-Cond.is ∙ value_tree-Cond _ _ _ in
    evaluated_as c.one_of_two.result _ _ _ _ _ e c.one_of_two.ensures

pub values::value_in-returns-in-Constant : goal.values::value_in-returns-in-Constant
values::value_in-returns-in-Constant t c =
    let f : FitsSigned w128 c.in-Constant.n = search rules in
    let e = ap value_tree c.in-Constant.is ∙ value_tree-Constant _ in
    let h = rw (to_z-of_z w128 c.in-Constant.n f) at c.number_of.ensures in
    evaluated_as c.number_of.result _ _ _ _ _ e h

pub observations::truth_in-returns-in-AndObs : goal.observations::truth_in-returns-in-AndObs
observations::truth_in-returns-in-AndObs t c =
    let e = ap observation_tree c.in-AndObs.is ∙ observation_tree-AndObs _ _ in
    observed_as c.of_junction.result _ _ _ _ _ e c.of_junction.ensures

pub observations::truth_in-returns-in-OrObs : goal.observations::truth_in-returns-in-OrObs
observations::truth_in-returns-in-OrObs t c =
    let e = ap observation_tree c.in-OrObs.is ∙ observation_tree-OrObs _ _ in
    observed_as c.of_junction-in-OrObs.result _ _ _ _ _ e c.of_junction-in-OrObs.ensures

pub observations::truth_in-returns-in-NotObs : goal.observations::truth_in-returns-in-NotObs
observations::truth_in-returns-in-NotObs t c =
    let e = ap observation_tree c.in-NotObs.is ∙ observation_tree-NotObs _ in
    observed_as c.none_of.result _ _ _ _ _ e c.none_of.ensures

pub observations::truth_in-returns-in-ChoseSomething : goal.observations::truth_in-returns-in-ChoseSomething
observations::truth_in-returns-in-ChoseSomething t c =
    let e = ap observation_tree c.in-ChoseSomething.is ∙ observation_tree-ChoseSomething _ in
    observed_as c.chosen_of.result _ _ _ _ _ e c.chosen_of.ensures

pub observations::truth_in-returns-in-ValueGE : goal.observations::truth_in-returns-in-ValueGE
observations::truth_in-returns-in-ValueGE t c =
    let e = ap observation_tree c.in-ValueGE.is ∙ observation_tree-ValueGE _ _ in
    observed_as c.compare.result _ _ _ _ _ e c.compare.ensures

pub observations::truth_in-returns-in-ValueGT : goal.observations::truth_in-returns-in-ValueGT
observations::truth_in-returns-in-ValueGT t c =
    let e = ap observation_tree c.in-ValueGT.is ∙ observation_tree-ValueGT _ _ in
    observed_as c.compare-in-ValueGT.result _ _ _ _ _ e c.compare-in-ValueGT.ensures

pub observations::truth_in-returns-in-ValueLT : goal.observations::truth_in-returns-in-ValueLT
observations::truth_in-returns-in-ValueLT t c =
    let e = ap observation_tree c.in-ValueLT.is ∙ observation_tree-ValueLT _ _ in
    observed_as c.compare-in-ValueLT.result _ _ _ _ _ e c.compare-in-ValueLT.ensures

pub observations::truth_in-returns-in-ValueLE : goal.observations::truth_in-returns-in-ValueLE
observations::truth_in-returns-in-ValueLE t c =
    let e = ap observation_tree c.in-ValueLE.is ∙ observation_tree-ValueLE _ _ in
    observed_as c.compare-in-ValueLE.result _ _ _ _ _ e c.compare-in-ValueLE.ensures

pub observations::truth_in-returns-in-ValueEQ : goal.observations::truth_in-returns-in-ValueEQ
observations::truth_in-returns-in-ValueEQ t c =
    let e = ap observation_tree c.in-ValueEQ.is ∙ observation_tree-ValueEQ _ _ in
    observed_as c.compare-in-ValueEQ.result _ _ _ _ _ e c.compare-in-ValueEQ.ensures

pub observations::truth_in-returns-in-TrueObs : goal.observations::truth_in-returns-in-TrueObs
observations::truth_in-returns-in-TrueObs t c =
    let e = ap observation_tree c.in-TrueObs.is ∙ observation_tree-TrueObs in
    observed_as c.always_of.result _ _ _ _ _ e c.always_of.ensures

pub observations::truth_in-returns-in-FalseObs : goal.observations::truth_in-returns-in-FalseObs
observations::truth_in-returns-in-FalseObs t c =
    let e = ap observation_tree c.in-FalseObs.is ∙ observation_tree-FalseObs in
    observed_as c.never_of.result _ _ _ _ _ e c.never_of.ensures

pub values::of_two-returns : goal.values::of_two-returns
values::of_two-returns t c =
    let v = c.args.view.now in
    let k = c.args.symbols.now in
    let m = c.both_values.new.symbols in
    let n = c.operated.new.symbols in
    let x = value_tree c.args.left.now in
    let y = value_tree c.args.right.now in
    let f = c.args.operation in
    let z = tree_of f x y in
    let p = c.in_ok-operands.operands in
    ok_three c.operated.result _ _ _ (IsEvaluated k v z n)
    (λ a h i j.
    let e = two_evaluated v k m n x y z p.left p.right a.number (result_of f) (tree_evaluated f x y) c.in_ok-operands.ensures.number h in
    record { number = e; fits = two_fit v k m n x y z p.left p.right a.number p.fits a.fits (tree_visited f x y) c.in_ok-operands.ensures.fits e i j })
    c.operated.ensures.number c.operated.ensures.others c.operated.ensures.fits

pub values::opposite_of-returns : goal.values::opposite_of-returns
values::opposite_of-returns t c =
    let v = c.args.view.now in
    let k = c.args.symbols.now in
    let m = c.value_in.new.symbols in
    let n = c.turned.new.symbols in
    let x = value_tree c.args.value.now in
    let o = c.in_ok-operand.operand in
    let p = rw c.get-inner.ensures at c.in_ok-operand.ensures in
    ok_three c.turned.result _ _ _ (IsEvaluated k v (neg_value x) n)
    (λ a h i j.
    let e = negation_evaluated v k m n x (neg_value x) o.number a.number (λ i s. refl) p.number h in
    record { number = e; fits = one_fits v k m n x (neg_value x) o.number a.number o.fits a.fits (λ i s. refl) p.fits e i j })
    c.turned.ensures.number c.turned.ensures.others c.turned.ensures.fits

pub values::both_values-returns-clause-number : goal.values::both_values-returns-clause-number
values::both_values-returns-clause-number t c =
    let p = rw c.get-one.ensures at c.in_ok-first.ensures in
    let q = rw c.get-another.ensures at c.in_ok-second.ensures in
    both_evaluated c.args.view.now c.args.symbols.now c.value_in.new.symbols c.value_in-2.new.symbols (value_tree c.args.left.now) (value_tree c.args.right.now) c.in_ok-first.first.number c.in_ok-second.second.number p.number q.number

pub values::both_values-returns-clause-fits : goal.values::both_values-returns-clause-fits
values::both_values-returns-clause-fits t c =
    let p = rw c.get-one.ensures at c.in_ok-first.ensures in
    let q = rw c.get-another.ensures at c.in_ok-second.ensures in
    rw c.both-fits.ensures (both_fit c.args.view.now c.args.symbols.now c.value_in.new.symbols c.value_in-2.new.symbols (value_tree c.args.left.now) (value_tree c.args.right.now) c.in_ok-first.first.number c.in_ok-second.second.number p.number c.in_ok-first.first.fits c.in_ok-second.second.fits p.fits q.fits)

pub conditionals::name_operations-returns-in_ok-value_in : goal.conditionals::name_operations-returns-in_ok-value_in
conditionals::name_operations-returns-in_ok-value_in t c =
    let p = rw c.get-inner.ensures at c.in_ok-value_in.ensures in
    leads_on_by c.args.view.now c.args.symbols.now c.value_in.new.symbols (value_tree c.args.value.now) c.in_ok-value_in.field-0.number p.number

pub conditionals::one_of_two-returns : goal.conditionals::one_of_two-returns
conditionals::one_of_two-returns t c =
    let v = c.args.view.now in
    let k = c.args.symbols.now in
    let m = c.name_operations-2.new.symbols in
    let x = cond_value (observation_tree c.args.condition.now) (value_tree c.args.first.now) (value_tree c.args.second.now) in
    let h = rw c.get-inner.ensures at c.taken_apart.ensures in
    let l = leads_on_then v k c.name_operations.new.symbols c.in_ok-name_operations.ensures m c.in_ok-name_operations-2.ensures in
    IfOk-weaker c.taken_apart.result _ _ (λ a e. evaluated_on v k m l x c.taken_apart.new.symbols a e) h

pub conditionals::taken_apart-returns-in-NotObs : goal.conditionals::taken_apart-returns-in-NotObs
conditionals::taken_apart-returns-in-NotObs t c =
    let e = ap (λ o. cond_value o (value_tree c.args.first.now) (value_tree c.args.second.now)) (ap observation_tree c.in-NotObs.is ∙ observation_tree-NotObs _) in
    evaluated_as c.by_opposite.result _ _ _ _ _ e c.by_opposite.ensures

pub conditionals::taken_apart-returns-then-is_plain : goal.conditionals::taken_apart-returns-then-is_plain
conditionals::taken_apart-returns-then-is_plain t c =
    let e = ap (λ o. cond_value o (value_tree c.args.first.now) (value_tree c.args.second.now)) (ap observation_tree c.in-AndObs.is ∙ observation_tree-AndObs _ _) in
    evaluated_as c.by_both.result _ _ _ _ _ e c.by_both.ensures

pub conditionals::taken_apart-returns-then-is_plain-2 : goal.conditionals::taken_apart-returns-then-is_plain-2
conditionals::taken_apart-returns-then-is_plain-2 t c =
    let e = ap (λ o. cond_value o (value_tree c.args.first.now) (value_tree c.args.second.now)) (ap observation_tree c.in-OrObs.is ∙ observation_tree-OrObs _ _) in
    evaluated_as c.by_one.result _ _ _ _ _ e c.by_one.ensures

pub conditionals::by_opposite-returns : goal.conditionals::by_opposite-returns
conditionals::by_opposite-returns t c =
    let h = rw c.get-inner.ensures at c.taken_apart.ensures in
    IfOk-weaker c.taken_apart.result _ _
    (λ a e. not_evaluated c.args.symbols.now c.args.view.now c.taken_apart.new.symbols a (observation_tree c.args.condition.now) (value_tree c.args.first.now) (value_tree c.args.second.now) e) h

pub observations::none_of-returns : goal.observations::none_of-returns
observations::none_of-returns t c =
    let p = rw c.get-inner.ensures at c.in_ok-truths.ensures in
    record { truths = not_decides c.args.view.now c.args.symbols.now c.truth_in.new.symbols (observation_tree c.args.observation.now) c.in_ok-truths.truths.if_true c.in_ok-truths.truths.if_false p.truths; fits = p.fits }

pub conditionals::by_both-returns : goal.conditionals::by_both-returns
conditionals::by_both-returns t c =
    let p = rw c.get-inner.ensures at c.by_truth.ensures in
    IfOk-weaker c.by_truth.result _ _
    (λ a h. and_evaluated c.args.symbols.now c.args.view.now c.by_truth.new.symbols a (observation_tree c.args.left.now) (value_tree c.args.first.now) (value_tree c.args.second.now) (observation_tree c.args.right.now) h) p

pub conditionals::by_one-returns : goal.conditionals::by_one-returns
conditionals::by_one-returns t c =
    let p = rw c.get-inner.ensures at c.by_truth.ensures in
    IfOk-weaker c.by_truth.result _ _
    (λ a h. or_evaluated c.args.symbols.now c.args.view.now c.by_truth.new.symbols a (observation_tree c.args.left.now) (value_tree c.args.first.now) (value_tree c.args.second.now) (observation_tree c.args.right.now) h) p

pub conditionals::by_truth-returns : goal.conditionals::by_truth-returns
conditionals::by_truth-returns t c =
    IfOk-weaker c.of_either.result _ _
    (λ a h. evaluated_either c.args.symbols.now c.args.view.now c.truth_in.new.symbols c.of_either.new.symbols a c.in_ok-first.first c.in_ok-second.second (observation_tree c.args.condition.now) (branch_tree c.args.one) (branch_tree c.args.other)
    c.in_ok-truths.truths c.in_ok-truths.ensures c.in_ok-first.ensures c.in_ok-second.ensures h) c.of_either.ensures

pub conditionals::branch_where-returns-in-None : goal.conditionals::branch_where-returns-in-None
conditionals::branch_where-returns-in-None t c = rw c.in-None.is refl

pub conditionals::branch_where-returns-in_ok-evaluated-in-Some : goal.conditionals::branch_where-returns-in_ok-evaluated-in-Some
conditionals::branch_where-returns-in_ok-evaluated-in-Some t c =
    let p = c.in_ok-evaluated-in-Some.ensures in
    rw c.in-Some.is (p.number, p.fits)

pub conditionals::branch_in-returns-in-Value : goal.conditionals::branch_in-returns-in-Value
conditionals::branch_in-returns-in-Value t c = evaluated_as c.value_in.result _ _ _ _ _ (ap branch_tree c.in-Value.is) (rw c.get.ensures at c.value_in.ensures)

pub conditionals::branch_in-returns-in-Cond : goal.conditionals::branch_in-returns-in-Cond
conditionals::branch_in-returns-in-Cond t c = evaluated_as c.taken_apart.result _ _ _ _ _ (ap branch_tree c.in-Cond.is) (rw c.get-in-Cond.ensures at c.taken_apart.ensures)

pub observations::compare-returns : goal.observations::compare-returns
observations::compare-returns t c =
    let v = c.args.view.now in
    let k = c.args.symbols.now in
    let m = c.both_values.new.symbols in
    let n = c.compared.new.symbols in
    let x = value_tree c.args.left.now in
    let y = value_tree c.args.right.now in
    let f = c.args.comparison in
    let p = c.in_ok-operands.operands in
    let e = rw c.in_ok-there.ensures at c.in_ok-operands.ensures in
    let w = test_looks v k m x y p.left p.right f p.fits e.fits in
    ok_both c.compared.result _ _ (IsObserved k v (test_of f x y) n)
    (λ t h l. record {
      truths = settled_decides v k m n (test_of f x y) l.0 l.1 t.if_true t.if_false (test_decides v k m x y p.left p.right f l.0 l.1 e.number l.2 l.3) l.4;
      fits = subst (LooksWhereSaid v k (test_of f x y)) (sym h) w;
    })
    c.compared.ensures.fits c.compared.ensures.leaves

pub observations::of_junction-returns : goal.observations::of_junction-returns
observations::of_junction-returns t c =
    let p = rw c.get-outer.ensures at c.in_ok-truths.ensures in
    let v = c.args.view.now in
    let k = c.args.symbols.now in
    let n = c.truth_in.new.symbols in
    let x = observation_tree c.args.left.now in
    let y = observation_tree c.args.right.now in
    let f = c.side-first.result in
    let h = subst (IsObserved k v x n) (sym (side_again c.args.junction c.in_ok-truths.truths f c.side-first.ensures)) p in
    IfOk-weaker c.decided.result _ _ (λ a d. d k v x y f.if_true h c.in_ok-second.ensures) c.decided.ensures

pub observations::truth_where-returns-in-None : goal.observations::truth_where-returns-in-None
observations::truth_where-returns-in-None t c = rw c.in-None.is refl

pub observations::truth_where-returns-in_ok-truths-in-Some : goal.observations::truth_where-returns-in_ok-truths-in-Some
observations::truth_where-returns-in_ok-truths-in-Some t c =
    let p = rw c.get-inner.ensures at c.in_ok-truths-in-Some.ensures in
    rw c.in-Some.is (c.truth_in.new.symbols, p)
