use Rattle.std.proofs.Common.{◌≡◌, ap, sym, subst, ◌∙◌, ℕ, ◌+◌, max, arith}
use Rattle.std.specs.Prelude.{IfOk}
use Rattle.table.specs.Flat.{Flat}
use Rattle.contract.specs.Tree.{value_tree, observation_tree, neg_value, not_obs, cond_value}
use Rattle.table.specs.Heights.{value_height, observation_height}
use Rattle.lowering.specs.Sizes.{value_size, observation_size}
use Rattle.contract.proofs.TreeLaws.{value_tree-NegValue, value_tree-AddValue, value_tree-SubValue, value_tree-MulValue, value_tree-DivValue, value_tree-Cond}
use Rattle.contract.proofs.TreeLaws.{observation_tree-AndObs, observation_tree-OrObs, observation_tree-NotObs, observation_tree-ValueGE, observation_tree-ValueGT, observation_tree-ValueLT, observation_tree-ValueLE, observation_tree-ValueEQ}
use Rattle.lowering.specs.Code.{code_value, code_observation}
use Rattle.lowering.proofs.Forms.{code-TimeIntervalStart, code-TimeIntervalEnd, code-TrueObs, code-FalseObs, high-Cond, size-Cond, value-some, observation-some}
use Rattle.lowering.proofs.Made.{at-value, at-observation, fits-NegValue, fits-AddValue, fits-SubValue, fits-MulValue, fits-DivValue, fits-Cond, fits-AndObs, fits-OrObs, fits-NotObs, fits-ValueGE, fits-ValueGT, fits-ValueLT, fits-ValueLE, fits-ValueEQ}
use Rattle.lowering.proofs.Made.{codes-NegValue, codes-AddValue, codes-SubValue, codes-MulValue, codes-DivValue, codes-Cond, codes-AndObs, codes-OrObs, codes-NotObs, codes-ValueGE, codes-ValueGT, codes-ValueLT, codes-ValueLE, codes-ValueEQ}
use Rattle.lowering.proofs.Made.{room-AddValue, room-SubValue, room-MulValue, room-DivValue, room-AndObs, room-OrObs, room-ValueGE, room-ValueGT, room-ValueLT, room-ValueLE, room-ValueEQ}
use Rattle.lowering.proofs.values.«+add_value».Goals as goal

pub add_value-put_value-requires-in-AddValue : goal.add_value-put_value-requires-in-AddValue
add_value-put_value-requires-in-AddValue t c =
    let e = c.in_ok-left-in-AddValue.ensures in
    let h = fits-AddValue _ _ _ _ _ _ _ (ap value_tree c.in-AddValue.is ∙ value_tree-AddValue _ _) c.requires.flat c.requires.low c.requires.room e.code e.left e.right in
    record { stand = h.0; low = h.1.0; room = h.1.1 }

pub add_value-put_value-requires-in-SubValue : goal.add_value-put_value-requires-in-SubValue
add_value-put_value-requires-in-SubValue t c =
    let e = c.in_ok-left-in-SubValue.ensures in
    let h = fits-SubValue _ _ _ _ _ _ _ (ap value_tree c.in-SubValue.is ∙ value_tree-SubValue _ _) c.requires.flat c.requires.low c.requires.room e.code e.left e.right in
    record { stand = h.0; low = h.1.0; room = h.1.1 }

pub add_value-put_value-requires-in-MulValue : goal.add_value-put_value-requires-in-MulValue
add_value-put_value-requires-in-MulValue t c =
    let e = c.in_ok-left-in-MulValue.ensures in
    let h = fits-MulValue _ _ _ _ _ _ _ (ap value_tree c.in-MulValue.is ∙ value_tree-MulValue _ _) c.requires.flat c.requires.low c.requires.room e.code e.left e.right in
    record { stand = h.0; low = h.1.0; room = h.1.1 }

pub add_value-put_value-requires-in-DivValue : goal.add_value-put_value-requires-in-DivValue
add_value-put_value-requires-in-DivValue t c =
    let e = c.in_ok-left-in-DivValue.ensures in
    let h = fits-DivValue _ _ _ _ _ _ _ (ap value_tree c.in-DivValue.is ∙ value_tree-DivValue _ _) c.requires.flat c.requires.low c.requires.room e.code e.left e.right in
    record { stand = h.0; low = h.1.0; room = h.1.1 }

pub add_observation-put_observation-requires : goal.add_observation-put_observation-requires
add_observation-put_observation-requires t c =
    let e = c.in_ok-left-in-AndObs.ensures in
    let h = fits-AndObs _ _ _ _ _ _ _ (ap observation_tree c.in-AndObs.is ∙ observation_tree-AndObs _ _) c.requires.flat c.requires.low c.requires.room e.code e.left e.right in
    record { stand = h.0; low = h.1.0; room = h.1.1 }

pub add_observation-put_observation-requires-in-OrObs : goal.add_observation-put_observation-requires-in-OrObs
add_observation-put_observation-requires-in-OrObs t c =
    let e = c.in_ok-left-in-OrObs.ensures in
    let h = fits-OrObs _ _ _ _ _ _ _ (ap observation_tree c.in-OrObs.is ∙ observation_tree-OrObs _ _) c.requires.flat c.requires.low c.requires.room e.code e.left e.right in
    record { stand = h.0; low = h.1.0; room = h.1.1 }

pub add_observation-put_observation-requires-in-ValueGE : goal.add_observation-put_observation-requires-in-ValueGE
add_observation-put_observation-requires-in-ValueGE t c =
    let e = c.in_ok-left-in-ValueGE.ensures in
    let h = fits-ValueGE _ _ _ _ _ _ _ (ap observation_tree c.in-ValueGE.is ∙ observation_tree-ValueGE _ _) c.requires.flat c.requires.low c.requires.room e.code e.left e.right in
    record { stand = h.0; low = h.1.0; room = h.1.1 }

pub add_observation-put_observation-requires-in-ValueGT : goal.add_observation-put_observation-requires-in-ValueGT
add_observation-put_observation-requires-in-ValueGT t c =
    let e = c.in_ok-left-in-ValueGT.ensures in
    let h = fits-ValueGT _ _ _ _ _ _ _ (ap observation_tree c.in-ValueGT.is ∙ observation_tree-ValueGT _ _) c.requires.flat c.requires.low c.requires.room e.code e.left e.right in
    record { stand = h.0; low = h.1.0; room = h.1.1 }

pub add_observation-put_observation-requires-in-ValueLT : goal.add_observation-put_observation-requires-in-ValueLT
add_observation-put_observation-requires-in-ValueLT t c =
    let e = c.in_ok-left-in-ValueLT.ensures in
    let h = fits-ValueLT _ _ _ _ _ _ _ (ap observation_tree c.in-ValueLT.is ∙ observation_tree-ValueLT _ _) c.requires.flat c.requires.low c.requires.room e.code e.left e.right in
    record { stand = h.0; low = h.1.0; room = h.1.1 }

pub add_observation-put_observation-requires-in-ValueLE : goal.add_observation-put_observation-requires-in-ValueLE
add_observation-put_observation-requires-in-ValueLE t c =
    let e = c.in_ok-left-in-ValueLE.ensures in
    let h = fits-ValueLE _ _ _ _ _ _ _ (ap observation_tree c.in-ValueLE.is ∙ observation_tree-ValueLE _ _) c.requires.flat c.requires.low c.requires.room e.code e.left e.right in
    record { stand = h.0; low = h.1.0; room = h.1.1 }

pub add_observation-put_observation-requires-in-ValueEQ : goal.add_observation-put_observation-requires-in-ValueEQ
add_observation-put_observation-requires-in-ValueEQ t c =
    let e = c.in_ok-left-in-ValueEQ.ensures in
    let h = fits-ValueEQ _ _ _ _ _ _ _ (ap observation_tree c.in-ValueEQ.is ∙ observation_tree-ValueEQ _ _) c.requires.flat c.requires.low c.requires.room e.code e.left e.right in
    record { stand = h.0; low = h.1.0; room = h.1.1 }

pub add_value-put_value-requires-in-NegValue : goal.add_value-put_value-requires-in-NegValue
add_value-put_value-requires-in-NegValue t c =
    let e = c.in_ok-number-in-NegValue.ensures in
    let h = fits-NegValue _ _ _ _ _ (ap value_tree c.in-NegValue.is ∙ (value_tree-NegValue _ ∙ ap (λ v. neg_value (value_tree v)) (sym c.get.ensures))) c.requires.flat c.requires.low c.requires.room e.code e.number in
    record { stand = h.0; low = h.1.0; room = h.1.1 }

pub add_observation-put_observation-requires-in-NotObs : goal.add_observation-put_observation-requires-in-NotObs
add_observation-put_observation-requires-in-NotObs t c =
    let e = c.in_ok-number-in-NotObs.ensures in
    let h = fits-NotObs _ _ _ _ _ (ap observation_tree c.in-NotObs.is ∙ (observation_tree-NotObs _ ∙ ap (λ o. not_obs (observation_tree o)) (sym c.get.ensures))) c.requires.flat c.requires.low c.requires.room e.code e.number in
    record { stand = h.0; low = h.1.0; room = h.1.1 }

pub add_value-put_value-requires-in-Cond : goal.add_value-put_value-requires-in-Cond
add_value-put_value-requires-in-Cond t c =
    let n = c.in_ok-condition-in-Cond.ensures in
    let e = c.in_ok-left-in-Cond.ensures in
    let h = fits-Cond _ _ _ _ _ _ _ _ _ _ (ap value_tree c.in-Cond.is ∙ (value_tree-Cond _ _ _ ∙ ap (λ o. cond_value (observation_tree o) (value_tree c.in-Cond.a) (value_tree c.in-Cond.b)) (sym c.get-in-Cond.ensures))) c.requires.flat c.requires.low c.requires.room n.code n.number e.code e.left e.right in
    record { stand = h.0; low = h.1.0; room = h.1.1 }

pub add_value-add_values-requires-in-Cond : goal.add_value-add_values-requires-in-Cond
add_value-add_values-requires-in-Cond t c =
    let o = c.get-in-Cond.result.now in
    let n = c.in_ok-condition-in-Cond.ensures in
    let h : value_height (value_tree c.args.value.now) ≡ 1 + max (observation_height (observation_tree o)) (max (value_height (value_tree c.in-Cond.a)) (value_height (value_tree c.in-Cond.b)))
    = ap (λ v. value_height (value_tree v)) c.in-Cond.is ∙ (high-Cond _ _ _ ∙ ap (λ x. 1 + max (observation_height (observation_tree x)) (max (value_height (value_tree c.in-Cond.a)) (value_height (value_tree c.in-Cond.b)))) (sym c.get-in-Cond.ensures)) in
    let s : value_size (value_tree c.args.value.now) ≡ 1 + observation_size (observation_tree o) + value_size (value_tree c.in-Cond.a) + value_size (value_tree c.in-Cond.b)
    = ap (λ v. value_size (value_tree v)) c.in-Cond.is ∙ (size-Cond _ _ _ ∙ ap (λ x. 1 + observation_size (observation_tree x) + value_size (value_tree c.in-Cond.a) + value_size (value_tree c.in-Cond.b)) (sym c.get-in-Cond.ensures)) in
    let m = at-observation _ _ _ (observation_tree o) c.requires.flat (omega (arith, h, c.requires.low)) n.code n.number in
    (omega (arith, c.decreases, s), (m.flat, (omega (arith, h, c.requires.low), (omega (arith, h, c.requires.low), omega (arith, s, m.others, c.requires.room)))))

pub add_values-add_value-requires-2 : goal.add_values-add_value-requires-2
add_values-add_value-requires-2 t c =
    let is : value_tree c.get.result.now ≡ value_tree c.args.a.now = ap value_tree c.get.ensures in
    let is2 : value_tree c.get-2.result.now ≡ value_tree c.args.b.now = ap value_tree c.get-2.ensures in
    let m = at-value _ _ _ (value_tree c.get.result.now) c.requires.flat (omega (arith, ap value_height is, c.requires.low_left)) c.in_ok-left.ensures.code c.in_ok-left.ensures.number in
    (omega (arith, c.decreases, ap value_size is2, value-some (value_tree c.args.a.now)), (m.flat, (omega (arith, ap value_height is2, c.requires.low_right), omega (arith, ap value_size is, ap value_size is2, m.others, c.requires.room))))

pub add_observations-add_observation-requires-2 : goal.add_observations-add_observation-requires-2
add_observations-add_observation-requires-2 t c =
    let is : observation_tree c.get.result.now ≡ observation_tree c.args.a.now = ap observation_tree c.get.ensures in
    let is2 : observation_tree c.get-2.result.now ≡ observation_tree c.args.b.now = ap observation_tree c.get-2.ensures in
    let m = at-observation _ _ _ (observation_tree c.get.result.now) c.requires.flat (omega (arith, ap observation_height is, c.requires.low_left)) c.in_ok-left.ensures.code c.in_ok-left.ensures.number in
    (omega (arith, c.decreases, ap observation_size is2, observation-some (observation_tree c.args.a.now)), (m.flat, (omega (arith, ap observation_height is2, c.requires.low_right), omega (arith, ap observation_size is, ap observation_size is2, m.others, c.requires.room))))

pub add_value-returns-in_ok-left-in-AddValue : goal.add_value-returns-in_ok-left-in-AddValue
add_value-returns-in_ok-left-in-AddValue t c =
    let e = codes-AddValue _ _ _ _ _ _ _ (ap value_tree c.in-AddValue.is ∙ value_tree-AddValue _ _) c.in_ok-left-in-AddValue.ensures.code c.in_ok-left-in-AddValue.ensures.left c.in_ok-left-in-AddValue.ensures.right in
    record {
      code = subst (λ (x : Flat × ℕ). IfOk c.put_value-in-AddValue.result (λ _. c.put_value-in-AddValue.new.self ≡ x.0)) e c.put_value-in-AddValue.ensures.code;
      number = subst (λ (x : Flat × ℕ). IfOk c.put_value-in-AddValue.result (λ k. k ≡ x.1)) e c.put_value-in-AddValue.ensures.number;
    }

pub add_value-returns-in_ok-left-in-SubValue : goal.add_value-returns-in_ok-left-in-SubValue
add_value-returns-in_ok-left-in-SubValue t c =
    let e = codes-SubValue _ _ _ _ _ _ _ (ap value_tree c.in-SubValue.is ∙ value_tree-SubValue _ _) c.in_ok-left-in-SubValue.ensures.code c.in_ok-left-in-SubValue.ensures.left c.in_ok-left-in-SubValue.ensures.right in
    record {
      code = subst (λ (x : Flat × ℕ). IfOk c.put_value-in-SubValue.result (λ _. c.put_value-in-SubValue.new.self ≡ x.0)) e c.put_value-in-SubValue.ensures.code;
      number = subst (λ (x : Flat × ℕ). IfOk c.put_value-in-SubValue.result (λ k. k ≡ x.1)) e c.put_value-in-SubValue.ensures.number;
    }

pub add_value-returns-in_ok-left-in-MulValue : goal.add_value-returns-in_ok-left-in-MulValue
add_value-returns-in_ok-left-in-MulValue t c =
    let e = codes-MulValue _ _ _ _ _ _ _ (ap value_tree c.in-MulValue.is ∙ value_tree-MulValue _ _) c.in_ok-left-in-MulValue.ensures.code c.in_ok-left-in-MulValue.ensures.left c.in_ok-left-in-MulValue.ensures.right in
    record {
      code = subst (λ (x : Flat × ℕ). IfOk c.put_value-in-MulValue.result (λ _. c.put_value-in-MulValue.new.self ≡ x.0)) e c.put_value-in-MulValue.ensures.code;
      number = subst (λ (x : Flat × ℕ). IfOk c.put_value-in-MulValue.result (λ k. k ≡ x.1)) e c.put_value-in-MulValue.ensures.number;
    }

pub add_value-returns-in_ok-left-in-DivValue : goal.add_value-returns-in_ok-left-in-DivValue
add_value-returns-in_ok-left-in-DivValue t c =
    let e = codes-DivValue _ _ _ _ _ _ _ (ap value_tree c.in-DivValue.is ∙ value_tree-DivValue _ _) c.in_ok-left-in-DivValue.ensures.code c.in_ok-left-in-DivValue.ensures.left c.in_ok-left-in-DivValue.ensures.right in
    record {
      code = subst (λ (x : Flat × ℕ). IfOk c.put_value-in-DivValue.result (λ _. c.put_value-in-DivValue.new.self ≡ x.0)) e c.put_value-in-DivValue.ensures.code;
      number = subst (λ (x : Flat × ℕ). IfOk c.put_value-in-DivValue.result (λ k. k ≡ x.1)) e c.put_value-in-DivValue.ensures.number;
    }

pub add_observation-returns-in_ok-left-in-AndObs : goal.add_observation-returns-in_ok-left-in-AndObs
add_observation-returns-in_ok-left-in-AndObs t c =
    let e = codes-AndObs _ _ _ _ _ _ _ (ap observation_tree c.in-AndObs.is ∙ observation_tree-AndObs _ _) c.in_ok-left-in-AndObs.ensures.code c.in_ok-left-in-AndObs.ensures.left c.in_ok-left-in-AndObs.ensures.right in
    record {
      code = subst (λ (x : Flat × ℕ). IfOk c.put_observation.result (λ _. c.put_observation.new.self ≡ x.0)) e c.put_observation.ensures.code;
      number = subst (λ (x : Flat × ℕ). IfOk c.put_observation.result (λ k. k ≡ x.1)) e c.put_observation.ensures.number;
    }

pub add_observation-returns-in_ok-left-in-OrObs : goal.add_observation-returns-in_ok-left-in-OrObs
add_observation-returns-in_ok-left-in-OrObs t c =
    let e = codes-OrObs _ _ _ _ _ _ _ (ap observation_tree c.in-OrObs.is ∙ observation_tree-OrObs _ _) c.in_ok-left-in-OrObs.ensures.code c.in_ok-left-in-OrObs.ensures.left c.in_ok-left-in-OrObs.ensures.right in
    record {
      code = subst (λ (x : Flat × ℕ). IfOk c.put_observation-in-OrObs.result (λ _. c.put_observation-in-OrObs.new.self ≡ x.0)) e c.put_observation-in-OrObs.ensures.code;
      number = subst (λ (x : Flat × ℕ). IfOk c.put_observation-in-OrObs.result (λ k. k ≡ x.1)) e c.put_observation-in-OrObs.ensures.number;
    }

pub add_observation-returns-in_ok-left-in-ValueGE : goal.add_observation-returns-in_ok-left-in-ValueGE
add_observation-returns-in_ok-left-in-ValueGE t c =
    let e = codes-ValueGE _ _ _ _ _ _ _ (ap observation_tree c.in-ValueGE.is ∙ observation_tree-ValueGE _ _) c.in_ok-left-in-ValueGE.ensures.code c.in_ok-left-in-ValueGE.ensures.left c.in_ok-left-in-ValueGE.ensures.right in
    record {
      code = subst (λ (x : Flat × ℕ). IfOk c.put_observation-in-ValueGE.result (λ _. c.put_observation-in-ValueGE.new.self ≡ x.0)) e c.put_observation-in-ValueGE.ensures.code;
      number = subst (λ (x : Flat × ℕ). IfOk c.put_observation-in-ValueGE.result (λ k. k ≡ x.1)) e c.put_observation-in-ValueGE.ensures.number;
    }

pub add_observation-returns-in_ok-left-in-ValueGT : goal.add_observation-returns-in_ok-left-in-ValueGT
add_observation-returns-in_ok-left-in-ValueGT t c =
    let e = codes-ValueGT _ _ _ _ _ _ _ (ap observation_tree c.in-ValueGT.is ∙ observation_tree-ValueGT _ _) c.in_ok-left-in-ValueGT.ensures.code c.in_ok-left-in-ValueGT.ensures.left c.in_ok-left-in-ValueGT.ensures.right in
    record {
      code = subst (λ (x : Flat × ℕ). IfOk c.put_observation-in-ValueGT.result (λ _. c.put_observation-in-ValueGT.new.self ≡ x.0)) e c.put_observation-in-ValueGT.ensures.code;
      number = subst (λ (x : Flat × ℕ). IfOk c.put_observation-in-ValueGT.result (λ k. k ≡ x.1)) e c.put_observation-in-ValueGT.ensures.number;
    }

pub add_observation-returns-in_ok-left-in-ValueLT : goal.add_observation-returns-in_ok-left-in-ValueLT
add_observation-returns-in_ok-left-in-ValueLT t c =
    let e = codes-ValueLT _ _ _ _ _ _ _ (ap observation_tree c.in-ValueLT.is ∙ observation_tree-ValueLT _ _) c.in_ok-left-in-ValueLT.ensures.code c.in_ok-left-in-ValueLT.ensures.left c.in_ok-left-in-ValueLT.ensures.right in
    record {
      code = subst (λ (x : Flat × ℕ). IfOk c.put_observation-in-ValueLT.result (λ _. c.put_observation-in-ValueLT.new.self ≡ x.0)) e c.put_observation-in-ValueLT.ensures.code;
      number = subst (λ (x : Flat × ℕ). IfOk c.put_observation-in-ValueLT.result (λ k. k ≡ x.1)) e c.put_observation-in-ValueLT.ensures.number;
    }

pub add_observation-returns-in_ok-left-in-ValueLE : goal.add_observation-returns-in_ok-left-in-ValueLE
add_observation-returns-in_ok-left-in-ValueLE t c =
    let e = codes-ValueLE _ _ _ _ _ _ _ (ap observation_tree c.in-ValueLE.is ∙ observation_tree-ValueLE _ _) c.in_ok-left-in-ValueLE.ensures.code c.in_ok-left-in-ValueLE.ensures.left c.in_ok-left-in-ValueLE.ensures.right in
    record {
      code = subst (λ (x : Flat × ℕ). IfOk c.put_observation-in-ValueLE.result (λ _. c.put_observation-in-ValueLE.new.self ≡ x.0)) e c.put_observation-in-ValueLE.ensures.code;
      number = subst (λ (x : Flat × ℕ). IfOk c.put_observation-in-ValueLE.result (λ k. k ≡ x.1)) e c.put_observation-in-ValueLE.ensures.number;
    }

pub add_observation-returns-in_ok-left-in-ValueEQ : goal.add_observation-returns-in_ok-left-in-ValueEQ
add_observation-returns-in_ok-left-in-ValueEQ t c =
    let e = codes-ValueEQ _ _ _ _ _ _ _ (ap observation_tree c.in-ValueEQ.is ∙ observation_tree-ValueEQ _ _) c.in_ok-left-in-ValueEQ.ensures.code c.in_ok-left-in-ValueEQ.ensures.left c.in_ok-left-in-ValueEQ.ensures.right in
    record {
      code = subst (λ (x : Flat × ℕ). IfOk c.put_observation-in-ValueEQ.result (λ _. c.put_observation-in-ValueEQ.new.self ≡ x.0)) e c.put_observation-in-ValueEQ.ensures.code;
      number = subst (λ (x : Flat × ℕ). IfOk c.put_observation-in-ValueEQ.result (λ k. k ≡ x.1)) e c.put_observation-in-ValueEQ.ensures.number;
    }

pub add_value-returns-in_ok-number-in-NegValue : goal.add_value-returns-in_ok-number-in-NegValue
add_value-returns-in_ok-number-in-NegValue t c =
    let e = codes-NegValue _ _ _ _ _ (ap value_tree c.in-NegValue.is ∙ (value_tree-NegValue _ ∙ ap (λ v. neg_value (value_tree v)) (sym c.get.ensures))) c.in_ok-number-in-NegValue.ensures.code c.in_ok-number-in-NegValue.ensures.number in
    record {
      code = subst (λ (x : Flat × ℕ). IfOk c.put_value-in-NegValue.result (λ _. c.put_value-in-NegValue.new.self ≡ x.0)) e c.put_value-in-NegValue.ensures.code;
      number = subst (λ (x : Flat × ℕ). IfOk c.put_value-in-NegValue.result (λ k. k ≡ x.1)) e c.put_value-in-NegValue.ensures.number;
    }

pub add_observation-returns-in_ok-number-in-NotObs : goal.add_observation-returns-in_ok-number-in-NotObs
add_observation-returns-in_ok-number-in-NotObs t c =
    let e = codes-NotObs _ _ _ _ _ (ap observation_tree c.in-NotObs.is ∙ (observation_tree-NotObs _ ∙ ap (λ o. not_obs (observation_tree o)) (sym c.get.ensures))) c.in_ok-number-in-NotObs.ensures.code c.in_ok-number-in-NotObs.ensures.number in
    record {
      code = subst (λ (x : Flat × ℕ). IfOk c.put_observation-in-NotObs.result (λ _. c.put_observation-in-NotObs.new.self ≡ x.0)) e c.put_observation-in-NotObs.ensures.code;
      number = subst (λ (x : Flat × ℕ). IfOk c.put_observation-in-NotObs.result (λ k. k ≡ x.1)) e c.put_observation-in-NotObs.ensures.number;
    }

pub add_value-returns-in_ok-left-in-Cond : goal.add_value-returns-in_ok-left-in-Cond
add_value-returns-in_ok-left-in-Cond t c =
    let e = codes-Cond _ _ _ _ _ _ _ _ _ _ (ap value_tree c.in-Cond.is ∙ (value_tree-Cond _ _ _ ∙ ap (λ o. cond_value (observation_tree o) (value_tree c.in-Cond.a) (value_tree c.in-Cond.b)) (sym c.get-in-Cond.ensures))) c.in_ok-condition-in-Cond.ensures.code c.in_ok-condition-in-Cond.ensures.number c.in_ok-left-in-Cond.ensures.code c.in_ok-left-in-Cond.ensures.left c.in_ok-left-in-Cond.ensures.right in
    record {
      code = subst (λ (x : Flat × ℕ). IfOk c.put_value-in-Cond.result (λ _. c.put_value-in-Cond.new.self ≡ x.0)) e c.put_value-in-Cond.ensures.code;
      number = subst (λ (x : Flat × ℕ). IfOk c.put_value-in-Cond.result (λ k. k ≡ x.1)) e c.put_value-in-Cond.ensures.number;
    }

pub add_value-add_values-requires : goal.add_value-add_values-requires
add_value-add_values-requires t c =
    let r = room-AddValue c.args.builder.now _ _ _ (ap value_tree c.in-AddValue.is ∙ value_tree-AddValue _ _) c.requires.low c.requires.room in
    (omega (arith, c.decreases, r.0), (c.requires.flat, (r.1.0, (r.1.1.0, r.1.1.1))))

pub add_value-add_values-requires-in-SubValue : goal.add_value-add_values-requires-in-SubValue
add_value-add_values-requires-in-SubValue t c =
    let r = room-SubValue c.args.builder.now _ _ _ (ap value_tree c.in-SubValue.is ∙ value_tree-SubValue _ _) c.requires.low c.requires.room in
    (omega (arith, c.decreases, r.0), (c.requires.flat, (r.1.0, (r.1.1.0, r.1.1.1))))

pub add_value-add_values-requires-in-MulValue : goal.add_value-add_values-requires-in-MulValue
add_value-add_values-requires-in-MulValue t c =
    let r = room-MulValue c.args.builder.now _ _ _ (ap value_tree c.in-MulValue.is ∙ value_tree-MulValue _ _) c.requires.low c.requires.room in
    (omega (arith, c.decreases, r.0), (c.requires.flat, (r.1.0, (r.1.1.0, r.1.1.1))))

pub add_value-add_values-requires-in-DivValue : goal.add_value-add_values-requires-in-DivValue
add_value-add_values-requires-in-DivValue t c =
    let r = room-DivValue c.args.builder.now _ _ _ (ap value_tree c.in-DivValue.is ∙ value_tree-DivValue _ _) c.requires.low c.requires.room in
    (omega (arith, c.decreases, r.0), (c.requires.flat, (r.1.0, (r.1.1.0, r.1.1.1))))

pub add_observation-add_observations-requires : goal.add_observation-add_observations-requires
add_observation-add_observations-requires t c =
    let r = room-AndObs c.args.builder.now _ _ _ (ap observation_tree c.in-AndObs.is ∙ observation_tree-AndObs _ _) c.requires.low c.requires.room in
    (omega (arith, c.decreases, r.0), (c.requires.flat, (r.1.0, (r.1.1.0, r.1.1.1))))

pub add_observation-add_observations-requires-in-OrObs : goal.add_observation-add_observations-requires-in-OrObs
add_observation-add_observations-requires-in-OrObs t c =
    let r = room-OrObs c.args.builder.now _ _ _ (ap observation_tree c.in-OrObs.is ∙ observation_tree-OrObs _ _) c.requires.low c.requires.room in
    (omega (arith, c.decreases, r.0), (c.requires.flat, (r.1.0, (r.1.1.0, r.1.1.1))))

pub add_observation-add_values-requires : goal.add_observation-add_values-requires
add_observation-add_values-requires t c =
    let r = room-ValueGE c.args.builder.now _ _ _ (ap observation_tree c.in-ValueGE.is ∙ observation_tree-ValueGE _ _) c.requires.low c.requires.room in
    (omega (arith, c.decreases, r.0), (c.requires.flat, (r.1.0, (r.1.1.0, r.1.1.1))))

pub add_observation-add_values-requires-in-ValueGT : goal.add_observation-add_values-requires-in-ValueGT
add_observation-add_values-requires-in-ValueGT t c =
    let r = room-ValueGT c.args.builder.now _ _ _ (ap observation_tree c.in-ValueGT.is ∙ observation_tree-ValueGT _ _) c.requires.low c.requires.room in
    (omega (arith, c.decreases, r.0), (c.requires.flat, (r.1.0, (r.1.1.0, r.1.1.1))))

pub add_observation-add_values-requires-in-ValueLT : goal.add_observation-add_values-requires-in-ValueLT
add_observation-add_values-requires-in-ValueLT t c =
    let r = room-ValueLT c.args.builder.now _ _ _ (ap observation_tree c.in-ValueLT.is ∙ observation_tree-ValueLT _ _) c.requires.low c.requires.room in
    (omega (arith, c.decreases, r.0), (c.requires.flat, (r.1.0, (r.1.1.0, r.1.1.1))))

pub add_observation-add_values-requires-in-ValueLE : goal.add_observation-add_values-requires-in-ValueLE
add_observation-add_values-requires-in-ValueLE t c =
    let r = room-ValueLE c.args.builder.now _ _ _ (ap observation_tree c.in-ValueLE.is ∙ observation_tree-ValueLE _ _) c.requires.low c.requires.room in
    (omega (arith, c.decreases, r.0), (c.requires.flat, (r.1.0, (r.1.1.0, r.1.1.1))))

pub add_observation-add_values-requires-in-ValueEQ : goal.add_observation-add_values-requires-in-ValueEQ
add_observation-add_values-requires-in-ValueEQ t c =
    let r = room-ValueEQ c.args.builder.now _ _ _ (ap observation_tree c.in-ValueEQ.is ∙ observation_tree-ValueEQ _ _) c.requires.low c.requires.room in
    (omega (arith, c.decreases, r.0), (c.requires.flat, (r.1.0, (r.1.1.0, r.1.1.1))))

pub add_value-put_value-requires : goal.add_value-put_value-requires
add_value-put_value-requires t c = record { stand = tt; low = omega arith; room = omega (arith, c.requires.room, value-some (value_tree c.args.value.now)) }

pub add_value-put_value-requires-in-Constant : goal.add_value-put_value-requires-in-Constant
add_value-put_value-requires-in-Constant t c = record { stand = tt; low = omega arith; room = omega (arith, c.requires.room, value-some (value_tree c.args.value.now)) }

pub add_value-put_value-requires-in-ChoiceValue : goal.add_value-put_value-requires-in-ChoiceValue
add_value-put_value-requires-in-ChoiceValue t c = record { stand = tt; low = omega arith; room = omega (arith, c.requires.room, value-some (value_tree c.args.value.now)) }

pub add_value-put_value-requires-in-TimeIntervalStart : goal.add_value-put_value-requires-in-TimeIntervalStart
add_value-put_value-requires-in-TimeIntervalStart t c = record { stand = tt; low = omega arith; room = omega (arith, c.requires.room, value-some (value_tree c.args.value.now)) }

pub add_value-put_value-requires-in-TimeIntervalEnd : goal.add_value-put_value-requires-in-TimeIntervalEnd
add_value-put_value-requires-in-TimeIntervalEnd t c = record { stand = tt; low = omega arith; room = omega (arith, c.requires.room, value-some (value_tree c.args.value.now)) }

pub add_value-put_value-requires-in-UseValue : goal.add_value-put_value-requires-in-UseValue
add_value-put_value-requires-in-UseValue t c = record { stand = tt; low = omega arith; room = omega (arith, c.requires.room, value-some (value_tree c.args.value.now)) }

pub add_observation-put_observation-requires-in-ChoseSomething : goal.add_observation-put_observation-requires-in-ChoseSomething
add_observation-put_observation-requires-in-ChoseSomething t c = record { stand = tt; low = omega arith; room = omega (arith, c.requires.room, observation-some (observation_tree c.args.observation.now)) }

pub add_observation-put_observation-requires-in-TrueObs : goal.add_observation-put_observation-requires-in-TrueObs
add_observation-put_observation-requires-in-TrueObs t c = record { stand = tt; low = omega arith; room = omega (arith, c.requires.room, observation-some (observation_tree c.args.observation.now)) }

pub add_observation-put_observation-requires-in-FalseObs : goal.add_observation-put_observation-requires-in-FalseObs
add_observation-put_observation-requires-in-FalseObs t c = record { stand = tt; low = omega arith; room = omega (arith, c.requires.room, observation-some (observation_tree c.args.observation.now)) }

pub add_value-returns-in-TimeIntervalStart : goal.add_value-returns-in-TimeIntervalStart
add_value-returns-in-TimeIntervalStart t c =
    let f : Flat = c.args.builder.now in
    let e = sym (ap (λ x. code_value (value_tree x) f) c.in-TimeIntervalStart.is ∙ code-TimeIntervalStart f) in
    record {
      code = subst (λ (x : Flat × ℕ). IfOk c.put_value-in-TimeIntervalStart.result (λ _. c.put_value-in-TimeIntervalStart.new.self ≡ x.0)) e c.put_value-in-TimeIntervalStart.ensures.code;
      number = subst (λ (x : Flat × ℕ). IfOk c.put_value-in-TimeIntervalStart.result (λ k. k ≡ x.1)) e c.put_value-in-TimeIntervalStart.ensures.number;
    }

pub add_value-returns-in-TimeIntervalEnd : goal.add_value-returns-in-TimeIntervalEnd
add_value-returns-in-TimeIntervalEnd t c =
    let f : Flat = c.args.builder.now in
    let e = sym (ap (λ x. code_value (value_tree x) f) c.in-TimeIntervalEnd.is ∙ code-TimeIntervalEnd f) in
    record {
      code = subst (λ (x : Flat × ℕ). IfOk c.put_value-in-TimeIntervalEnd.result (λ _. c.put_value-in-TimeIntervalEnd.new.self ≡ x.0)) e c.put_value-in-TimeIntervalEnd.ensures.code;
      number = subst (λ (x : Flat × ℕ). IfOk c.put_value-in-TimeIntervalEnd.result (λ k. k ≡ x.1)) e c.put_value-in-TimeIntervalEnd.ensures.number;
    }

pub add_observation-returns-in-TrueObs : goal.add_observation-returns-in-TrueObs
add_observation-returns-in-TrueObs t c =
    let f : Flat = c.args.builder.now in
    let e = sym (ap (λ x. code_observation (observation_tree x) f) c.in-TrueObs.is ∙ code-TrueObs f) in
    record {
      code = subst (λ (x : Flat × ℕ). IfOk c.put_observation-in-TrueObs.result (λ _. c.put_observation-in-TrueObs.new.self ≡ x.0)) e c.put_observation-in-TrueObs.ensures.code;
      number = subst (λ (x : Flat × ℕ). IfOk c.put_observation-in-TrueObs.result (λ k. k ≡ x.1)) e c.put_observation-in-TrueObs.ensures.number;
    }

pub add_observation-returns-in-FalseObs : goal.add_observation-returns-in-FalseObs
add_observation-returns-in-FalseObs t c =
    let f : Flat = c.args.builder.now in
    let e = sym (ap (λ x. code_observation (observation_tree x) f) c.in-FalseObs.is ∙ code-FalseObs f) in
    record {
      code = subst (λ (x : Flat × ℕ). IfOk c.put_observation-in-FalseObs.result (λ _. c.put_observation-in-FalseObs.new.self ≡ x.0)) e c.put_observation-in-FalseObs.ensures.code;
      number = subst (λ (x : Flat × ℕ). IfOk c.put_observation-in-FalseObs.result (λ k. k ≡ x.1)) e c.put_observation-in-FalseObs.ensures.number;
    }
