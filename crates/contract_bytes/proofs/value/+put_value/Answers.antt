use Rattle.std.proofs.Common.{[], ◌∷◌, ◌++◌, ap, subst, rules, SFits}
use Rattle.std.proofs.lemmas.Int.{to_z-of_z}
use Rattle.std.specs.Int.{w128}
use Rattle.contract.specs.Tree.{value_tree, observation_tree}
use Rattle.contract.proofs.TreeLaws.{value_tree-AvailableMoney, value_tree-Cond}
use Rattle.contract_bytes.specs.Numbers.{number_bytes, NumberFits}
use Rattle.contract_bytes.specs.Values.{value_bytes, observation_bytes}
use Rattle.contract_bytes.specs.WritingSupport.{Spells, SpellsValue, SpellsObservation}
use Rattle.contract_bytes.proofs.Fronts.{front_first, front_then, wrote_both}
use Rattle.contract_bytes.proofs.Spellings.{no_front, refused, a_byte, behind, fitting, form}
use Rattle.contract_bytes.proofs.Forms.{value_bytes-Constant, value_bytes-NegValue, value_bytes-AddValue, value_bytes-SubValue, value_bytes-MulValue, value_bytes-DivValue, value_bytes-ChoiceValue, value_bytes-TimeIntervalStart, value_bytes-TimeIntervalEnd, value_bytes-UseValue, observation_bytes-AndObs, observation_bytes-OrObs, observation_bytes-NotObs, observation_bytes-ChoseSomething, observation_bytes-ValueGE, observation_bytes-ValueGT, observation_bytes-ValueLT, observation_bytes-ValueLE, observation_bytes-ValueEQ, observation_bytes-TrueObs, observation_bytes-FalseObs}
use Rattle.contract_bytes.proofs.FitsForms.{value_fits-AvailableMoney, value_fits-Constant, value_fits-NegValue, value_fits-AddValue, value_fits-SubValue, value_fits-MulValue, value_fits-DivValue, value_fits-ChoiceValue, value_fits-TimeIntervalStart, value_fits-TimeIntervalEnd, value_fits-UseValue, value_fits-Cond, observation_fits-AndObs, observation_fits-OrObs, observation_fits-NotObs, observation_fits-ChoseSomething, observation_fits-ValueGE, observation_fits-ValueGT, observation_fits-ValueLT, observation_fits-ValueLE, observation_fits-ValueEQ, observation_fits-TrueObs, observation_fits-FalseObs}
use Rattle.contract_bytes.proofs.value.+put_value.Goals as goal

-- ---- operands

pub put_operand-returns : goal.put_operand-returns
put_operand-returns t c = subst (λ v. SpellsValue c.put_value.result (value_tree v) c.args.out.now c.put_value.new.out) c.get.ensures c.put_value.ensures

pub put_condition-returns : goal.put_condition-returns
put_condition-returns t c = subst (λ o. SpellsObservation c.put_observation.result (observation_tree o) c.args.out.now c.put_observation.new.out) c.get.ensures c.put_observation.ensures

pub put_neg-returns-in_err-put_byte : goal.put_neg-returns-in_err-put_byte
put_neg-returns-in_err-put_byte t c = refused c.from_residual.result c.from_residual.ensures.0 (no_front _ c.in_err-put_byte.ensures.err)

pub put_neg-returns : goal.put_neg-returns
put_neg-returns t c = behind (0x02 ∷ []) c.put_operand.result c.in_ok-put_byte.ensures.spelling c.put_operand.ensures

pub put_operands-returns-in_err-put_byte : goal.put_operands-returns-in_err-put_byte
put_operands-returns-in_err-put_byte t c = refused c.from_residual.result c.from_residual.ensures.0 (no_front _ c.in_err-put_byte.ensures.err)

pub put_operands-returns-in_err-put_operand : goal.put_operands-returns-in_err-put_operand
put_operands-returns-in_err-put_operand t c = refused c.from_residual-in_err-put_operand.result c.from_residual-in_err-put_operand.ensures.0 (front_first (value_bytes (value_tree c.args.b.now)) (front_then (c.args.tag ∷ []) c.in_ok-put_byte.ensures.spelling c.in_err-put_operand.ensures.err))

pub put_operands-returns : goal.put_operands-returns
put_operands-returns t c =
    fitting c.put_operand-2.result (λ h. (c.in_ok-put_operand.ensures.fits, h))
    (behind (c.args.tag ∷ value_bytes (value_tree c.args.a.now)) c.put_operand-2.result (wrote_both _ (c.args.tag ∷ []) (value_bytes (value_tree c.args.a.now)) c.in_ok-put_byte.ensures.spelling c.in_ok-put_operand.ensures.spelling) c.put_operand-2.ensures)

pub put_cond-returns-in_err-put_byte : goal.put_cond-returns-in_err-put_byte
put_cond-returns-in_err-put_byte t c = refused c.from_residual.result c.from_residual.ensures.0 (no_front _ c.in_err-put_byte.ensures.err)

pub put_cond-returns-in_err-put_condition : goal.put_cond-returns-in_err-put_condition
unfolding value_bytes
put_cond-returns-in_err-put_condition t c = refused c.from_residual-in_err-put_condition.result c.from_residual-in_err-put_condition.ensures.0 (front_first (value_bytes (value_tree c.args.b.now)) (front_first (value_bytes (value_tree c.args.a.now)) (front_then (0x0b ∷ []) c.in_ok-put_byte.ensures.spelling c.in_err-put_condition.ensures.err)))

pub put_cond-returns-in_err-put_operand : goal.put_cond-returns-in_err-put_operand
unfolding value_bytes
put_cond-returns-in_err-put_operand t c = refused c.from_residual-in_err-put_operand.result c.from_residual-in_err-put_operand.ensures.0 (front_first (value_bytes (value_tree c.args.b.now)) (front_then (0x0b ∷ observation_bytes (observation_tree c.args.observation.now)) (wrote_both _ (0x0b ∷ []) (observation_bytes (observation_tree c.args.observation.now)) c.in_ok-put_byte.ensures.spelling c.in_ok-put_condition.ensures.spelling) c.in_err-put_operand.ensures.err))

pub put_cond-returns : goal.put_cond-returns
unfolding value_bytes
put_cond-returns t c =
    let test = observation_bytes (observation_tree c.args.observation.now) in
    let first = value_bytes (value_tree c.args.a.now) in
    let tested = wrote_both _ (0x0b ∷ []) (observation_bytes (observation_tree c.args.observation.now)) c.in_ok-put_byte.ensures.spelling c.in_ok-put_condition.ensures.spelling in
    fitting c.put_operand-2.result (λ h. (c.in_ok-put_condition.ensures.fits, c.in_ok-put_operand.ensures.fits, h))
    (behind (0x0b ∷ test ++ first) c.put_operand-2.result (wrote_both _ (0x0b ∷ test) first tested c.in_ok-put_operand.ensures.spelling) c.put_operand-2.ensures)

pub put_not-returns-in_err-put_byte : goal.put_not-returns-in_err-put_byte
put_not-returns-in_err-put_byte t c = refused c.from_residual.result c.from_residual.ensures.0 (no_front _ c.in_err-put_byte.ensures.err)

pub put_not-returns : goal.put_not-returns
put_not-returns t c = behind (0x02 ∷ []) c.put_condition.result c.in_ok-put_byte.ensures.spelling c.put_condition.ensures

pub put_conditions-returns-in_err-put_byte : goal.put_conditions-returns-in_err-put_byte
put_conditions-returns-in_err-put_byte t c = refused c.from_residual.result c.from_residual.ensures.0 (no_front _ c.in_err-put_byte.ensures.err)

pub put_conditions-returns-in_err-put_condition : goal.put_conditions-returns-in_err-put_condition
put_conditions-returns-in_err-put_condition t c = refused c.from_residual-in_err-put_condition.result c.from_residual-in_err-put_condition.ensures.0 (front_first (observation_bytes (observation_tree c.args.b.now)) (front_then (c.args.tag ∷ []) c.in_ok-put_byte.ensures.spelling c.in_err-put_condition.ensures.err))

pub put_conditions-returns : goal.put_conditions-returns
put_conditions-returns t c =
    fitting c.put_condition-2.result (λ h. (c.in_ok-put_condition.ensures.fits, h))
    (behind (c.args.tag ∷ observation_bytes (observation_tree c.args.a.now)) c.put_condition-2.result (wrote_both _ (c.args.tag ∷ []) (observation_bytes (observation_tree c.args.a.now)) c.in_ok-put_byte.ensures.spelling c.in_ok-put_condition.ensures.spelling) c.put_condition-2.ensures)

-- ---- all forms

pub put_value-returns-in-AvailableMoney : goal.put_value-returns-in-AvailableMoney
put_value-returns-in-AvailableMoney t c = rw c.in-AvailableMoney.is (form c.put_available.result (ap value_bytes (value_tree-AvailableMoney _ _)) (λ h. value_fits-AvailableMoney _ _ h.0 h.1) c.put_available.ensures)

pub put_value-returns-in-Constant : goal.put_value-returns-in-Constant
put_value-returns-in-Constant t c =
    let d = c.in-Constant in
    let fits : SFits w128 d.number = search rules in
    let constant = subst (λ z. Spells c.put_constant.result (0x01 ∷ number_bytes z) (NumberFits z) c.args.out.now.items c.put_constant.new.out.items) (to_z-of_z w128 d.number fits) c.put_constant.ensures in
    rw d.is (form c.put_constant.result (value_bytes-Constant _) (value_fits-Constant _) constant)

pub put_value-returns-in-NegValue : goal.put_value-returns-in-NegValue
put_value-returns-in-NegValue t c = rw c.in-NegValue.is (form c.put_neg.result (value_bytes-NegValue _) (value_fits-NegValue _) c.put_neg.ensures)

pub put_value-returns-in-AddValue : goal.put_value-returns-in-AddValue
put_value-returns-in-AddValue t c = rw c.in-AddValue.is (form c.put_operands.result (value_bytes-AddValue _ _) (λ h. value_fits-AddValue _ _ h.0 h.1) c.put_operands.ensures)

pub put_value-returns-in-SubValue : goal.put_value-returns-in-SubValue
put_value-returns-in-SubValue t c = rw c.in-SubValue.is (form c.put_operands-in-SubValue.result (value_bytes-SubValue _ _) (λ h. value_fits-SubValue _ _ h.0 h.1) c.put_operands-in-SubValue.ensures)

pub put_value-returns-in-MulValue : goal.put_value-returns-in-MulValue
put_value-returns-in-MulValue t c = rw c.in-MulValue.is (form c.put_operands-in-MulValue.result (value_bytes-MulValue _ _) (λ h. value_fits-MulValue _ _ h.0 h.1) c.put_operands-in-MulValue.ensures)

pub put_value-returns-in-DivValue : goal.put_value-returns-in-DivValue
put_value-returns-in-DivValue t c = rw c.in-DivValue.is (form c.put_operands-in-DivValue.result (value_bytes-DivValue _ _) (λ h. value_fits-DivValue _ _ h.0 h.1) c.put_operands-in-DivValue.ensures)

pub put_value-returns-in-ChoiceValue : goal.put_value-returns-in-ChoiceValue
put_value-returns-in-ChoiceValue t c = rw c.in-ChoiceValue.is (form c.put_chosen.result (value_bytes-ChoiceValue _) (value_fits-ChoiceValue _) c.put_chosen.ensures)

pub put_value-returns-in-TimeIntervalStart : goal.put_value-returns-in-TimeIntervalStart
put_value-returns-in-TimeIntervalStart t c = rw c.in-TimeIntervalStart.is (form c.put_byte.result value_bytes-TimeIntervalStart (λ _. value_fits-TimeIntervalStart) (a_byte 0x08 c.put_byte.result c.put_byte.ensures.spelling c.put_byte.ensures.err))

pub put_value-returns-in-TimeIntervalEnd : goal.put_value-returns-in-TimeIntervalEnd
put_value-returns-in-TimeIntervalEnd t c = rw c.in-TimeIntervalEnd.is (form c.put_byte-in-TimeIntervalEnd.result value_bytes-TimeIntervalEnd (λ _. value_fits-TimeIntervalEnd) (a_byte 0x09 c.put_byte-in-TimeIntervalEnd.result c.put_byte-in-TimeIntervalEnd.ensures.spelling c.put_byte-in-TimeIntervalEnd.ensures.err))

pub put_value-returns-in-UseValue : goal.put_value-returns-in-UseValue
put_value-returns-in-UseValue t c = rw c.in-UseValue.is (form c.put_use.result (value_bytes-UseValue _) (value_fits-UseValue _) c.put_use.ensures)

pub put_value-returns-in-Cond : goal.put_value-returns-in-Cond
put_value-returns-in-Cond t c = rw c.in-Cond.is (form c.put_cond.result (ap value_bytes (value_tree-Cond _ _ _)) (λ h. value_fits-Cond _ _ _ h.0 h.1 h.2) c.put_cond.ensures)

pub put_observation-returns-in-AndObs : goal.put_observation-returns-in-AndObs
put_observation-returns-in-AndObs t c = rw c.in-AndObs.is (form c.put_conditions.result (observation_bytes-AndObs _ _) (λ h. observation_fits-AndObs _ _ h.0 h.1) c.put_conditions.ensures)

pub put_observation-returns-in-OrObs : goal.put_observation-returns-in-OrObs
put_observation-returns-in-OrObs t c = rw c.in-OrObs.is (form c.put_conditions-in-OrObs.result (observation_bytes-OrObs _ _) (λ h. observation_fits-OrObs _ _ h.0 h.1) c.put_conditions-in-OrObs.ensures)

pub put_observation-returns-in-NotObs : goal.put_observation-returns-in-NotObs
put_observation-returns-in-NotObs t c = rw c.in-NotObs.is (form c.put_not.result (observation_bytes-NotObs _) (observation_fits-NotObs _) c.put_not.ensures)

pub put_observation-returns-in-ChoseSomething : goal.put_observation-returns-in-ChoseSomething
put_observation-returns-in-ChoseSomething t c = rw c.in-ChoseSomething.is (form c.put_chosen.result (observation_bytes-ChoseSomething _) (observation_fits-ChoseSomething _) c.put_chosen.ensures)

pub put_observation-returns-in-ValueGE : goal.put_observation-returns-in-ValueGE
put_observation-returns-in-ValueGE t c = rw c.in-ValueGE.is (form c.put_operands.result (observation_bytes-ValueGE _ _) (λ h. observation_fits-ValueGE _ _ h.0 h.1) c.put_operands.ensures)

pub put_observation-returns-in-ValueGT : goal.put_observation-returns-in-ValueGT
put_observation-returns-in-ValueGT t c = rw c.in-ValueGT.is (form c.put_operands-in-ValueGT.result (observation_bytes-ValueGT _ _) (λ h. observation_fits-ValueGT _ _ h.0 h.1) c.put_operands-in-ValueGT.ensures)

pub put_observation-returns-in-ValueLT : goal.put_observation-returns-in-ValueLT
put_observation-returns-in-ValueLT t c = rw c.in-ValueLT.is (form c.put_operands-in-ValueLT.result (observation_bytes-ValueLT _ _) (λ h. observation_fits-ValueLT _ _ h.0 h.1) c.put_operands-in-ValueLT.ensures)

pub put_observation-returns-in-ValueLE : goal.put_observation-returns-in-ValueLE
put_observation-returns-in-ValueLE t c = rw c.in-ValueLE.is (form c.put_operands-in-ValueLE.result (observation_bytes-ValueLE _ _) (λ h. observation_fits-ValueLE _ _ h.0 h.1) c.put_operands-in-ValueLE.ensures)

pub put_observation-returns-in-ValueEQ : goal.put_observation-returns-in-ValueEQ
put_observation-returns-in-ValueEQ t c = rw c.in-ValueEQ.is (form c.put_operands-in-ValueEQ.result (observation_bytes-ValueEQ _ _) (λ h. observation_fits-ValueEQ _ _ h.0 h.1) c.put_operands-in-ValueEQ.ensures)

pub put_observation-returns-in-TrueObs : goal.put_observation-returns-in-TrueObs
put_observation-returns-in-TrueObs t c = rw c.in-TrueObs.is (form c.put_byte.result observation_bytes-TrueObs (λ _. observation_fits-TrueObs) (a_byte 0x09 c.put_byte.result c.put_byte.ensures.spelling c.put_byte.ensures.err))

pub put_observation-returns-in-FalseObs : goal.put_observation-returns-in-FalseObs
put_observation-returns-in-FalseObs t c = rw c.in-FalseObs.is (form c.put_byte-in-FalseObs.result observation_bytes-FalseObs (λ _. observation_fits-FalseObs) (a_byte 0x0a c.put_byte-in-FalseObs.result c.put_byte-in-FalseObs.ensures.spelling c.put_byte-in-FalseObs.ensures.err))
