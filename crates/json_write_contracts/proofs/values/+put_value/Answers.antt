use Rattle.std.proofs.Common.{◌&&◌, subst, OnOk, rules}
use Rattle.contract.specs.Tree.{value_tree, observation_tree}
use Rattle.json_write_contracts.specs.Symbols.{ValueSymbols, ObservationSymbols}
use Rattle.json_write_contracts.specs.Tokens.{PutsFitting}
use Rattle.json_write_contracts.specs.PutsSupport.{AddsValue, AddsObservation}
use Rattle.json_write_contracts.specs.WrittenNames.{number_fits, number_json}
use Rattle.json_write_contracts.proofs.ListedValues.{value_fits-AvailableMoney, value_json-AvailableMoney, value_fits-Constant, value_json-Constant, value_fits-NegValue, value_json-NegValue, value_fits-AddValue, value_json-AddValue, value_fits-SubValue, value_json-SubValue, value_fits-MulValue, value_json-MulValue, value_fits-DivValue, value_json-DivValue, value_fits-ChoiceValue, value_json-ChoiceValue, value_fits-TimeIntervalStart, value_json-TimeIntervalStart, value_fits-TimeIntervalEnd, value_json-TimeIntervalEnd, value_fits-UseValue, value_json-UseValue, value_fits-Cond, value_json-Cond, observation_fits-AndObs, observation_json-AndObs, observation_fits-OrObs, observation_json-OrObs, observation_fits-NotObs, observation_json-NotObs, observation_fits-ChoseSomething, observation_json-ChoseSomething, observation_fits-ValueGE, observation_json-ValueGE, observation_fits-ValueGT, observation_json-ValueGT, observation_fits-ValueLT, observation_json-ValueLT, observation_fits-ValueLE, observation_json-ValueLE, observation_fits-ValueEQ, observation_json-ValueEQ, observation_fits-TrueObs, observation_json-TrueObs, observation_fits-FalseObs, observation_json-FalseObs}
use Rattle.json_write_contracts.proofs.SymbolsOf.{value-symbols-AvailableMoney, value-symbols-Constant, value-symbols-NegValue, value-symbols-AddValue, value-symbols-SubValue, value-symbols-MulValue, value-symbols-DivValue, value-symbols-ChoiceValue, value-symbols-TimeIntervalStart, value-symbols-TimeIntervalEnd, value-symbols-UseValue, value-symbols-Cond, observation-symbols-AndObs, observation-symbols-OrObs, observation-symbols-NotObs, observation-symbols-ChoseSomething, observation-symbols-ValueGE, observation-symbols-ValueGT, observation-symbols-ValueLT, observation-symbols-ValueLE, observation-symbols-ValueEQ, observation-symbols-TrueObs, observation-symbols-FalseObs}
use Rattle.json_write_contracts.proofs.AddsLaws.{then, wrote, refused, stopped, left, after, flagged, held, failed, mapped, both, all_three}
use Rattle.json_write_contracts.proofs.values.+put_value.Goals as goal

pub value_member-returns-clause-put : goal.value_member-returns-clause-put
value_member-returns-clause-put t c = subst (λ v. AddsValue c.put_value.result c.args.out.now c.put_value.new.out c.args.key.now (value_tree v)) c.get.ensures (after _ _ _ c.put_value.result (wrote c.in_ok-key.ensures) c.put_value.ensures.put)

pub value_member-returns-clause-err : goal.value_member-returns-clause-err
value_member-returns-clause-err t c = left _ c.put_value.result (wrote c.in_ok-key.ensures) c.put_value.ensures.err

pub value_member-returns-in_err-key-clause-err : goal.value_member-returns-in_err-key-clause-err
value_member-returns-in_err-key-clause-err t c = failed c.from_residual.result (refused c.in_err-key.ensures)

pub value_member-returns-clause-symbols : goal.value_member-returns-clause-symbols
value_member-returns-clause-symbols t c = subst (λ v. OnOk c.put_value.result (ValueSymbols (value_tree v))) c.get.ensures c.put_value.ensures.symbols

pub observation_member-returns-clause-put : goal.observation_member-returns-clause-put
observation_member-returns-clause-put t c = subst (λ v. AddsObservation c.put_observation.result c.args.out.now c.put_observation.new.out c.args.key.now (observation_tree v)) c.get.ensures (after _ _ _ c.put_observation.result (wrote c.in_ok-key.ensures) c.put_observation.ensures.put)

pub observation_member-returns-clause-err : goal.observation_member-returns-clause-err
observation_member-returns-clause-err t c = left _ c.put_observation.result (wrote c.in_ok-key.ensures) c.put_observation.ensures.err

pub observation_member-returns-in_err-key-clause-err : goal.observation_member-returns-in_err-key-clause-err
observation_member-returns-in_err-key-clause-err t c = failed c.from_residual.result (refused c.in_err-key.ensures)

pub observation_member-returns-clause-symbols : goal.observation_member-returns-clause-symbols
observation_member-returns-clause-symbols t c = subst (λ v. OnOk c.put_observation.result (ObservationSymbols (observation_tree v))) c.get.ensures c.put_observation.ensures.symbols

pub one_value-returns-clause-put : goal.one_value-returns-clause-put
one_value-returns-clause-put t c = flagged _ _ _ c.end_object.result c.in_ok-value_member.ensures.put.0 (after _ _ _ c.end_object.result (wrote c.in_ok-begin_object.ensures) (after _ _ _ c.end_object.result c.in_ok-value_member.ensures.put.1 c.end_object.ensures.put))

pub one_value-returns-clause-err : goal.one_value-returns-clause-err
one_value-returns-clause-err t c = left _ c.end_object.result (wrote c.in_ok-begin_object.ensures) (left _ c.end_object.result c.in_ok-value_member.ensures.put.1 c.end_object.ensures.err)

pub one_value-returns-in_err-begin_object-clause-err : goal.one_value-returns-in_err-begin_object-clause-err
one_value-returns-in_err-begin_object-clause-err t c = failed c.from_residual.result (refused c.in_err-begin_object.ensures)

pub one_value-returns-in_err-value_member-clause-err : goal.one_value-returns-in_err-value_member-clause-err
one_value-returns-in_err-value_member-clause-err t c = stopped c.from_residual-in_err-value_member.result (wrote c.in_ok-begin_object.ensures) c.in_err-value_member.ensures.err

pub one_value-returns-clause-symbols : goal.one_value-returns-clause-symbols
one_value-returns-clause-symbols t c = held c.end_object.result c.in_ok-value_member.ensures.symbols

pub one_observation-returns-clause-put : goal.one_observation-returns-clause-put
one_observation-returns-clause-put t c = flagged _ _ _ c.end_object.result c.in_ok-observation_member.ensures.put.0 (after _ _ _ c.end_object.result (wrote c.in_ok-begin_object.ensures) (after _ _ _ c.end_object.result c.in_ok-observation_member.ensures.put.1 c.end_object.ensures.put))

pub one_observation-returns-clause-err : goal.one_observation-returns-clause-err
one_observation-returns-clause-err t c = left _ c.end_object.result (wrote c.in_ok-begin_object.ensures) (left _ c.end_object.result c.in_ok-observation_member.ensures.put.1 c.end_object.ensures.err)

pub one_observation-returns-in_err-begin_object-clause-err : goal.one_observation-returns-in_err-begin_object-clause-err
one_observation-returns-in_err-begin_object-clause-err t c = failed c.from_residual.result (refused c.in_err-begin_object.ensures)

pub one_observation-returns-in_err-observation_member-clause-err : goal.one_observation-returns-in_err-observation_member-clause-err
one_observation-returns-in_err-observation_member-clause-err t c = stopped c.from_residual-in_err-observation_member.result (wrote c.in_ok-begin_object.ensures) c.in_err-observation_member.ensures.err

pub one_observation-returns-clause-symbols : goal.one_observation-returns-clause-symbols
one_observation-returns-clause-symbols t c = held c.end_object.result c.in_ok-observation_member.ensures.symbols

pub two_values-returns-clause-put : goal.two_values-returns-clause-put
two_values-returns-clause-put t c = flagged _ _ _ c.end_object.result (λ j. c.in_ok-value_member.ensures.put.0 j && c.in_ok-value_member-2.ensures.put.0 j) (after _ _ _ c.end_object.result (wrote c.in_ok-begin_object.ensures) (after _ _ _ c.end_object.result c.in_ok-value_member.ensures.put.1 (after _ _ _ c.end_object.result c.in_ok-value_member-2.ensures.put.1 c.end_object.ensures.put)))

pub two_values-returns-clause-err : goal.two_values-returns-clause-err
two_values-returns-clause-err t c = left _ c.end_object.result (wrote c.in_ok-begin_object.ensures) (left _ c.end_object.result c.in_ok-value_member.ensures.put.1 (left _ c.end_object.result c.in_ok-value_member-2.ensures.put.1 c.end_object.ensures.err))

pub two_values-returns-in_err-begin_object-clause-err : goal.two_values-returns-in_err-begin_object-clause-err
two_values-returns-in_err-begin_object-clause-err t c = failed c.from_residual.result (refused c.in_err-begin_object.ensures)

pub two_values-returns-in_err-value_member-clause-err : goal.two_values-returns-in_err-value_member-clause-err
two_values-returns-in_err-value_member-clause-err t c = stopped c.from_residual-in_err-value_member.result (wrote c.in_ok-begin_object.ensures) c.in_err-value_member.ensures.err

pub two_values-returns-in_err-value_member-2-clause-err : goal.two_values-returns-in_err-value_member-2-clause-err
two_values-returns-in_err-value_member-2-clause-err t c = stopped c.from_residual-in_err-value_member-2.result (then (wrote c.in_ok-begin_object.ensures) c.in_ok-value_member.ensures.put.1) c.in_err-value_member-2.ensures.err

pub two_values-returns-clause-first_symbols : goal.two_values-returns-clause-first_symbols
two_values-returns-clause-first_symbols t c = held c.end_object.result c.in_ok-value_member.ensures.symbols

pub two_values-returns-clause-second_symbols : goal.two_values-returns-clause-second_symbols
two_values-returns-clause-second_symbols t c = held c.end_object.result c.in_ok-value_member-2.ensures.symbols

pub two_observations-returns-clause-put : goal.two_observations-returns-clause-put
two_observations-returns-clause-put t c = flagged _ _ _ c.end_object.result (λ j. c.in_ok-observation_member.ensures.put.0 j && c.in_ok-observation_member-2.ensures.put.0 j) (after _ _ _ c.end_object.result (wrote c.in_ok-begin_object.ensures) (after _ _ _ c.end_object.result c.in_ok-observation_member.ensures.put.1 (after _ _ _ c.end_object.result c.in_ok-observation_member-2.ensures.put.1 c.end_object.ensures.put)))

pub two_observations-returns-clause-err : goal.two_observations-returns-clause-err
two_observations-returns-clause-err t c = left _ c.end_object.result (wrote c.in_ok-begin_object.ensures) (left _ c.end_object.result c.in_ok-observation_member.ensures.put.1 (left _ c.end_object.result c.in_ok-observation_member-2.ensures.put.1 c.end_object.ensures.err))

pub two_observations-returns-in_err-begin_object-clause-err : goal.two_observations-returns-in_err-begin_object-clause-err
two_observations-returns-in_err-begin_object-clause-err t c = failed c.from_residual.result (refused c.in_err-begin_object.ensures)

pub two_observations-returns-in_err-observation_member-clause-err : goal.two_observations-returns-in_err-observation_member-clause-err
two_observations-returns-in_err-observation_member-clause-err t c = stopped c.from_residual-in_err-observation_member.result (wrote c.in_ok-begin_object.ensures) c.in_err-observation_member.ensures.err

pub two_observations-returns-in_err-observation_member-2-clause-err : goal.two_observations-returns-in_err-observation_member-2-clause-err
two_observations-returns-in_err-observation_member-2-clause-err t c = stopped c.from_residual-in_err-observation_member-2.result (then (wrote c.in_ok-begin_object.ensures) c.in_ok-observation_member.ensures.put.1) c.in_err-observation_member-2.ensures.err

pub two_observations-returns-clause-first_symbols : goal.two_observations-returns-clause-first_symbols
two_observations-returns-clause-first_symbols t c = held c.end_object.result c.in_ok-observation_member.ensures.symbols

pub two_observations-returns-clause-second_symbols : goal.two_observations-returns-clause-second_symbols
two_observations-returns-clause-second_symbols t c = held c.end_object.result c.in_ok-observation_member-2.ensures.symbols

pub put_cond-returns-clause-put : goal.put_cond-returns-clause-put
put_cond-returns-clause-put t c = flagged _ _ _ c.end_object.result (λ j. c.in_ok-observation_member.ensures.put.0 j && c.in_ok-value_member-2.ensures.put.0 j && c.in_ok-value_member.ensures.put.0 j) (after _ _ _ c.end_object.result (wrote c.in_ok-begin_object.ensures) (after _ _ _ c.end_object.result c.in_ok-value_member.ensures.put.1 (after _ _ _ c.end_object.result c.in_ok-observation_member.ensures.put.1 (after _ _ _ c.end_object.result c.in_ok-value_member-2.ensures.put.1 c.end_object.ensures.put))))

pub put_cond-returns-clause-err : goal.put_cond-returns-clause-err
put_cond-returns-clause-err t c = left _ c.end_object.result (wrote c.in_ok-begin_object.ensures) (left _ c.end_object.result c.in_ok-value_member.ensures.put.1 (left _ c.end_object.result c.in_ok-observation_member.ensures.put.1 (left _ c.end_object.result c.in_ok-value_member-2.ensures.put.1 c.end_object.ensures.err)))

pub put_cond-returns-in_err-begin_object-clause-err : goal.put_cond-returns-in_err-begin_object-clause-err
put_cond-returns-in_err-begin_object-clause-err t c = failed c.from_residual.result (refused c.in_err-begin_object.ensures)

pub put_cond-returns-in_err-value_member-clause-err : goal.put_cond-returns-in_err-value_member-clause-err
put_cond-returns-in_err-value_member-clause-err t c = stopped c.from_residual-in_err-value_member.result (wrote c.in_ok-begin_object.ensures) c.in_err-value_member.ensures.err

pub put_cond-returns-in_err-observation_member-clause-err : goal.put_cond-returns-in_err-observation_member-clause-err
put_cond-returns-in_err-observation_member-clause-err t c = stopped c.from_residual-in_err-observation_member.result (then (wrote c.in_ok-begin_object.ensures) c.in_ok-value_member.ensures.put.1) c.in_err-observation_member.ensures.err

pub put_cond-returns-in_err-value_member-2-clause-err : goal.put_cond-returns-in_err-value_member-2-clause-err
put_cond-returns-in_err-value_member-2-clause-err t c = stopped c.from_residual-in_err-value_member-2.result (then (wrote c.in_ok-begin_object.ensures) (then c.in_ok-value_member.ensures.put.1 c.in_ok-observation_member.ensures.put.1)) c.in_err-value_member-2.ensures.err

pub put_cond-returns-clause-condition_symbols : goal.put_cond-returns-clause-condition_symbols
put_cond-returns-clause-condition_symbols t c = held c.end_object.result c.in_ok-observation_member.ensures.symbols

pub put_cond-returns-clause-then_symbols : goal.put_cond-returns-clause-then_symbols
put_cond-returns-clause-then_symbols t c = held c.end_object.result c.in_ok-value_member-2.ensures.symbols

pub put_cond-returns-clause-otherwise_symbols : goal.put_cond-returns-clause-otherwise_symbols
put_cond-returns-clause-otherwise_symbols t c = held c.end_object.result c.in_ok-value_member.ensures.symbols

pub put_value-returns-in-AvailableMoney-clause-put : goal.put_value-returns-in-AvailableMoney-clause-put
put_value-returns-in-AvailableMoney-clause-put t c = rw (c.in-AvailableMoney.is, value_fits-AvailableMoney, value_json-AvailableMoney) c.put_available.ensures.put

pub put_value-returns-in-AvailableMoney-clause-symbols : goal.put_value-returns-in-AvailableMoney-clause-symbols
put_value-returns-in-AvailableMoney-clause-symbols t c = rw c.in-AvailableMoney.is (mapped c.put_available.result (value-symbols-AvailableMoney _ _) c.put_available.ensures.symbol)

pub put_value-returns-in-Constant-clause-put : goal.put_value-returns-in-Constant-clause-put
put_value-returns-in-Constant-clause-put t c =
    let p : PutsFitting c.put_number.result c.args.out.now c.put_number.new.out (number_fits c.in-Constant.n) (number_json c.in-Constant.n) = search rules in
    rw (c.in-Constant.is, value_fits-Constant, value_json-Constant) p

pub put_value-returns-in-Constant-clause-symbols : goal.put_value-returns-in-Constant-clause-symbols
put_value-returns-in-Constant-clause-symbols t c = rw c.in-Constant.is (held c.put_number.result (value-symbols-Constant _))

pub put_value-returns-in-NegValue-clause-put : goal.put_value-returns-in-NegValue-clause-put
put_value-returns-in-NegValue-clause-put t c = rw (c.in-NegValue.is, value_fits-NegValue, value_json-NegValue) c.one_value.ensures.put

pub put_value-returns-in-NegValue-clause-symbols : goal.put_value-returns-in-NegValue-clause-symbols
put_value-returns-in-NegValue-clause-symbols t c = rw c.in-NegValue.is (mapped c.one_value.result (value-symbols-NegValue _) c.one_value.ensures.symbols)

pub put_value-returns-in-AddValue-clause-put : goal.put_value-returns-in-AddValue-clause-put
put_value-returns-in-AddValue-clause-put t c = rw (c.in-AddValue.is, value_fits-AddValue, value_json-AddValue) c.two_values.ensures.put

pub put_value-returns-in-AddValue-clause-symbols : goal.put_value-returns-in-AddValue-clause-symbols
put_value-returns-in-AddValue-clause-symbols t c = rw c.in-AddValue.is (both c.two_values.result (value-symbols-AddValue _ _) c.two_values.ensures.first_symbols c.two_values.ensures.second_symbols)

pub put_value-returns-in-MulValue-clause-put : goal.put_value-returns-in-MulValue-clause-put
put_value-returns-in-MulValue-clause-put t c = rw (c.in-MulValue.is, value_fits-MulValue, value_json-MulValue) c.two_values-in-MulValue.ensures.put

pub put_value-returns-in-MulValue-clause-symbols : goal.put_value-returns-in-MulValue-clause-symbols
put_value-returns-in-MulValue-clause-symbols t c = rw c.in-MulValue.is (both c.two_values-in-MulValue.result (value-symbols-MulValue _ _) c.two_values-in-MulValue.ensures.first_symbols c.two_values-in-MulValue.ensures.second_symbols)

pub put_value-returns-in-SubValue-clause-put : goal.put_value-returns-in-SubValue-clause-put
put_value-returns-in-SubValue-clause-put t c = rw (c.in-SubValue.is, value_fits-SubValue, value_json-SubValue) c.two_values-in-SubValue.ensures.put

pub put_value-returns-in-SubValue-clause-symbols : goal.put_value-returns-in-SubValue-clause-symbols
put_value-returns-in-SubValue-clause-symbols t c = rw c.in-SubValue.is (both c.two_values-in-SubValue.result (value-symbols-SubValue _ _) c.two_values-in-SubValue.ensures.second_symbols c.two_values-in-SubValue.ensures.first_symbols)

pub put_value-returns-in-DivValue-clause-put : goal.put_value-returns-in-DivValue-clause-put
put_value-returns-in-DivValue-clause-put t c = rw (c.in-DivValue.is, value_fits-DivValue, value_json-DivValue) c.two_values-in-DivValue.ensures.put

pub put_value-returns-in-DivValue-clause-symbols : goal.put_value-returns-in-DivValue-clause-symbols
put_value-returns-in-DivValue-clause-symbols t c = rw c.in-DivValue.is (both c.two_values-in-DivValue.result (value-symbols-DivValue _ _) c.two_values-in-DivValue.ensures.second_symbols c.two_values-in-DivValue.ensures.first_symbols)

pub put_value-returns-in-ChoiceValue-clause-put : goal.put_value-returns-in-ChoiceValue-clause-put
put_value-returns-in-ChoiceValue-clause-put t c = rw (c.in-ChoiceValue.is, value_fits-ChoiceValue, value_json-ChoiceValue) c.put_one.ensures.put

pub put_value-returns-in-ChoiceValue-clause-symbols : goal.put_value-returns-in-ChoiceValue-clause-symbols
put_value-returns-in-ChoiceValue-clause-symbols t c = rw c.in-ChoiceValue.is (held c.put_one.result (value-symbols-ChoiceValue _))

pub put_value-returns-in-TimeIntervalStart-clause-put : goal.put_value-returns-in-TimeIntervalStart-clause-put
put_value-returns-in-TimeIntervalStart-clause-put t c = rw (c.in-TimeIntervalStart.is, value_fits-TimeIntervalStart, value_json-TimeIntervalStart) c.put_term.ensures.put

pub put_value-returns-in-TimeIntervalStart-clause-symbols : goal.put_value-returns-in-TimeIntervalStart-clause-symbols
put_value-returns-in-TimeIntervalStart-clause-symbols t c = rw c.in-TimeIntervalStart.is (held c.put_term.result value-symbols-TimeIntervalStart)

pub put_value-returns-in-TimeIntervalEnd-clause-put : goal.put_value-returns-in-TimeIntervalEnd-clause-put
put_value-returns-in-TimeIntervalEnd-clause-put t c = rw (c.in-TimeIntervalEnd.is, value_fits-TimeIntervalEnd, value_json-TimeIntervalEnd) c.put_term-in-TimeIntervalEnd.ensures.put

pub put_value-returns-in-TimeIntervalEnd-clause-symbols : goal.put_value-returns-in-TimeIntervalEnd-clause-symbols
put_value-returns-in-TimeIntervalEnd-clause-symbols t c = rw c.in-TimeIntervalEnd.is (held c.put_term-in-TimeIntervalEnd.result value-symbols-TimeIntervalEnd)

pub put_value-returns-in-UseValue-clause-put : goal.put_value-returns-in-UseValue-clause-put
put_value-returns-in-UseValue-clause-put t c = rw (c.in-UseValue.is, value_fits-UseValue, value_json-UseValue) c.put_one-in-UseValue.ensures.put

pub put_value-returns-in-UseValue-clause-symbols : goal.put_value-returns-in-UseValue-clause-symbols
put_value-returns-in-UseValue-clause-symbols t c = rw c.in-UseValue.is (held c.put_one-in-UseValue.result (value-symbols-UseValue _))

pub put_value-returns-in-Cond-clause-put : goal.put_value-returns-in-Cond-clause-put
put_value-returns-in-Cond-clause-put t c = rw (c.in-Cond.is, value_fits-Cond, value_json-Cond) c.put_cond.ensures.put

pub put_value-returns-in-Cond-clause-symbols : goal.put_value-returns-in-Cond-clause-symbols
put_value-returns-in-Cond-clause-symbols t c = rw c.in-Cond.is (all_three c.put_cond.result (value-symbols-Cond _ _ _) c.put_cond.ensures.condition_symbols c.put_cond.ensures.then_symbols c.put_cond.ensures.otherwise_symbols)

pub put_observation-returns-in-AndObs-clause-put : goal.put_observation-returns-in-AndObs-clause-put
put_observation-returns-in-AndObs-clause-put t c = rw (c.in-AndObs.is, observation_fits-AndObs, observation_json-AndObs) c.two_observations.ensures.put

pub put_observation-returns-in-AndObs-clause-symbols : goal.put_observation-returns-in-AndObs-clause-symbols
put_observation-returns-in-AndObs-clause-symbols t c = rw c.in-AndObs.is (both c.two_observations.result (observation-symbols-AndObs _ _) c.two_observations.ensures.second_symbols c.two_observations.ensures.first_symbols)

pub put_observation-returns-in-OrObs-clause-put : goal.put_observation-returns-in-OrObs-clause-put
put_observation-returns-in-OrObs-clause-put t c = rw (c.in-OrObs.is, observation_fits-OrObs, observation_json-OrObs) c.two_observations-in-OrObs.ensures.put

pub put_observation-returns-in-OrObs-clause-symbols : goal.put_observation-returns-in-OrObs-clause-symbols
put_observation-returns-in-OrObs-clause-symbols t c = rw c.in-OrObs.is (both c.two_observations-in-OrObs.result (observation-symbols-OrObs _ _) c.two_observations-in-OrObs.ensures.first_symbols c.two_observations-in-OrObs.ensures.second_symbols)

pub put_observation-returns-in-NotObs-clause-put : goal.put_observation-returns-in-NotObs-clause-put
put_observation-returns-in-NotObs-clause-put t c = rw (c.in-NotObs.is, observation_fits-NotObs, observation_json-NotObs) c.one_observation.ensures.put

pub put_observation-returns-in-NotObs-clause-symbols : goal.put_observation-returns-in-NotObs-clause-symbols
put_observation-returns-in-NotObs-clause-symbols t c = rw c.in-NotObs.is (mapped c.one_observation.result (observation-symbols-NotObs _) c.one_observation.ensures.symbols)

pub put_observation-returns-in-ChoseSomething-clause-put : goal.put_observation-returns-in-ChoseSomething-clause-put
put_observation-returns-in-ChoseSomething-clause-put t c = rw (c.in-ChoseSomething.is, observation_fits-ChoseSomething, observation_json-ChoseSomething) c.put_one.ensures.put

pub put_observation-returns-in-ChoseSomething-clause-symbols : goal.put_observation-returns-in-ChoseSomething-clause-symbols
put_observation-returns-in-ChoseSomething-clause-symbols t c = rw c.in-ChoseSomething.is (held c.put_one.result (observation-symbols-ChoseSomething _))

pub put_observation-returns-in-ValueGE-clause-put : goal.put_observation-returns-in-ValueGE-clause-put
put_observation-returns-in-ValueGE-clause-put t c = rw (c.in-ValueGE.is, observation_fits-ValueGE, observation_json-ValueGE) c.two_values.ensures.put

pub put_observation-returns-in-ValueGE-clause-symbols : goal.put_observation-returns-in-ValueGE-clause-symbols
put_observation-returns-in-ValueGE-clause-symbols t c = rw c.in-ValueGE.is (both c.two_values.result (observation-symbols-ValueGE _ _) c.two_values.ensures.second_symbols c.two_values.ensures.first_symbols)

pub put_observation-returns-in-ValueGT-clause-put : goal.put_observation-returns-in-ValueGT-clause-put
put_observation-returns-in-ValueGT-clause-put t c = rw (c.in-ValueGT.is, observation_fits-ValueGT, observation_json-ValueGT) c.two_values-in-ValueGT.ensures.put

pub put_observation-returns-in-ValueGT-clause-symbols : goal.put_observation-returns-in-ValueGT-clause-symbols
put_observation-returns-in-ValueGT-clause-symbols t c = rw c.in-ValueGT.is (both c.two_values-in-ValueGT.result (observation-symbols-ValueGT _ _) c.two_values-in-ValueGT.ensures.second_symbols c.two_values-in-ValueGT.ensures.first_symbols)

pub put_observation-returns-in-ValueLT-clause-put : goal.put_observation-returns-in-ValueLT-clause-put
put_observation-returns-in-ValueLT-clause-put t c = rw (c.in-ValueLT.is, observation_fits-ValueLT, observation_json-ValueLT) c.two_values-in-ValueLT.ensures.put

pub put_observation-returns-in-ValueLT-clause-symbols : goal.put_observation-returns-in-ValueLT-clause-symbols
put_observation-returns-in-ValueLT-clause-symbols t c = rw c.in-ValueLT.is (both c.two_values-in-ValueLT.result (observation-symbols-ValueLT _ _) c.two_values-in-ValueLT.ensures.second_symbols c.two_values-in-ValueLT.ensures.first_symbols)

pub put_observation-returns-in-ValueLE-clause-put : goal.put_observation-returns-in-ValueLE-clause-put
put_observation-returns-in-ValueLE-clause-put t c = rw (c.in-ValueLE.is, observation_fits-ValueLE, observation_json-ValueLE) c.two_values-in-ValueLE.ensures.put

pub put_observation-returns-in-ValueLE-clause-symbols : goal.put_observation-returns-in-ValueLE-clause-symbols
put_observation-returns-in-ValueLE-clause-symbols t c = rw c.in-ValueLE.is (both c.two_values-in-ValueLE.result (observation-symbols-ValueLE _ _) c.two_values-in-ValueLE.ensures.second_symbols c.two_values-in-ValueLE.ensures.first_symbols)

pub put_observation-returns-in-ValueEQ-clause-put : goal.put_observation-returns-in-ValueEQ-clause-put
put_observation-returns-in-ValueEQ-clause-put t c = rw (c.in-ValueEQ.is, observation_fits-ValueEQ, observation_json-ValueEQ) c.two_values-in-ValueEQ.ensures.put

pub put_observation-returns-in-ValueEQ-clause-symbols : goal.put_observation-returns-in-ValueEQ-clause-symbols
put_observation-returns-in-ValueEQ-clause-symbols t c = rw c.in-ValueEQ.is (both c.two_values-in-ValueEQ.result (observation-symbols-ValueEQ _ _) c.two_values-in-ValueEQ.ensures.second_symbols c.two_values-in-ValueEQ.ensures.first_symbols)

pub put_observation-returns-in-TrueObs-clause-put : goal.put_observation-returns-in-TrueObs-clause-put
put_observation-returns-in-TrueObs-clause-put t c = rw (c.in-TrueObs.is, observation_fits-TrueObs, observation_json-TrueObs) c.put_truth.ensures.put

pub put_observation-returns-in-TrueObs-clause-symbols : goal.put_observation-returns-in-TrueObs-clause-symbols
put_observation-returns-in-TrueObs-clause-symbols t c = rw c.in-TrueObs.is (held c.put_truth.result observation-symbols-TrueObs)

pub put_observation-returns-in-FalseObs-clause-put : goal.put_observation-returns-in-FalseObs-clause-put
put_observation-returns-in-FalseObs-clause-put t c = rw (c.in-FalseObs.is, observation_fits-FalseObs, observation_json-FalseObs) c.put_truth-in-FalseObs.ensures.put

pub put_observation-returns-in-FalseObs-clause-symbols : goal.put_observation-returns-in-FalseObs-clause-symbols
put_observation-returns-in-FalseObs-clause-symbols t c = rw c.in-FalseObs.is (held c.put_truth-in-FalseObs.result observation-symbols-FalseObs)
