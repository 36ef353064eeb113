use Rattle.std.proofs.Common.{◌≡◌, true, ◌&&◌, map, sym, subst, ◌∙◌, OnOk, rules, arith}
use Rattle.std.proofs.lemmas.Grind.{common_steps}
use Rattle.std.specs.List.{list_all}
use Rattle.serde_json.specs.Data.{array}
use Rattle.serde_json.specs.View.{items_of}
use Rattle.contract.specs.Tree.{contract_tree, case_tree, case_trees}
use Rattle.contract.proofs.TreeLaws.{case_tree-parts}
use Rattle.json_write_contracts.specs.Symbols.{ContractSymbols}
use Rattle.json_write_contracts.specs.Tokens.{Adds, PutsFitting, data_tokens}
use Rattle.json_write_contracts.specs.Puts.{PutsCase}
use Rattle.json_write_contracts.specs.PutsSupport.{AddsContract}
use Rattle.json_write_contracts.specs.WrittenNames.{time_fits}
use Rattle.json_write_contracts.specs.WrittenContract.{case_json, cases_fit, case_fits}
use Rattle.json_write_contracts.proofs.ListedContract.{cases_json-listed, cases_fit-listed, contract_fits-Close, contract_json-Close, contract_fits-Pay, contract_json-Pay, contract_fits-If, contract_json-If, contract_fits-When, contract_json-When, contract_fits-Let, contract_json-Let, contract_fits-Assert, contract_json-Assert}
use Rattle.json_write_contracts.proofs.ListedLaws.{listed, closed, all-more, all-over}
use Rattle.json_write_contracts.proofs.SymbolsOf.{contract-symbols-Close, contract-symbols-Pay, contract-symbols-If, contract-symbols-When, contract-symbols-Let, contract-symbols-Assert, case-symbols, symbols-more, symbols-over}
use Rattle.json_write_contracts.proofs.AddsLaws.{then, wrote, refused, stopped, left, after, flagged, held, failed, both, all_three}
use Rattle.json_write_contracts.proofs.contracts.+put_contract.Goals as goal

pub contract_member-returns-clause-put : goal.contract_member-returns-clause-put
contract_member-returns-clause-put t c = subst (λ v. AddsContract c.put_contract.result c.args.out.now c.put_contract.new.out c.args.key.now (contract_tree v)) c.get.ensures (after _ _ _ c.put_contract.result (wrote c.in_ok-key.ensures) c.put_contract.ensures.put)

pub contract_member-returns-clause-err : goal.contract_member-returns-clause-err
contract_member-returns-clause-err t c = left _ c.put_contract.result (wrote c.in_ok-key.ensures) c.put_contract.ensures.err

pub contract_member-returns-in_err-key-clause-err : goal.contract_member-returns-in_err-key-clause-err
contract_member-returns-in_err-key-clause-err t c = failed c.from_residual.result (refused c.in_err-key.ensures)

pub contract_member-returns-clause-symbols : goal.contract_member-returns-clause-symbols
contract_member-returns-clause-symbols t c = subst (λ v. OnOk c.put_contract.result (ContractSymbols (contract_tree v))) c.get.ensures c.put_contract.ensures.symbols

pub put_pay-returns-clause-put : goal.put_pay-returns-clause-put
put_pay-returns-clause-put t c = (λ j. c.in_ok-put_value.ensures.put.0 j && c.in_ok-contract_member.ensures.put.0 j, then c.in_ok-begin_with.ensures.put (then (wrote c.in_ok-key.ensures) (then c.in_ok-put_value.ensures.put.1 (then c.in_ok-contract_member.ensures.put.1 c.in_ok-end_with_two.ensures.put))))

pub put_pay-returns-in_err-begin_with-clause-err : goal.put_pay-returns-in_err-begin_with-clause-err
put_pay-returns-in_err-begin_with-clause-err t c = failed c.from_residual.result c.in_err-begin_with.ensures.err

pub put_pay-returns-in_err-key-clause-err : goal.put_pay-returns-in_err-key-clause-err
put_pay-returns-in_err-key-clause-err t c = stopped c.from_residual-in_err-key.result c.in_ok-begin_with.ensures.put (refused c.in_err-key.ensures)

pub put_pay-returns-in_err-put_value-clause-err : goal.put_pay-returns-in_err-put_value-clause-err
put_pay-returns-in_err-put_value-clause-err t c = stopped c.from_residual-in_err-put_value.result (then c.in_ok-begin_with.ensures.put (wrote c.in_ok-key.ensures)) c.in_err-put_value.ensures.err

pub put_pay-returns-in_err-contract_member-clause-err : goal.put_pay-returns-in_err-contract_member-clause-err
put_pay-returns-in_err-contract_member-clause-err t c = stopped c.from_residual-in_err-contract_member.result (then c.in_ok-begin_with.ensures.put (then (wrote c.in_ok-key.ensures) c.in_ok-put_value.ensures.put.1)) c.in_err-contract_member.ensures.err

pub put_pay-returns-in_err-end_with_two-clause-err : goal.put_pay-returns-in_err-end_with_two-clause-err
put_pay-returns-in_err-end_with_two-clause-err t c = stopped c.from_residual-in_err-end_with_two.result (then c.in_ok-begin_with.ensures.put (then (wrote c.in_ok-key.ensures) (then c.in_ok-put_value.ensures.put.1 c.in_ok-contract_member.ensures.put.1))) c.in_err-end_with_two.ensures.err

pub put_pay-returns-clause-token_symbol : goal.put_pay-returns-clause-token_symbol
put_pay-returns-clause-token_symbol t c = c.symbol_is_bytes.ensures

pub put_pay-returns-clause-value_symbols : goal.put_pay-returns-clause-value_symbols
put_pay-returns-clause-value_symbols t c = c.in_ok-put_value.ensures.symbols

pub put_pay-returns-clause-then_symbols : goal.put_pay-returns-clause-then_symbols
put_pay-returns-clause-then_symbols t c = c.in_ok-contract_member.ensures.symbols

pub put_if-returns-clause-put : goal.put_if-returns-clause-put
put_if-returns-clause-put t c = flagged _ _ _ c.end_object.result (λ j. c.in_ok-put_observation.ensures.put.0 j && c.in_ok-contract_member-2.ensures.put.0 j && c.in_ok-contract_member.ensures.put.0 j) (after _ _ _ c.end_object.result (wrote c.in_ok-begin_object.ensures) (after _ _ _ c.end_object.result c.in_ok-contract_member.ensures.put.1 (after _ _ _ c.end_object.result (wrote c.in_ok-key.ensures) (after _ _ _ c.end_object.result c.in_ok-put_observation.ensures.put.1 (after _ _ _ c.end_object.result c.in_ok-contract_member-2.ensures.put.1 c.end_object.ensures.put)))))

pub put_if-returns-clause-err : goal.put_if-returns-clause-err
put_if-returns-clause-err t c = left _ c.end_object.result (wrote c.in_ok-begin_object.ensures) (left _ c.end_object.result c.in_ok-contract_member.ensures.put.1 (left _ c.end_object.result (wrote c.in_ok-key.ensures) (left _ c.end_object.result c.in_ok-put_observation.ensures.put.1 (left _ c.end_object.result c.in_ok-contract_member-2.ensures.put.1 c.end_object.ensures.err))))

pub put_if-returns-in_err-begin_object-clause-err : goal.put_if-returns-in_err-begin_object-clause-err
put_if-returns-in_err-begin_object-clause-err t c = failed c.from_residual.result (refused c.in_err-begin_object.ensures)

pub put_if-returns-in_err-contract_member-clause-err : goal.put_if-returns-in_err-contract_member-clause-err
put_if-returns-in_err-contract_member-clause-err t c = stopped c.from_residual-in_err-contract_member.result (wrote c.in_ok-begin_object.ensures) c.in_err-contract_member.ensures.err

pub put_if-returns-in_err-key-clause-err : goal.put_if-returns-in_err-key-clause-err
put_if-returns-in_err-key-clause-err t c = stopped c.from_residual-in_err-key.result (then (wrote c.in_ok-begin_object.ensures) c.in_ok-contract_member.ensures.put.1) (refused c.in_err-key.ensures)

pub put_if-returns-in_err-put_observation-clause-err : goal.put_if-returns-in_err-put_observation-clause-err
put_if-returns-in_err-put_observation-clause-err t c = stopped c.from_residual-in_err-put_observation.result (then (wrote c.in_ok-begin_object.ensures) (then c.in_ok-contract_member.ensures.put.1 (wrote c.in_ok-key.ensures))) c.in_err-put_observation.ensures.err

pub put_if-returns-in_err-contract_member-2-clause-err : goal.put_if-returns-in_err-contract_member-2-clause-err
put_if-returns-in_err-contract_member-2-clause-err t c = stopped c.from_residual-in_err-contract_member-2.result (then (wrote c.in_ok-begin_object.ensures) (then c.in_ok-contract_member.ensures.put.1 (then (wrote c.in_ok-key.ensures) c.in_ok-put_observation.ensures.put.1))) c.in_err-contract_member-2.ensures.err

pub put_if-returns-clause-condition_symbols : goal.put_if-returns-clause-condition_symbols
put_if-returns-clause-condition_symbols t c = held c.end_object.result c.in_ok-put_observation.ensures.symbols

pub put_if-returns-clause-then_symbols : goal.put_if-returns-clause-then_symbols
put_if-returns-clause-then_symbols t c = held c.end_object.result c.in_ok-contract_member-2.ensures.symbols

pub put_if-returns-clause-otherwise_symbols : goal.put_if-returns-clause-otherwise_symbols
put_if-returns-clause-otherwise_symbols t c = held c.end_object.result c.in_ok-contract_member.ensures.symbols

pub put_when-returns-clause-put : goal.put_when-returns-clause-put
put_when-returns-clause-put t c =
    let fits : time_fits c.args.timeout.now ≡ true = search rules in
    flagged _ _ _ c.end_object.result (λ j. c.in_ok-put_cases.ensures.put.0 j && fits j && c.in_ok-contract_member.ensures.put.0 j) (after _ _ _ c.end_object.result c.in_ok-begin_with.ensures.put (after _ _ _ c.end_object.result c.in_ok-contract_member.ensures.put.1 (after _ _ _ c.end_object.result (wrote c.in_ok-key.ensures) (after _ _ _ c.end_object.result c.in_ok-put_cases.ensures.put.1 c.end_object.ensures.put))))

pub put_when-returns-clause-err : goal.put_when-returns-clause-err
put_when-returns-clause-err t c = left _ c.end_object.result c.in_ok-begin_with.ensures.put (left _ c.end_object.result c.in_ok-contract_member.ensures.put.1 (left _ c.end_object.result (wrote c.in_ok-key.ensures) (left _ c.end_object.result c.in_ok-put_cases.ensures.put.1 c.end_object.ensures.err)))

pub put_when-returns-in_err-begin_with-clause-err : goal.put_when-returns-in_err-begin_with-clause-err
put_when-returns-in_err-begin_with-clause-err t c = failed c.from_residual.result c.in_err-begin_with.ensures.err

pub put_when-returns-in_err-contract_member-clause-err : goal.put_when-returns-in_err-contract_member-clause-err
put_when-returns-in_err-contract_member-clause-err t c = stopped c.from_residual-in_err-contract_member.result c.in_ok-begin_with.ensures.put c.in_err-contract_member.ensures.err

pub put_when-returns-in_err-key-clause-err : goal.put_when-returns-in_err-key-clause-err
put_when-returns-in_err-key-clause-err t c = stopped c.from_residual-in_err-key.result (then c.in_ok-begin_with.ensures.put c.in_ok-contract_member.ensures.put.1) (refused c.in_err-key.ensures)

pub put_when-returns-in_err-put_cases-clause-err : goal.put_when-returns-in_err-put_cases-clause-err
put_when-returns-in_err-put_cases-clause-err t c = stopped c.from_residual-in_err-put_cases.result (then c.in_ok-begin_with.ensures.put (then c.in_ok-contract_member.ensures.put.1 (wrote c.in_ok-key.ensures))) c.in_err-put_cases.ensures.err

pub put_when-returns-clause-case_symbols : goal.put_when-returns-clause-case_symbols
put_when-returns-clause-case_symbols t c = held c.end_object.result c.in_ok-put_cases.ensures.symbols

pub put_when-returns-clause-then_symbols : goal.put_when-returns-clause-then_symbols
put_when-returns-clause-then_symbols t c = held c.end_object.result c.in_ok-contract_member.ensures.symbols

pub put_let-returns-clause-put : goal.put_let-returns-clause-put
put_let-returns-clause-put t c = flagged _ _ _ c.end_object.result (λ j. c.in_ok-put_value.ensures.put.0 j && c.in_ok-contract_member.ensures.put.0 j) (after _ _ _ c.end_object.result (wrote c.in_ok-begin_object.ensures) (after _ _ _ c.end_object.result (wrote c.in_ok-key.ensures) (after _ _ _ c.end_object.result c.in_ok-put_value.ensures.put.1 (after _ _ _ c.end_object.result c.in_ok-put_member.ensures.put (after _ _ _ c.end_object.result c.in_ok-contract_member.ensures.put.1 c.end_object.ensures.put)))))

pub put_let-returns-clause-err : goal.put_let-returns-clause-err
put_let-returns-clause-err t c = left _ c.end_object.result (wrote c.in_ok-begin_object.ensures) (left _ c.end_object.result (wrote c.in_ok-key.ensures) (left _ c.end_object.result c.in_ok-put_value.ensures.put.1 (left _ c.end_object.result c.in_ok-put_member.ensures.put (left _ c.end_object.result c.in_ok-contract_member.ensures.put.1 c.end_object.ensures.err))))

pub put_let-returns-in_err-begin_object-clause-err : goal.put_let-returns-in_err-begin_object-clause-err
put_let-returns-in_err-begin_object-clause-err t c = failed c.from_residual.result (refused c.in_err-begin_object.ensures)

pub put_let-returns-in_err-key-clause-err : goal.put_let-returns-in_err-key-clause-err
put_let-returns-in_err-key-clause-err t c = stopped c.from_residual-in_err-key.result (wrote c.in_ok-begin_object.ensures) (refused c.in_err-key.ensures)

pub put_let-returns-in_err-put_value-clause-err : goal.put_let-returns-in_err-put_value-clause-err
put_let-returns-in_err-put_value-clause-err t c = stopped c.from_residual-in_err-put_value.result (then (wrote c.in_ok-begin_object.ensures) (wrote c.in_ok-key.ensures)) c.in_err-put_value.ensures.err

pub put_let-returns-in_err-put_member-clause-err : goal.put_let-returns-in_err-put_member-clause-err
put_let-returns-in_err-put_member-clause-err t c = stopped c.from_residual-in_err-put_member.result (then (wrote c.in_ok-begin_object.ensures) (then (wrote c.in_ok-key.ensures) c.in_ok-put_value.ensures.put.1)) c.in_err-put_member.ensures.err

pub put_let-returns-in_err-contract_member-clause-err : goal.put_let-returns-in_err-contract_member-clause-err
put_let-returns-in_err-contract_member-clause-err t c = stopped c.from_residual-in_err-contract_member.result (then (wrote c.in_ok-begin_object.ensures) (then (wrote c.in_ok-key.ensures) (then c.in_ok-put_value.ensures.put.1 c.in_ok-put_member.ensures.put))) c.in_err-contract_member.ensures.err

pub put_let-returns-clause-value_symbols : goal.put_let-returns-clause-value_symbols
put_let-returns-clause-value_symbols t c = held c.end_object.result c.in_ok-put_value.ensures.symbols

pub put_let-returns-clause-then_symbols : goal.put_let-returns-clause-then_symbols
put_let-returns-clause-then_symbols t c = held c.end_object.result c.in_ok-contract_member.ensures.symbols

pub put_assert-returns-clause-put : goal.put_assert-returns-clause-put
put_assert-returns-clause-put t c = flagged _ _ _ c.end_object.result (λ j. c.in_ok-put_observation.ensures.put.0 j && c.in_ok-contract_member.ensures.put.0 j) (after _ _ _ c.end_object.result (wrote c.in_ok-begin_object.ensures) (after _ _ _ c.end_object.result (wrote c.in_ok-key.ensures) (after _ _ _ c.end_object.result c.in_ok-put_observation.ensures.put.1 (after _ _ _ c.end_object.result c.in_ok-contract_member.ensures.put.1 c.end_object.ensures.put))))

pub put_assert-returns-clause-err : goal.put_assert-returns-clause-err
put_assert-returns-clause-err t c = left _ c.end_object.result (wrote c.in_ok-begin_object.ensures) (left _ c.end_object.result (wrote c.in_ok-key.ensures) (left _ c.end_object.result c.in_ok-put_observation.ensures.put.1 (left _ c.end_object.result c.in_ok-contract_member.ensures.put.1 c.end_object.ensures.err)))

pub put_assert-returns-in_err-begin_object-clause-err : goal.put_assert-returns-in_err-begin_object-clause-err
put_assert-returns-in_err-begin_object-clause-err t c = failed c.from_residual.result (refused c.in_err-begin_object.ensures)

pub put_assert-returns-in_err-key-clause-err : goal.put_assert-returns-in_err-key-clause-err
put_assert-returns-in_err-key-clause-err t c = stopped c.from_residual-in_err-key.result (wrote c.in_ok-begin_object.ensures) (refused c.in_err-key.ensures)

pub put_assert-returns-in_err-put_observation-clause-err : goal.put_assert-returns-in_err-put_observation-clause-err
put_assert-returns-in_err-put_observation-clause-err t c = stopped c.from_residual-in_err-put_observation.result (then (wrote c.in_ok-begin_object.ensures) (wrote c.in_ok-key.ensures)) c.in_err-put_observation.ensures.err

pub put_assert-returns-in_err-contract_member-clause-err : goal.put_assert-returns-in_err-contract_member-clause-err
put_assert-returns-in_err-contract_member-clause-err t c = stopped c.from_residual-in_err-contract_member.result (then (wrote c.in_ok-begin_object.ensures) (then (wrote c.in_ok-key.ensures) c.in_ok-put_observation.ensures.put.1)) c.in_err-contract_member.ensures.err

pub put_assert-returns-clause-condition_symbols : goal.put_assert-returns-clause-condition_symbols
put_assert-returns-clause-condition_symbols t c = held c.end_object.result c.in_ok-put_observation.ensures.symbols

pub put_assert-returns-clause-then_symbols : goal.put_assert-returns-clause-then_symbols
put_assert-returns-clause-then_symbols t c = held c.end_object.result c.in_ok-contract_member.ensures.symbols

pub put_case-returns-clause-put : goal.put_case-returns-clause-put
put_case-returns-clause-put t c = subst (λ k. PutsCase c.end_object.result c.args.out.now c.end_object.new.out k) (sym (case_tree-parts c.args.case.now)) (flagged _ _ _ c.end_object.result (λ j. c.in_ok-put_action.ensures.put.0 j && c.in_ok-put_contract.ensures.put.0 j) (after _ _ _ c.end_object.result (wrote c.in_ok-begin_object.ensures) (after _ _ _ c.end_object.result (wrote c.in_ok-key.ensures) (after _ _ _ c.end_object.result c.in_ok-put_action.ensures.put.1 (after _ _ _ c.end_object.result (wrote c.in_ok-key-2.ensures) (after _ _ _ c.end_object.result c.in_ok-put_contract.ensures.put.1 c.end_object.ensures.put))))))

pub put_case-returns-clause-err : goal.put_case-returns-clause-err
put_case-returns-clause-err t c = left _ c.end_object.result (wrote c.in_ok-begin_object.ensures) (left _ c.end_object.result (wrote c.in_ok-key.ensures) (left _ c.end_object.result c.in_ok-put_action.ensures.put.1 (left _ c.end_object.result (wrote c.in_ok-key-2.ensures) (left _ c.end_object.result c.in_ok-put_contract.ensures.put.1 c.end_object.ensures.err))))

pub put_case-returns-in_err-begin_object-clause-err : goal.put_case-returns-in_err-begin_object-clause-err
put_case-returns-in_err-begin_object-clause-err t c = failed c.from_residual.result (refused c.in_err-begin_object.ensures)

pub put_case-returns-in_err-key-clause-err : goal.put_case-returns-in_err-key-clause-err
put_case-returns-in_err-key-clause-err t c = stopped c.from_residual-in_err-key.result (wrote c.in_ok-begin_object.ensures) (refused c.in_err-key.ensures)

pub put_case-returns-in_err-put_action-clause-err : goal.put_case-returns-in_err-put_action-clause-err
put_case-returns-in_err-put_action-clause-err t c = stopped c.from_residual-in_err-put_action.result (then (wrote c.in_ok-begin_object.ensures) (wrote c.in_ok-key.ensures)) c.in_err-put_action.ensures.err

pub put_case-returns-in_err-key-2-clause-err : goal.put_case-returns-in_err-key-2-clause-err
put_case-returns-in_err-key-2-clause-err t c = stopped c.from_residual-in_err-key-2.result (then (wrote c.in_ok-begin_object.ensures) (then (wrote c.in_ok-key.ensures) c.in_ok-put_action.ensures.put.1)) (refused c.in_err-key-2.ensures)

pub put_case-returns-in_err-put_contract-clause-err : goal.put_case-returns-in_err-put_contract-clause-err
put_case-returns-in_err-put_contract-clause-err t c = stopped c.from_residual-in_err-put_contract.result (then (wrote c.in_ok-begin_object.ensures) (then (wrote c.in_ok-key.ensures) (then c.in_ok-put_action.ensures.put.1 (wrote c.in_ok-key-2.ensures)))) c.in_err-put_contract.ensures.err

pub put_case-returns-clause-symbols : goal.put_case-returns-clause-symbols
put_case-returns-clause-symbols t c = held c.end_object.result (case-symbols c.args.case.now c.in_ok-put_action.ensures.symbols c.in_ok-put_contract.ensures.symbols)

pub put_contract-returns-in-Close-clause-put : goal.put_contract-returns-in-Close-clause-put
put_contract-returns-in-Close-clause-put t c = rw (c.in-Close.is, contract_fits-Close, contract_json-Close) c.put_term.ensures.put

pub put_contract-returns-in-Close-clause-symbols : goal.put_contract-returns-in-Close-clause-symbols
put_contract-returns-in-Close-clause-symbols t c = rw c.in-Close.is (held c.put_term.result contract-symbols-Close)

pub put_contract-returns-in-Pay-clause-put : goal.put_contract-returns-in-Pay-clause-put
put_contract-returns-in-Pay-clause-put t c = rw (c.in-Pay.is, contract_fits-Pay, contract_json-Pay) c.put_pay.ensures.put

pub put_contract-returns-in-Pay-clause-symbols : goal.put_contract-returns-in-Pay-clause-symbols
put_contract-returns-in-Pay-clause-symbols t c = rw c.in-Pay.is (all_three c.put_pay.result (contract-symbols-Pay _ _ _ _ _) c.put_pay.ensures.token_symbol c.put_pay.ensures.value_symbols c.put_pay.ensures.then_symbols)

pub put_contract-returns-in-If-clause-put : goal.put_contract-returns-in-If-clause-put
put_contract-returns-in-If-clause-put t c = rw (c.in-If.is, contract_fits-If, contract_json-If) c.put_if.ensures.put

pub put_contract-returns-in-If-clause-symbols : goal.put_contract-returns-in-If-clause-symbols
put_contract-returns-in-If-clause-symbols t c = rw c.in-If.is (all_three c.put_if.result (contract-symbols-If _ _ _) c.put_if.ensures.condition_symbols c.put_if.ensures.then_symbols c.put_if.ensures.otherwise_symbols)

pub put_contract-returns-in-When-clause-put : goal.put_contract-returns-in-When-clause-put
put_contract-returns-in-When-clause-put t c = rw (c.in-When.is, contract_fits-When, contract_json-When) c.put_when.ensures.put

pub put_contract-returns-in-When-clause-symbols : goal.put_contract-returns-in-When-clause-symbols
put_contract-returns-in-When-clause-symbols t c = rw c.in-When.is (both c.put_when.result (contract-symbols-When _ _ _) c.put_when.ensures.case_symbols c.put_when.ensures.then_symbols)

pub put_contract-returns-in-Let-clause-put : goal.put_contract-returns-in-Let-clause-put
put_contract-returns-in-Let-clause-put t c = rw (c.in-Let.is, contract_fits-Let, contract_json-Let) c.put_let.ensures.put

pub put_contract-returns-in-Let-clause-symbols : goal.put_contract-returns-in-Let-clause-symbols
put_contract-returns-in-Let-clause-symbols t c = rw c.in-Let.is (both c.put_let.result (contract-symbols-Let _ _ _) c.put_let.ensures.value_symbols c.put_let.ensures.then_symbols)

pub put_contract-returns-in-Assert-clause-put : goal.put_contract-returns-in-Assert-clause-put
put_contract-returns-in-Assert-clause-put t c = rw (c.in-Assert.is, contract_fits-Assert, contract_json-Assert) c.put_assert.ensures.put

pub put_contract-returns-in-Assert-clause-symbols : goal.put_contract-returns-in-Assert-clause-symbols
put_contract-returns-in-Assert-clause-symbols t c = rw c.in-Assert.is (both c.put_assert.result (contract-symbols-Assert _ _) c.put_assert.ensures.condition_symbols c.put_assert.ensures.then_symbols)

pub put_cases-loop-case-preserved : goal.put_cases-loop-case-preserved
put_cases-loop-case-preserved t c =
    let items = c.as_slice-case-items.result.now in
    let i = c.loop-case.case-index in
    let x = c.case-item.result in (
      all-more (λ k. case_fits (case_tree k)) items i x c.loop-case-test.true c.case-item.is c.in_ok-put_case.ensures.put.0 c.loop-case.invariant.0,
      listed (λ k. case_json (case_tree k)) items i x c.begin_array.new.self c.loop-case.out c.put_case.new.out c.loop-case-test.true c.case-item.is c.loop-case.invariant.1 c.in_ok-put_case.ensures.put.1,
      symbols-more items i x c.loop-case-test.true c.case-item.is c.in_ok-put_case.ensures.symbols c.loop-case.invariant.2,
    )

pub put_cases-returns-clause-put : goal.put_cases-returns-clause-put
put_cases-returns-clause-put t c =
    let items = c.as_slice-case-items.result.now in
    let i = c.loop-case.case-index in (
      cases_fit-listed c.args.cases.now ∙ all-over (λ k. case_fits (case_tree k)) c.args.cases.now items i c.as_slice-case-items.ensures c.loop-case-test.false c.loop-case.invariant.0,
      subst (λ ds. Adds c.args.out.now c.end_array.new.self (data_tokens (array ds))) (sym (cases_json-listed c.args.cases.now))
          (closed (λ k. case_json (case_tree k)) c.args.cases.now items i c.args.out.now c.begin_array.new.self c.loop-case.out c.end_array.new.self c.as_slice-case-items.ensures c.loop-case-test.false
          (wrote c.in_ok-begin_array.ensures) c.loop-case.invariant.1 (wrote c.in_ok-end_array.ensures)),
    )

pub put_cases-returns-in_err-put_case-clause-put : goal.put_cases-returns-in_err-put_case-clause-put
put_cases-returns-in_err-put_case-clause-put t c =
    let r = c.from_residual-in_err-put_case.result in
    let old = c.args.out.now in
    let new = c.put_case.new.out in
    let ks = c.args.cases.now in
    let as_list : PutsFitting r old new (list_all (λ k. case_fits (case_tree k)) ks) (array (items_of (map (λ k. case_json (case_tree k)) ks))) = first_of (search rules, grind (arith, common_steps)) in
    subst (λ ds. PutsFitting r old new (cases_fit (case_trees (map case_tree ks))) (array ds)) (sym (cases_json-listed ks))
    (subst (λ b. PutsFitting r old new b (array (items_of (map (λ k. case_json (case_tree k)) ks)))) (sym (cases_fit-listed ks)) as_list)

pub put_cases-returns-clause-symbols : goal.put_cases-returns-clause-symbols
put_cases-returns-clause-symbols t c =
    symbols-over c.args.cases.now c.as_slice-case-items.result.now c.loop-case.case-index c.as_slice-case-items.ensures c.loop-case-test.false c.loop-case.invariant.2
