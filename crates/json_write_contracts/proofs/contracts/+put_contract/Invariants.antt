use Rattle.std.proofs.Common.{◌≡◌, ◌+◌, ◌*◌, true, take, map}
use Rattle.std.specs.Prelude.{max}
use Rattle.contract.specs.declared.tree.Contract.{size-Contract}
use Rattle.std.specs.List.{list_all}
use Rattle.contract.specs.Tree.{case_tree}
use Rattle.json_write_contracts.specs.Symbols.{ListSymbols}
use Rattle.json_write_contracts.specs.Tokens.{Adds}
use Rattle.json_write_contracts.specs.WrittenContract.{case_json, case_fits}
use Rattle.json_write_contracts.proofs.ListedLaws.{front}
use Rattle.json_write_contracts.proofs.contracts.+put_contract.Given as goal

-- the cases so far fit, are written, and have symbols of bytes
abbrev pub invariant-put_cases-loop-case : goal.invariant-put_cases-loop-case
invariant-put_cases-loop-case l =
    (list_all (λ k. case_fits (case_tree k)) (take l.case-index l.case-items) ≡ true)
    × Adds l.initial.out l.out (front (map (λ k. case_json (case_tree k)) (take l.case-index l.case-items)))
    × ListSymbols (map (λ k. case_tree k) (take l.case-index l.case-items))

-- what follows needs less than the whole
abbrev pub decreases-put_contract : goal.decreases-put_contract
decreases-put_contract l = 3 * goal.size-put_contract l

abbrev pub decreases-contract_member : goal.decreases-contract_member
decreases-contract_member l = 3 * size-Contract l.contract.now + 1

abbrev pub decreases-put_pay : goal.decreases-put_pay
decreases-put_pay l = 3 * size-Contract l.then.now + 2

abbrev pub decreases-put_if : goal.decreases-put_if
decreases-put_if l = 3 * max (size-Contract l.then.now) (size-Contract l.otherwise.now) + 2

abbrev pub decreases-put_when : goal.decreases-put_when
decreases-put_when l = 3 * max (goal.size-put_when l) (size-Contract l.then.now) + 2

abbrev pub decreases-put_let : goal.decreases-put_let
decreases-put_let l = 3 * size-Contract l.then.now + 2

abbrev pub decreases-put_assert : goal.decreases-put_assert
decreases-put_assert l = 3 * size-Contract l.then.now + 2

abbrev pub decreases-put_case : goal.decreases-put_case
decreases-put_case l = 3 * goal.size-put_case l

abbrev pub decreases-put_cases : goal.decreases-put_cases
decreases-put_cases l = 3 * goal.size-put_cases l + 1
