use Rattle.std.proofs.Common.{◌≡◌, ◌++◌, take}
use Rattle.std.specs.List.{All, flat_map}
use Rattle.contract_bytes.specs.WritingSupport.{case_bytes, CaseFits}
use Rattle.contract_bytes.proofs.tree.+put_contract.Given as goal

-- the cases so far stand in the output, and fit
abbrev pub invariant-put_cases-loop-case : goal.invariant-put_cases-loop-case
invariant-put_cases-loop-case l =
    (l.out.items ≡ l.fn.out.items ++ flat_map case_bytes (take l.case-index l.case-items))
    × All CaseFits (take l.case-index l.case-items)
