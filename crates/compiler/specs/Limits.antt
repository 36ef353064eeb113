-- Which contracts are compiled: a height of at most 999, and then at most 65,535 continuations and at most 1,000,000
-- values, observations and cases. All is counted in the tree, whatever a table may share.
use Rattle.std.specs.Prelude.{◌≡◌, nat_le, ◌&&◌, Option, Some, None, MatchOption, Result, Err, if◌then◌else◌}
use Rattle.std.specs.Result.{IsOkUnless}
use Rattle.contract.specs.Tree.{ContractTree}
use Rattle.table.specs.Heights.{contract_height}
use Rattle.compiler.specs.declared.fault.CompileFault.{CompileFault}
use Rattle.compiler.specs.declared.fault.CompileFault.TheVariants.{TooManyNodes, TooDeep, Memory}
use Rattle.lowering.specs.Sizes.{conts, others}

-- the fault of a contract, memory aside
unfoldable pub compile_fault : ContractTree → Option CompileFault
compile_fault c = if nat_le (contract_height c) 999 then (if nat_le (conts c) 65535 && nat_le (others c) 1000000 then None else Some TooManyNodes) else Some TooDeep

-- refused by this fault; or Ok where there is none, unless memory is refused
abbrev pub IsRefusedBy : {A : Type 0} → Option CompileFault → Result A CompileFault → Type 0
IsRefusedBy fault result = MatchOption fault (IsOkUnless result Memory) (λ f. result ≡ Err f)
