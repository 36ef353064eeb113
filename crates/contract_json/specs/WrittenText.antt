-- The text that is written for a contract, and when it reads as the contract.
use Rattle.std.specs.Prelude.{◌≡◌, ℕ, ◌≤◌, List, length, Result, Ok}
use Rattle.serde_json.specs.Data.{depth}
use Rattle.serde_json.specs.Read.{max_depth}
use Rattle.serde_json.specs.Written.{compact_text}
use Rattle.contract.specs.declared.tree.Contract.{Contract}
use Rattle.contract.specs.Tree.{ContractTree, contract_tree}
use Rattle.json_read_names.specs.ReadsText.{of_text}
use Rattle.json_read_contracts.specs.ReadsContract.{contract}
use Rattle.json_write_contracts.specs.declared.fault.WriteFault.{WriteFault}
use Rattle.json_write_contracts.specs.WrittenContract.{contract_json, contract_fits}
use Rattle.json_write_contracts.specs.Written.{in_range}

-- if JSON has all its numbers
abbrev pub contract_text : ContractTree → Result (List ℕ) WriteFault
contract_text c = in_range (contract_fits c) (compact_text (contract_json c))

-- a text of at most 1 MiB that doesn't nest too deep
abbrev pub IsReadBack : Contract → List ℕ → Type 0
IsReadBack c text = length text ≤ 1048576 → depth (contract_json (contract_tree c)) ≤ max_depth → of_text contract text ≡ Ok c
