-- What is known of the contracts in a line.
use Rattle.std.specs.Prelude.{◌≡◌, ℕ, List, true, Some, Ok}
use Rattle.contract.specs.declared.tree.Contract.{Contract}
use Rattle.contract.specs.Tree.{contract_tree}
use Rattle.marlowe_run.specs.ContractJson.PartAt.{part_at}
use Rattle.marlowe_run.specs.JsonReadContracts.ReadsContract.{contract}
use Rattle.marlowe_run.specs.JsonWriteContracts.WrittenContract.{contract_fits}
use Rattle.serde_json.specs.Data.{Data}

-- each contract that is read of a part of the value can be written
abbrev pub AllFit : Data → Type 0
AllFit whole = (names : List (List ℕ)) (part : Data) (c : Contract) → part_at names whole ≡ Some part → contract part ≡ Ok c → contract_fits (contract_tree c) ≡ true
