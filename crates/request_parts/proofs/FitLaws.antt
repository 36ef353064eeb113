-- Contracts of parts of a value can be written where those of the value can.
use Rattle.std.proofs.Common.{◌≡◌, ℕ, List, [], ◌∷◌, true, Some, Ok, refl, sym, subst}
use Rattle.std.specs.Option.{option_and_then}
use Rattle.contract.specs.declared.tree.Contract.{Contract}
use Rattle.contract.specs.Tree.{contract_tree}
use Rattle.marlowe_run.specs.ContractJson.PartAt.{part_at}
use Rattle.marlowe_run.specs.JsonReadContracts.ReadsContract.{contract}
use Rattle.marlowe_run.specs.JsonWriteContracts.WrittenContract.{contract_fits}
use Rattle.serde_json.specs.Data.{Data}
use Rattle.serde_json.specs.Find.{get}
use Rattle.request_parts.specs.PartsSupport.{AllFit}

pub fit_member : (whole body : Data) (key : List ℕ) → AllFit whole → Some body ≡ get key whole → AllFit body
fit_member whole body key h is = λ names part c at read. h (key ∷ names) part c (subst (λ o. option_and_then (part_at names) o ≡ Some part) is at) read

pub fit_here : (whole : Data) (c : Contract) → AllFit whole → contract whole ≡ Ok c → contract_fits (contract_tree c) ≡ true
fit_here whole c h read = h [] whole c refl read

pub ruleset fit_steps = (fit_member, fit_here)
