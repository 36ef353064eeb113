-- A test that tells two outputs apart.
use Rattle.std.proofs.Common.{◌≡◌, ◌↔◌, IsTrue, Bool, Result, Ok, Err}
use Rattle.std.specs.Prelude.{IfOk}
use Rattle.contract.proofs.FromCollections.SameLaws.{same_by_from}
use Rattle.eutxo.specs.EutxoTypes.declared.output.Output.{Output}
use Rattle.eutxo.specs.EutxoTypes.contracts.output.Output as outputs
use Rattle.eutxo.specs.Bundle.Bundles.{Amounts}
use Rattle.eutxo.specs.Bundle.contracts.bundle.Bundle as bundles
use Rattle.roles.specs.Steps.{same_output, same_amounts}

pub decided : {E : Type 0} (r : Result Bool E) (x y : Output) → IfOk r (λ a. IsTrue a ↔ (x ≡ y)) → IfOk r (λ a. a ≡ same_output x y)
decided (Ok a) x y h = same_by_from outputs.the_row.coded x y a h
decided (Err e) x y h = tt

pub decided_amounts : {E : Type 0} (r : Result Bool E) (x y : Amounts) → IfOk r (λ a. IsTrue a ↔ (x ≡ y)) → IfOk r (λ a. a ≡ same_amounts x y)
decided_amounts (Ok a) x y h = same_by_from bundles.the_row.coded x y a h
decided_amounts (Err e) x y h = tt
