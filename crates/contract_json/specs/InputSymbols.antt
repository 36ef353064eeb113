-- No reader needs this file: it serves the proofs of this crate and those above it.
-- The currency symbol of an input's token is made of bytes.
use Rattle.std.specs.Prelude.{⊤}
use Rattle.hex.specs.Hex.{IsBytes}
use Rattle.contract.specs.declared.input.Input.{Input}
use Rattle.contract.specs.declared.input.Input.TheVariants as inputs

abbrev pub InputSymbols : Input → Type 0
InputSymbols (inputs.Deposit a p t n) = IsBytes t.symbol
InputSymbols (inputs.Choice id n) = ⊤
InputSymbols inputs.Notify = ⊤
