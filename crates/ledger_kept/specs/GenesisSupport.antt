-- No reader needs this file: it serves the sums of the first outputs.
use Rattle.std.specs.Prelude.{pos, ◌≤ℤ◌}
use Rattle.contract.specs.Names.declared.token.Token.{Token}
use Rattle.chain_index.specs.Bundle.Bundles.{amount_of}
use Rattle.chain_index.specs.EutxoTypes.declared.output.Output.{Output}

-- of no token an output has less than nothing, which holds of all outputs
abbrev pub IsNatural : Output → Type 0
IsNatural o = (t : Token) → pos 0 ≤ℤ amount_of o.amount t
