-- No reader needs this file: it serves the proofs of this crate and those above it.
-- What a hasher is fed of a bundle.
use Rattle.std.specs.Prelude.{ℤ, ◌++◌}
use Rattle.std.specs.FinMap.{entries}
use Rattle.std.specs.Hash as fed
use Rattle.std.specs.Hash.{HashWrites}
use Rattle.names.specs.declared.token.Token.{Token}
use Rattle.bundle.specs.Bundles.{Amounts}

-- a token's symbol, its name, and how much there is
abbrev pub entry_fed : Token × ℤ → HashWrites
entry_fed e = (fed.slice fed.u8 e.0.symbol ++ fed.str e.0.name) ++ fed.i128 e.1

-- the entries in the order of their tokens
abbrev pub bundle_fed : Amounts → HashWrites
bundle_fed m = fed.slice entry_fed (entries m)
