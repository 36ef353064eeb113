-- Which outputs a ledger may begin with.
use Rattle.std.specs.Prelude.{ℤ, pos, ◌^◌, ◌-◌, ◌≤ℤ◌, ◌<ℤ◌, List}
use Rattle.contract.specs.Names.declared.token.Token.{Token}
use Rattle.builder_spec.specs.Bundle.Totals.{total_of}
use Rattle.builder_spec.specs.EutxoTypes.declared.output.Output.{Output}
use Rattle.ledger_laws.specs.Sound.{AreKeys}
use Rattle.ledger_spec.specs.declared.genesis_fault.GenesisFault.{GenesisFault}
use Rattle.ledger_spec.specs.declared.genesis_fault.GenesisFault.TheVariants.{NotKey, TooLarge, Memory}

-- the most that an amount can be
abbrev pub most : ℤ
most = pos (2 ^ 127 - 1)

-- the sum of each token over these outputs is an amount
abbrev pub SumsFit : List Output → Type 0
SumsFit os = (t : Token) → total_of (λ o. o.amount) t os ≤ℤ most

-- the sum of a token is too large for one
abbrev pub HasLargeSum : List Output → Type 0
HasLargeSum os = (t : Token) × (most <ℤ total_of (λ o. o.amount) t os)

-- why not with these
abbrev pub RefusesGenesis : List Output → GenesisFault → Type 0
RefusesGenesis os NotKey = AreKeys os → ⊥
RefusesGenesis os TooLarge = AreKeys os × HasLargeSum os
RefusesGenesis os Memory = Unit {0}
