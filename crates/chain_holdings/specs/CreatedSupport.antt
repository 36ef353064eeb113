-- No reader needs this file: outputs as they were created, and those of them that are unspent.
use Rattle.std.specs.Prelude.{ℕ, Bool, false, List, [], ◌∷◌, if◌then◌else◌, Option, is_some}
use Rattle.std.specs.List.{flat_map}
use Rattle.ledger_kept.specs.EutxoTypes.declared.output.Output.{Output}
use Rattle.ledger_kept.specs.EutxoTypes.declared.output_ref.OutputRef.{OutputRef}
use Rattle.ledger_kept.specs.EutxoTypes.declared.output_ref.OutputRef.TheVariants.{Genesis, Made}
use Rattle.ledger_kept.specs.LedgerLaws.Past.{Past, unspent_at}
use Rattle.chain_holdings.specs.declared.unspent.Maker.{Maker}
use Rattle.chain_holdings.specs.declared.unspent.Maker.TheVariants.{Beginning, Accepted}

abbrev pub reference_by : Maker → ℕ → OutputRef
reference_by Beginning i = Genesis i
reference_by (Accepted id) i = Made id i

-- whether the first of these was found
abbrev pub first_there : List (Option Output) → Bool
first_there [] = false
first_there (o ∷ os) = is_some o

abbrev pub if_unspent : Past → OutputRef × Output → List (OutputRef × Output)
if_unspent past e = if is_some (unspent_at past e.0) then e ∷ [] else []

abbrev pub unspent_among : Past → List (OutputRef × Output) → List (OutputRef × Output)
unspent_among past es = flat_map (if_unspent past) es
