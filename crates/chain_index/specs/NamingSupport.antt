-- No reader needs this file: references of outputs, by whose they are.
use Rattle.std.specs.Prelude.{ℕ, List, map, Option, Some}
use Rattle.ledger_spec.specs.EutxoTypes.declared.output.Output.{Output}
use Rattle.ledger_spec.specs.EutxoTypes.declared.output_ref.OutputRef.{OutputRef}
use Rattle.ledger_spec.specs.EutxoTypes.declared.output_ref.OutputRef.TheVariants as ref
use Rattle.ledger_spec.specs.LedgerLaws.Past.{with_references}
use Rattle.chain_index.specs.declared.naming.Naming.{Naming}
use Rattle.chain_index.specs.declared.naming.Naming.TheVariants.{Genesis, Made}

abbrev pub naming : Naming → ℕ → OutputRef
naming Genesis i = ref.Genesis i
naming (Made id) i = ref.Made id i

-- entries without holes
abbrev pub slots : {V : Type 0} → List (OutputRef × V) → List (OutputRef × Option V)
slots es = map (λ e. (e.0, Some e.1)) es

-- these outputs under their references
abbrev pub slots_of : Naming → List Output → List (OutputRef × Option Output)
slots_of whose os = slots (with_references (naming whose) 0 os)
