-- What is found of a transaction where one script is known.
use Rattle.std.specs.Prelude.{ℕ, List, Option}
use Rattle.std.specs.FinMap as map
use Rattle.chain.specs.LedgerSpec.EutxoTypes.declared.output.Output.{Output}
use Rattle.chain.specs.LedgerSpec.Eutxo.declared.resolved.Resolved.{Resolved}

-- the outputs of its inputs, and the one script under its id
abbrev pub resolution_of : {V : Type 0} → List (Option Output) → List ℕ → V → Resolved V
resolution_of outputs id v = record { outputs = outputs; scripts = map.insert map.empty id v }
