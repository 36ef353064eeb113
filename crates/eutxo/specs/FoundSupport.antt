-- No reader needs this file: it serves the walk along inputs and what was found for each.
use Rattle.std.specs.Prelude.{ℕ, List, Option, Some, None, slice_get}
use Rattle.eutxo_types.specs.declared.output.Output.{Output}

abbrev pub joined : Option (Option Output) → Option Output
joined None = None
joined (Some o) = o

-- the output that was found for the input with this index
abbrev pub found_at : List (Option Output) → ℕ → Option Output
found_at os i = joined (slice_get os i)
