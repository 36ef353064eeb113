-- How a datum is spelled in bytes: the number of its continuation, then its state.
use Rattle.std.specs.Prelude.{ℕ, ◌<◌, ◌^◌, List, ◌++◌}
use Rattle.std.specs.Int.{w32, to_be_bytes}
use Rattle.contract_bytes.specs.States.{state_bytes, StateFits}
use Rattle.machine.specs.declared.datum.Datum.{Datum}

-- a continuation's number: 4 bytes, the highest first
unfoldable pub cont_bytes : ℕ → List ℕ
cont_bytes n = to_be_bytes w32 n

abbrev pub datum_bytes : Datum → List ℕ
datum_bytes d = cont_bytes d.cont.0 ++ state_bytes d.state

-- the data that fit it: numbers of 4 bytes, and states that fit
abbrev pub DatumFits : Datum → Type 0
DatumFits d = (d.cont.0 < 2 ^ 32) × StateFits d.state
