-- What is written, and where JSON doesn't have it.
use Rattle.std.specs.Prelude.{Bool, if◌then◌else◌, Result, Ok, Err}
use Rattle.json_write_contracts.specs.declared.fault.WriteFault.{WriteFault}
use Rattle.json_write_contracts.specs.declared.fault.WriteFault.TheVariants as faults

-- what is written, where JSON has all its numbers
abbrev pub in_range : {W : Type 0} → Bool → W → Result W WriteFault
in_range fits w = if fits then Ok w else Err faults.OutOfRange
