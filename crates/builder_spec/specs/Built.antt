-- What a builder answers.
use Rattle.std.specs.Prelude.{Option, Some, None, Result, Ok, Err}
use Rattle.ledger.specs.EutxoTypes.declared.tx.Tx.{Tx}
use Rattle.builder_spec.specs.declared.fault.BuildFault.{BuildFault}

-- the fault that hinders the request; or, where nothing does, its layout
abbrev pub build_answer : Option BuildFault → Tx → Result Tx BuildFault
build_answer None layout = Ok layout
build_answer (Some fault) layout = Err fault
