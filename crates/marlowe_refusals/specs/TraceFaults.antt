-- The faults of transactions one after another: want of memory is that of a run, whatever it befell.
use Rattle.std.specs.Prelude.{ℕ, Result, Ok, Err}
use Rattle.contract.specs.declared.fault.SemFault.{SemFault}
use Rattle.contract.specs.declared.fault.SemFault.TheVariants as sem
use Rattle.json_read_transactions.specs.declared.fault.ReadFault.{ReadFault}
use Rattle.json_read_transactions.specs.declared.fault.ReadFault.TheVariants as reading
use Rattle.marlowe_refusals.specs.declared.fault.RunFault.TheVariants as run
use Rattle.marlowe_refusals.specs.declared.trace_fault.TraceFault.{TraceFault}
use Rattle.marlowe_refusals.specs.declared.trace_fault.TraceFault.TheVariants as trace

-- a result, whose fault is told as another
abbrev pub told_as : {X F G : Type 0} → (F → G) → Result X F → Result X G
told_as fault (Ok x) = Ok x
told_as fault (Err f) = Err (fault f)

abbrev pub texts_fault : ReadFault → TraceFault
texts_fault (reading.Text number fault) = trace.Text number fault
texts_fault reading.TooMany = trace.TooMany
texts_fault reading.Memory = trace.Run run.Memory

abbrev pub refused_fault : ℕ → SemFault → TraceFault
refused_fault number sem.Memory = trace.Run run.Memory
refused_fault number other = trace.Refused number other
