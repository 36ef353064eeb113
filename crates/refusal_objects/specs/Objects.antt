-- A refusal as JSON, and the status that goes with it.
use Rattle.std.specs.Prelude.{ℕ, List, [], ◌∷◌, ◌++◌, codes, decimal}
use Rattle.marlowe_refusals.specs.declared.fault.RunFault.{RunFault}
use Rattle.marlowe_refusals.specs.declared.fault.RunFault.TheVariants as run
use Rattle.marlowe_refusals.specs.declared.table_fault.TableFault.{TableFault}
use Rattle.marlowe_refusals.specs.declared.table_fault.TableFault.TheVariants as table
use Rattle.marlowe_refusals.specs.declared.trace_fault.TraceFault.{TraceFault}
use Rattle.marlowe_refusals.specs.declared.trace_fault.TraceFault.TheVariants as trace
use Rattle.marlowe_refusals.specs.declared.fault.Fault.{Fault}
use Rattle.marlowe_refusals.specs.declared.fault.Fault.TheVariants as fault
use Rattle.marlowe_refusals.specs.Refusals.{json_fault_name, sem_fault_name, write_fault_name, compile_fault_name}

-- ---- the object

-- what is refused, and the name of the fault: both are words
abbrev pub named : List ℕ → List ℕ → List ℕ
named what name = codes "\"of\":\"" ++ (what ++ (codes "\",\"name\":\"" ++ (name ++ codes "\"")))

-- .. of a transaction, its number too
abbrev pub numbered : ℕ → List ℕ → List ℕ
numbered number name = codes "\"of\":\"transaction\",\"name\":\"" ++ (name ++ (codes "\",\"number\":" ++ decimal number))

-- what else is told, if anything is, behind a comma
abbrev pub behind : List ℕ → List ℕ
behind [] = []
behind (n ∷ ns) = codes "," ++ (n ∷ ns)

-- the object of these members and of what else is told
abbrev pub refused_object : List ℕ → List ℕ → List ℕ
refused_object members told = codes "{" ++ (members ++ (behind told ++ codes "}"))

-- .. as `refused` of an object, on a line
abbrev pub refused_line : List ℕ → List ℕ → List ℕ
refused_line members told = codes "{\"refused\":" ++ (refused_object members told ++ (codes "}" ++ 10 ∷ []))

-- ---- the members for a fault

abbrev pub run_members : RunFault → List ℕ
run_members (run.Contract f) = named (codes "contract") (json_fault_name f)
run_members (run.State f) = named (codes "state") (json_fault_name f)
run_members (run.Transaction f) = named (codes "transaction") (json_fault_name f)
run_members (run.Semantics f) = named (codes "transaction") (sem_fault_name f)
run_members (run.Write f) = named (codes "outcome") (write_fault_name f)
run_members run.Memory = named (codes "memory") (codes "Memory")

abbrev pub table_members : TableFault → List ℕ
table_members (table.Contract f) = named (codes "contract") (json_fault_name f)
table_members (table.Compile f) = named (codes "table") (compile_fault_name f)
table_members table.Memory = named (codes "memory") (codes "Memory")

abbrev pub trace_members : TraceFault → List ℕ
trace_members (trace.Run f) = run_members f
trace_members (trace.Text number f) = numbered number (json_fault_name f)
trace_members trace.TooMany = numbered 10001 (codes "TooMany")
trace_members (trace.Refused number f) = numbered number (sem_fault_name f)

abbrev pub fault_members : Fault → List ℕ
fault_members (fault.Run f) = run_members f
fault_members (fault.Table f) = table_members f
fault_members (fault.Trace f) = trace_members f

-- ---- the status for a fault: 4 where a text isn't read, and 1 where the compiler, a transaction's rules or memory refuse

abbrev pub run_status : RunFault → ℕ
run_status (run.Contract f) = 4
run_status (run.State f) = 4
run_status (run.Transaction f) = 4
run_status (run.Semantics f) = 1
run_status (run.Write f) = 1
run_status run.Memory = 1

abbrev pub table_status : TableFault → ℕ
table_status (table.Contract f) = 4
table_status (table.Compile f) = 1
table_status table.Memory = 1

abbrev pub trace_status : TraceFault → ℕ
trace_status (trace.Run f) = run_status f
trace_status (trace.Text number f) = 4
trace_status trace.TooMany = 4
trace_status (trace.Refused number f) = 1

abbrev pub fault_status : Fault → ℕ
fault_status (fault.Run f) = run_status f
fault_status (fault.Table f) = table_status f
fault_status (fault.Trace f) = trace_status f
