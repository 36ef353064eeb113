-- Why a line isn't answered by what it asks, and how that is told.
use Rattle.std.specs.Prelude.{ℕ, List, ◌++◌, codes, decimal}
use Rattle.marlowe_run.specs.JsonReadNames.declared.fault.JsonFault.{JsonFault}
use Rattle.marlowe_run.specs.JsonReadNames.declared.fault.JsonFault.TheVariants as json
use Rattle.marlowe_run.specs.MarloweRefusals.declared.fault.Fault.TheVariants as fault
use Rattle.marlowe_run.specs.MarloweRefusals.declared.fault.RunFault.{RunFault}
use Rattle.marlowe_run.specs.MarloweRefusals.declared.fault.RunFault.TheVariants as run
use Rattle.marlowe_run.specs.MarloweRefusals.declared.table_fault.TableFault.{TableFault}
use Rattle.marlowe_run.specs.MarloweRefusals.declared.table_fault.TableFault.TheVariants as table
use Rattle.marlowe_run.specs.MarloweRefusals.declared.trace_fault.TraceFault.{TraceFault}
use Rattle.marlowe_run.specs.MarloweRefusals.declared.trace_fault.TraceFault.TheVariants as trace
use Rattle.marlowe_run.specs.MarloweRefusals.Refusals.{json_fault_name}
use Rattle.refusal_objects.specs.Objects.{fault_members, named, refused_object}
use Rattle.request_parts.specs.declared.refusal.LineFault.{LineFault}
use Rattle.request_parts.specs.declared.refusal.LineFault.TheVariants as lines
use Rattle.request_parts.specs.declared.refusal.Part.{Part}
use Rattle.request_parts.specs.declared.refusal.Part.TheVariants as parts
use Rattle.request_parts.specs.declared.refusal.Refusal.{Refusal}
use Rattle.request_parts.specs.declared.refusal.Refusal.TheVariants as refusals

-- ---- what the commands refuse

abbrev pub run_refused : RunFault → Refusal
run_refused run.Memory = refusals.Memory
run_refused other = refusals.Command (fault.Run other)

abbrev pub trace_refused : TraceFault → Refusal
trace_refused (trace.Run f) = run_refused f
trace_refused other = refusals.Command (fault.Trace other)

abbrev pub table_refused : TableFault → Refusal
table_refused table.Memory = refusals.Memory
table_refused other = refusals.Command (fault.Table other)

abbrev pub part_refused : Part → JsonFault → Refusal
part_refused asked json.Memory = refusals.Memory
part_refused asked other = refusals.Part asked other

-- ---- the object that tells it

abbrev pub line_name : LineFault → List ℕ
line_name lines.TooLong = codes "TooLong"
line_name lines.NotJson = codes "NotJson"
line_name lines.NoObject = codes "NoObject"
line_name lines.NoRequest = codes "NoRequest"

abbrev pub part_word : Part → List ℕ
part_word parts.Read = codes "read"
part_word parts.Bytes = codes "bytes"
part_word parts.Define = codes "define"
part_word parts.Forget = codes "forget"
part_word parts.From = codes "from"
part_word parts.To = codes "to"
part_word parts.Input = codes "input"
part_word parts.Party = codes "party"
part_word parts.Token = codes "token"
part_word parts.Currency = codes "currency"

-- a line, by its number
abbrev pub line_members : LineFault → ℕ → List ℕ
line_members fault number = codes "\"of\":\"line\",\"name\":\"" ++ (line_name fault ++ (codes "\",\"line\":" ++ decimal number))

abbrev pub refusal_members : Refusal → List ℕ
refusal_members (refusals.Line fault number) = line_members fault number
refusal_members (refusals.Command fault) = fault_members fault
refusal_members (refusals.Part part fault) = named (part_word part) (json_fault_name fault)
refusal_members refusals.Undefined = named (codes "contract") (codes "Undefined")
refusal_members refusals.Full = named (codes "define") (codes "Full")
refusal_members refusals.NoPlay = named (codes "play") (codes "Unsupported")
refusal_members refusals.Memory = named (codes "memory") (codes "Memory")

-- .. and what else is told of it, which may be nothing
abbrev pub refusal_object : Refusal → List ℕ → List ℕ
refusal_object refusal reason = refused_object (refusal_members refusal) reason
