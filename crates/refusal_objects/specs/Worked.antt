-- Worked rows of refusals as JSON, computed on the definitions.
use Rattle.std.specs.Prelude.{◌≡◌, ◌++◌, ◌∷◌, [], codes}
use Rattle.contract.specs.declared.fault.SemFault.TheVariants as sem
use Rattle.json_read_names.specs.declared.fault.JsonFault.TheVariants as json
use Rattle.marlowe_refusals.specs.declared.fault.Fault.TheVariants as fault
use Rattle.marlowe_refusals.specs.declared.fault.RunFault.TheVariants as run
use Rattle.marlowe_refusals.specs.declared.trace_fault.TraceFault.TheVariants as trace
use Rattle.refusal_objects.specs.Objects.{fault_members, fault_status, refused_line}

-- a text that is no contract: `{"refused":{"of":"contract","name":"NoForm"}}`, with status 4
abbrev pub OneRefusal : Type 0
OneRefusal = (refused_line (fault_members (fault.Run (run.Contract json.NoForm))) [] ≡ codes "{\"refused\":{\"of\":\"contract\",\"name\":\"NoForm\"}}" ++ 10 ∷ [])
    × (fault_status (fault.Run (run.Contract json.NoForm)) ≡ 4)

-- the same with a line of its text
abbrev pub WithMore : Type 0
WithMore = refused_line (fault_members (fault.Run (run.Contract json.NoForm))) (codes "\"line\":3")
    ≡ codes "{\"refused\":{\"of\":\"contract\",\"name\":\"NoForm\",\"line\":3}}" ++ 10 ∷ []

-- the second of many transactions is refused: with status 1
abbrev pub NumberedRefusal : Type 0
NumberedRefusal = (refused_line (fault_members (fault.Trace (trace.Refused 2 sem.NoMatch))) []
    ≡ codes "{\"refused\":{\"of\":\"transaction\",\"name\":\"NoMatch\",\"number\":2}}" ++ 10 ∷ [])
    × (fault_status (fault.Trace (trace.Refused 2 sem.NoMatch)) ≡ 1)
