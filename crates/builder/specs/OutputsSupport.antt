-- No reader needs this file: what a step makes, by the outcome of its contract.
use Rattle.std.specs.Prelude.{Bool, if◌then◌else◌, List, [], ◌∷◌, ◌++◌, map}
use Rattle.contract.specs.declared.outcome.Outcome.{Outcome}
use Rattle.builder_spec.specs.Nodes.declared.cont.Cont.{Cont}
use Rattle.builder_spec.specs.Machine.declared.datum.Datum.{Datum}
use Rattle.builder_spec.specs.EutxoTypes.declared.output.Output.{Output}
use Rattle.builder_spec.specs.Roles.declared.published.Published.{Published}
use Rattle.builder_spec.specs.Roles.Steps.{continuation, due_outputs}

-- the datum from which the contract goes on, unless it is Close
abbrev pub data_left : Bool → Outcome Cont → List Datum
data_left closed out = if closed then [] else record { cont = out.place; state = out.state } ∷ []

-- its output, and those that are due for the payments
abbrev pub outcome_outputs : Published → Bool → Outcome Cont → List Output
outcome_outputs p closed out = map (continuation p.id) (data_left closed out) ++ due_outputs p.currency out.payments
