-- Steps of threads in one transaction: what hinders a request of parts, and how it is laid out. Each clause is asked of all parts. A step of one
-- thread is steps of one part.
use Rattle.std.specs.Prelude.{◌≡◌, ℕ, ℤ, nat_lt, Bool, false, not, ◌&&◌, ◌||◌, if◌then◌else◌, List, [], ◌∷◌, ◌++◌, map, length, All, Option, Some, None, option_map}
use Rattle.std.specs.List.{list_any, flat_map}
use Rattle.contract.specs.Collections.Same.{same_by}
use Rattle.contract.specs.Names.declared.token.Token.{Token}
use Rattle.contract.specs.declared.input.Input.{Input}
use Rattle.ledger.specs.Semantics.Walk.{Walk, answer_of}
use Rattle.ledger.specs.Machine.declared.datum.Datum.{Datum}
use Rattle.ledger.specs.EutxoTypes.declared.output.Output.{Output}
use Rattle.ledger.specs.EutxoTypes.declared.output_ref.OutputRef.{OutputRef}
use Rattle.ledger.specs.EutxoTypes.declared.tx.Tx.{Tx}
use Rattle.ledger.specs.EutxoTypes.Parts.{same_bytes}
use Rattle.ledger.specs.Eutxo.Faults.{first_of}
use Rattle.ledger.specs.Eutxo.Judgement.{Moment}
use Rattle.ledger.specs.Roles.contracts.published.Published as publications
use Rattle.ledger.specs.Roles.declared.published.Published.{Published}
use Rattle.ledger.specs.declared.look.Look.{Look}
use Rattle.ledger.specs.declared.look.Unspent.{Unspent}
use Rattle.ledger.specs.Shown.{output_shown, script_shown}
use Rattle.builder_spec.specs.declared.fault.BuildFault.{BuildFault}
use Rattle.builder_spec.specs.declared.fault.BuildFault.TheVariants.{NoThread, TooMany}
use Rattle.builder_spec.specs.Requests.{StepRequest, Part, StepsRequest, one_part}
use Rattle.builder_spec.specs.Fronts.{front}
use Rattle.builder_spec.specs.Causes.{signature_cause, funds_cause, limit_cause, repeat_cause}
use Rattle.builder_spec.specs.Laying.{by_key, by_step, paid_to, rest}
use Rattle.builder_spec.specs.Steps.{Thread, Stepped, look_thread, stepped_walk, semantics_cause, authority_cause, roles_of, deposits, own_output, step_outputs_of, next_data_of}

-- ---- 1: the threads, where there are parts, each shows one that stands, and no two show different publications under one script

abbrev pub and_stepped : Option Thread → List Input → Option (List Stepped) → Option (List Stepped)
and_stepped None xs rest = None
and_stepped (Some e) xs rest = option_map (λ ss. record { thread = e; inputs = xs } ∷ ss) rest

abbrev pub stepped_in : List Part → Option (List Stepped)
stepped_in [] = Some []
stepped_in (p ∷ ps) = and_stepped (look_thread p.look) p.inputs (stepped_in ps)

abbrev pub same_published : Published → Published → Bool
same_published = same_by publications.the_row.coded

-- of one script two looks show different publications
abbrev pub clash : Stepped → Stepped → Bool
clash a b = same_bytes a.thread.shown.published.id b.thread.shown.published.id && not (same_published a.thread.shown.published b.thread.shown.published)

abbrev pub has_clash : List Stepped → Bool
has_clash [] = false
has_clash (s ∷ ss) = list_any (clash s) ss || has_clash ss

abbrev pub unless_clash : List Stepped → Option (List Stepped)
unless_clash [] = None
unless_clash (s ∷ ss) = if has_clash (s ∷ ss) then None else Some (s ∷ ss)

abbrev pub agreeing : Option (List Stepped) → Option (List Stepped)
agreeing None = None
agreeing (Some ss) = unless_clash ss

abbrev pub threads_of : List Part → Option (List Stepped)
threads_of ps = agreeing (stepped_in ps)

-- ---- what they need and spend together

abbrev pub part_walk : StepsRequest → Stepped → Walk
part_walk r s = stepped_walk r.interval s

abbrev pub all_roles : List Stepped → List Token
all_roles ss = flat_map (λ s. roles_of s.thread.shown.published.currency s.inputs) ss

abbrev pub all_deposits : List Stepped → List (Token × ℤ)
all_deposits ss = flat_map (λ s. deposits s.inputs) ss

abbrev pub own_outputs : List Stepped → List Unspent
own_outputs ss = map (λ s. own_output s.thread) ss

abbrev pub parts_front : StepsRequest → List Stepped → List Unspent
parts_front r ss = front (all_roles ss) (all_deposits ss) r.offered

abbrev pub parts_spent : StepsRequest → List Stepped → List Unspent
parts_spent r ss = own_outputs ss ++ parts_front r ss

-- what each part's look shows under its thread's script is published there
abbrev pub ArePublished : (List ℕ → Option Published) → List Stepped → Type 0
ArePublished named ss = All (λ s. named s.thread.shown.published.id ≡ Some s.thread.shown.published) ss

-- ---- WHAT HINDERS STEPS: the first of seven clauses that fails, and of 2 and 4 as the first part fails it

-- 2: of the parts, the first whose contract refuses
abbrev pub parts_semantics_cause : StepsRequest → List Stepped → Option BuildFault
parts_semantics_cause r ss = first_of (map (λ s. semantics_cause (answer_of (part_walk r s))) ss)

-- 4: of the parts, the first of which a party may not act, with its own currency
abbrev pub parts_authority_cause : StepsRequest → List Stepped → Option BuildFault
parts_authority_cause r ss = first_of (map (λ s. authority_cause s.thread.shown.published.currency r.signers r.offered s.inputs) ss)

-- 6: there are more than 8 parts, or more than 256 inputs of one; and the limits on what is spent
abbrev pub parts_limit_cause : List Stepped → List Unspent → Option BuildFault
parts_limit_cause ss spent = if nat_lt 8 (length ss) || list_any (λ s. nat_lt 256 (length s.inputs)) ss then Some TooMany else limit_cause spent

abbrev pub hinders_threads : StepsRequest → List Stepped → Option BuildFault
hinders_threads r ss =
    first_of
    (parts_semantics_cause r ss
    ∷ signature_cause r.signers r.offered
    ∷ parts_authority_cause r ss
    ∷ funds_cause (all_deposits ss) r.offered
    ∷ parts_limit_cause ss (parts_spent r ss)
    ∷ repeat_cause (own_outputs ss ++ r.offered)
    ∷ [])

abbrev pub hinders_parts : StepsRequest → Option (List Stepped) → Option BuildFault
hinders_parts r None = Some NoThread
hinders_parts r (Some ss) = hinders_threads r ss

abbrev pub hinders_steps : StepsRequest → Option BuildFault
hinders_steps r = hinders_parts r (threads_of r.parts)

-- ---- THEIR LAYOUT: the threads' outputs in the order of the parts and the front are spent; a block for each part, and then the change; the
-- threads' data are brought, and then those from which contracts go on

abbrev pub part_outputs : StepsRequest → Stepped → List Output
part_outputs r s = step_outputs_of s.thread (part_walk r s) (answer_of (part_walk r s))

abbrev pub parts_outputs : StepsRequest → List Stepped → List Output
parts_outputs r ss = flat_map (part_outputs r) ss

abbrev pub next_part_data : StepsRequest → Stepped → List Datum
next_part_data r s = next_data_of s.thread (part_walk r s) (answer_of (part_walk r s))

abbrev pub parts_data : StepsRequest → List Stepped → List Datum
parts_data r ss = map (λ s. s.thread.datum) ss ++ flat_map (next_part_data r) ss

abbrev pub layout_threads : StepsRequest → List Stepped → Tx
layout_threads r ss = record {
  inputs = map (λ s. by_step s.inputs (own_output s.thread)) ss ++ map by_key (parts_front r ss);
  outputs = parts_outputs r ss ++ paid_to r.change (rest (parts_spent r ss) (parts_outputs r ss));
  interval = r.interval;
  signers = r.signers;
  datums = parts_data r ss;
}

-- where there are no threads, nothing is laid out
abbrev pub layout_parts : StepsRequest → Option (List Stepped) → Tx
layout_parts r None = record { inputs = []; outputs = []; interval = r.interval; signers = r.signers; datums = [] }
layout_parts r (Some ss) = layout_threads r ss

abbrev pub layout_steps : StepsRequest → Tx
layout_steps r = layout_parts r (threads_of r.parts)

-- ---- A STEP of the thread that a look shows is steps of one part

abbrev pub hinders_step : Look → StepRequest → Option BuildFault
hinders_step look r = hinders_steps (one_part look r)

abbrev pub layout_step : Look → StepRequest → Tx
layout_step look r = layout_steps (one_part look r)

-- ---- what the looks of parts hold of what the rules read of a ledger: of each output and script what the first part shows that shows it

abbrev pub output_by_parts : List Part → OutputRef → Option Output
output_by_parts ps r = first_of (map (λ p. output_shown p.look r) ps)

abbrev pub script_by_parts : List Part → List ℕ → Option Published
script_by_parts ps id = first_of (map (λ p. script_shown p.look.thread id) ps)

-- at a tick, of which the resolution of a transaction tells nothing, and of the ids in use neither
abbrev pub parts_moment : List Part → ℤ → Moment Published
parts_moment ps tick = record { unspent = output_by_parts ps; published = script_by_parts ps; is_used = λ id. false; tick = tick }
