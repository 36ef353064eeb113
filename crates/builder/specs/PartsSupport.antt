-- No reader needs this file: what is known of a request of parts, once nothing hinders it.
use Rattle.std.specs.Prelude.{◌≡◌, true, false, List, [], ◌∷◌, ◌++◌, map, is_none, Option, option_map, Ok}
use Rattle.std.specs.FinMap.{entries}
use Rattle.contract.specs.declared.outcome.Outcome.{Outcome}
use Rattle.contract.specs.States.States as states
use Rattle.builder_spec.specs.Semantics.Walk.{standing, answer_of}
use Rattle.builder_spec.specs.Nodes.declared.cont.Cont.{Cont}
use Rattle.builder_spec.specs.Table.Flat.{Has, a_cont, cont_tree, is_close}
use Rattle.builder_spec.specs.Bundle.Bundles.{AllPositive}
use Rattle.builder_spec.specs.Machine.declared.datum.Datum.{Datum}
use Rattle.builder_spec.specs.EutxoTypes.declared.output.Output.{Output}
use Rattle.builder_spec.specs.Eutxo.Faults.{first_of}
use Rattle.builder_spec.specs.Roles.Sums.{sums_of}
use Rattle.builder_spec.specs.declared.fault.BuildFault.{BuildFault}
use Rattle.builder_spec.specs.Requests.{Part, StepsRequest}
use Rattle.builder_spec.specs.Causes.{signature_cause, funds_cause, repeat_cause, is_much}
use Rattle.builder_spec.specs.Holding.{sums, amount_in, least_lacking, AreBundles}
use Rattle.builder_spec.specs.Steps.{Stepped, look_thread, thread_terms}
use Rattle.builder_spec.specs.Parts.{part_walk, all_deposits, own_outputs, parts_front, parts_spent, parts_authority_cause, parts_limit_cause}
use Rattle.builder.specs.FundsSupport.{Funds}
use Rattle.builder.specs.OutputsSupport.{data_left, outcome_outputs}

-- the thread that a part's look shows, with the part's inputs
abbrev pub stepped_at : Part → Option Stepped
stepped_at p = option_map (λ e. record { thread = e; inputs = p.inputs }) (look_thread p.look)

-- the clauses after the contracts' answers
abbrev pub parts_causes_after_contracts : StepsRequest → List Stepped → Option BuildFault
parts_causes_after_contracts r ss =
    first_of
    (signature_cause r.signers r.offered
    ∷ parts_authority_cause r ss
    ∷ funds_cause (all_deposits ss) r.offered
    ∷ parts_limit_cause ss (parts_spent r ss)
    ∷ repeat_cause (own_outputs ss ++ r.offered)
    ∷ [])

-- the parts spend this, and the front covers their deposits
pub record ArePartsFunds (r : StepsRequest) (ss : List Stepped) (funds : Funds) : Type 0 where
  pub all : funds.all ≡ sums amount_in (parts_spent r ss)
  pub front : funds.front ≡ parts_front r ss
  pub covered : is_none (least_lacking (all_deposits ss) funds.front) ≡ true
  pub bundles : AreBundles amount_in funds.front

-- a thread stands at a number of its table, and its output holds the sums of its accounts
pub record IsStanding (s : Stepped) : Type 0 where
  pub has : (thread_terms s.thread).has s.thread.datum.cont ≡ true
  pub held : s.thread.shown.output.amount ≡ sums_of s.thread.datum.state

abbrev pub AreStanding : List Stepped → Type 0
AreStanding [] = Unit {0}
AreStanding (s ∷ ss) = IsStanding s × AreStanding ss

-- the transaction function leaves this outcome of a part
pub record IsOutcome (r : StepsRequest) (s : Stepped) (out : Outcome Cont) : Type 0 where
  pub ended : answer_of (part_walk r s) ≡ Ok (standing out.state (cont_tree s.thread.shown.published.table out.place.0))
  pub paid : out.payments ≡ (part_walk r s).payments
  pub led : (thread_terms s.thread).at s.thread.datum.cont (part_walk r s).turns ≡ out.place
  pub has : Has s.thread.shown.published.table (a_cont out.place.0)

abbrev pub AreOutcomes : StepsRequest → List Stepped → List (Outcome Cont) → Type 0
AreOutcomes r [] [] = Unit {0}
AreOutcomes r (s ∷ ss) (out ∷ outs) = IsOutcome r s out × AreOutcomes r ss outs
AreOutcomes r _ _ = ⊥

-- what a thread's output holds and what is in its accounts is above 0
pub record IsPositive (s : Stepped) : Type 0 where
  pub accounts : states.AllPositive (entries s.thread.datum.state.accounts)
  pub amounts : AllPositive (entries s.thread.shown.output.amount)

abbrev pub ArePositive : List Stepped → Type 0
ArePositive [] = Unit {0}
ArePositive (s ∷ ss) = IsPositive s × ArePositive ss

-- the steps may be laid out
pub record AreFinished (r : StepsRequest) (ss : List Stepped) (spent : Funds) (outs : List (Outcome Cont)) : Type 0 where
  pub standing : AreStanding ss
  pub funds : ArePartsFunds r ss spent
  pub outcomes : AreOutcomes r ss outs

-- for each outcome there is a part, whose number is one of its table, and no sum of what is left is too large for an amount
abbrev pub HaveRoom : List Stepped → List (Outcome Cont) → Type 0
HaveRoom [] [] = Unit {0}
HaveRoom (s ∷ ss) (out ∷ outs) = Has s.thread.shown.published.table (a_cont out.place.0) × (is_much (sums_of out.state) ≡ false) × HaveRoom ss outs
HaveRoom _ _ = ⊥

-- the outputs of the blocks, by the outcomes
abbrev pub outcomes_outputs : List Stepped → List (Outcome Cont) → List Output
outcomes_outputs [] outs = []
outcomes_outputs (s ∷ ss) [] = []
outcomes_outputs (s ∷ ss) (out ∷ outs) =
    let p = s.thread.shown.published in outcome_outputs p (is_close (cont_tree p.table out.place.0)) out ++ outcomes_outputs ss outs

-- and the data from which contracts go on
abbrev pub data_after : List Stepped → List (Outcome Cont) → List Datum
data_after [] outs = []
data_after (s ∷ ss) [] = []
data_after (s ∷ ss) (out ∷ outs) = data_left (is_close (cont_tree s.thread.shown.published.table out.place.0)) out ++ data_after ss outs

abbrev pub outcomes_data : List Stepped → List (Outcome Cont) → List Datum
outcomes_data ss outs = map (λ s. s.thread.datum) ss ++ data_after ss outs
