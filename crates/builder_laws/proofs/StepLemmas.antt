-- What is left of the clauses, where nothing hinders a step.
use Rattle.std.proofs.Common.{◌≡◌, true, not, List, [], ◌∷◌, ◌++◌, None, Ok}
use Rattle.std.specs.Prelude.{is_none}
use Rattle.std.specs.List.{list_all, filter_map, AllByRecursion}
use Rattle.ledger_spec.specs.Semantics.Walk.{Standing, answer_of}
use Rattle.ledger_spec.specs.Roles.declared.published.Published.{Published}
use Rattle.ledger_spec.specs.Roles.Steps.{actor}
use Rattle.ledger_spec.specs.Ledger.declared.look.Unspent.{Unspent}
use Rattle.ledger_spec.specs.BuilderSpec.declared.fault.BuildFault.TheVariants.{NotAuthorised, NoFunds}
use Rattle.ledger_spec.specs.BuilderSpec.Requests.{StepRequest}
use Rattle.ledger_spec.specs.BuilderSpec.Holding.{holds_token, least_lacking}
use Rattle.ledger_spec.specs.BuilderSpec.Fronts.{suffices}
use Rattle.ledger_spec.specs.BuilderSpec.Causes.{signature_cause, funds_cause, repeat_cause}
use Rattle.ledger_spec.specs.BuilderSpec.Steps.{Thread, step_walk, semantics_cause, roles_of, deposits, may_act, authority_cause, step_front, own_output}
use Rattle.ledger_spec.proofs.FromBuilderSpec.OnePartLaws.{step_limit_cause, hinders_thread}
use Rattle.ledger_spec.proofs.FromBuilderSpec.SufficesLaws.{front_suffices}
use Rattle.builder_laws.proofs.TestLemmas.{Nowhere, both, together, everywhere_all, found_nowhere, each_none, unmapped}
use Rattle.builder_laws.proofs.FrontLemmas.{shortest_rest}
use Rattle.builder_laws.proofs.CausesLemmas.{is_nothing}
use Rattle.builder_laws.proofs.ActingLemmas.{offers_roles, ends_well}

module _ (r : StepRequest) (e : Thread) (clear : hinders_thread r e ≡ None) where
  abbrev p : Published
  p = e.shown.published

  abbrev fs : List Unspent
  fs = step_front r e

  clauses : AllByRecursion (λ x. x ≡ None) (semantics_cause (answer_of (step_walk r e)) ∷ signature_cause r.signers r.offered ∷ authority_cause p.currency r.signers r.offered r.inputs ∷ funds_cause (deposits r.inputs) r.offered ∷ step_limit_cause r.inputs (own_output e ∷ fs) ∷ repeat_cause (own_output e ∷ r.offered) ∷ [])
  clauses = each_none (semantics_cause (answer_of (step_walk r e)) ∷ signature_cause r.signers r.offered ∷ authority_cause p.currency r.signers r.offered r.inputs ∷ funds_cause (deposits r.inputs) r.offered ∷ step_limit_cause r.inputs (own_output e ∷ fs) ∷ repeat_cause (own_output e ∷ r.offered) ∷ []) clear

  pub succeeds : (a : Standing) × (answer_of (step_walk r e) ≡ Ok a)
  succeeds = ends_well (answer_of (step_walk r e)) clauses.0

  pub later : (more : List Unspent) × (r.offered ≡ fs ++ more)
  later = shortest_rest (suffices (roles_of p.currency r.inputs) (deposits r.inputs)) r.offered

  parties : Nowhere (λ q. not (may_act p.currency r.signers r.offered q)) (filter_map actor r.inputs)
  parties = found_nowhere (λ q. not (may_act p.currency r.signers r.offered q)) (filter_map actor r.inputs) (unmapped NotAuthorised _ clauses.1.1.0)

  -- the front holds the tokens of the roles, and nothing lacks in it
  pub enough : (list_all (holds_token fs) (roles_of p.currency r.inputs) ≡ true) × (is_none (least_lacking (deposits r.inputs) fs) ≡ true)
  enough =
      let ts = roles_of p.currency r.inputs in
      let ns = deposits r.inputs in
      both (list_all (holds_token fs) ts) (is_none (least_lacking ns fs)) (front_suffices ts ns r.offered (together (list_all (holds_token r.offered) ts) (is_none (least_lacking ns r.offered))
      (everywhere_all (holds_token r.offered) ts (offers_roles p.currency r.signers r.offered (filter_map actor r.inputs) parties))
      (is_nothing (least_lacking ns r.offered) (unmapped NoFunds _ clauses.1.1.1.0))))
