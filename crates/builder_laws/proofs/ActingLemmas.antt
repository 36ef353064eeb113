-- Who may act in steps, and where the transaction function succeeds.
use Rattle.std.proofs.Common.{◌≡◌, ℕ, not, List, [], ◌∷◌, refl, ap, ◌∙◌, None, Result, Ok, Err}
use Rattle.std.specs.List.{filter_map}
use Rattle.contract.specs.declared.fault.SemFault.{SemFault}
use Rattle.contract.specs.Names.declared.party.Party.{Party}
use Rattle.contract.specs.Names.declared.party.Party.TheVariants.{Address, Role}
use Rattle.ledger_spec.specs.Semantics.Walk.{Standing}
use Rattle.ledger_spec.specs.EutxoTypes.declared.output.Output.{Output}
use Rattle.ledger_spec.specs.EutxoTypes.declared.spend.Spend.{Spend}
use Rattle.ledger_spec.specs.Roles.Steps.{holds_role, role_token, authorised}
use Rattle.ledger_spec.specs.Ledger.declared.look.Unspent.{Unspent}
use Rattle.ledger_spec.specs.BuilderSpec.Holding.{holds_token}
use Rattle.ledger_spec.specs.BuilderSpec.Steps.{semantics_cause, token_of, may_act}
use Rattle.builder_laws.proofs.TestLemmas.{Nowhere, Everywhere, not_not}

-- where all may act, the tokens of their roles are offered
pub offers_roles : (currency : List ℕ) (signers : List (List ℕ)) (offered : List Unspent) (ps : List Party) → Nowhere (λ p. not (may_act currency signers offered p)) ps → Everywhere (holds_token offered) (filter_map (token_of currency) ps)
offers_roles currency signers offered [] h = tt
offers_roles currency signers offered (Address a ∷ ps) h = offers_roles currency signers offered ps h.1
offers_roles currency signers offered (Role r ∷ ps) h = (not_not (holds_token offered (role_token currency r)) h.0, offers_roles currency signers offered ps h.1)

-- who may act with what is offered acts with a front that holds the tokens of the roles
pub all_act : (currency : List ℕ) (signers : List (List ℕ)) (offered fs : List Unspent) (ys : List (Spend × Output)) → ((r : List ℕ) → holds_role ys currency r ≡ holds_token fs (role_token currency r)) → (ps : List Party) →
    Nowhere (λ p. not (may_act currency signers offered p)) ps → Everywhere (holds_token fs) (filter_map (token_of currency) ps) → Nowhere (λ p. not (authorised currency signers ys p)) ps
all_act currency signers offered fs ys holds [] h k = tt
all_act currency signers offered fs ys holds (Address a ∷ ps) h k = (h.0, all_act currency signers offered fs ys holds ps h.1 k)
all_act currency signers offered fs ys holds (Role r ∷ ps) h k = (ap not (holds r ∙ k.0), all_act currency signers offered fs ys holds ps h.1 k.1)

-- where the transaction function succeeds
pub ends_well : (end : Result Standing SemFault) → semantics_cause end ≡ None → (a : Standing) × (end ≡ Ok a)
ends_well (Ok a) h = (a, refl)
ends_well (Err f) h = cc
