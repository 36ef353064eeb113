-- A start that nothing hinders is accepted.
use Rattle.std.proofs.Common.{◌≡◌, ℕ, zero, suc, ℤ, nat_lt, true, false, not, ◌&&◌, List, [], ◌∷◌, ◌++◌, map, drop, refl, sym, ap, ◌∙◌, subst, Option, Some, None}
use Rattle.std.specs.Prelude.{is_some, is_none}
use Rattle.std.specs.List.{slice_get, list_all, AllByRecursion}
use Rattle.std.proofs.lemmas.Bool.{eq-eqb}
use Rattle.std.specs.FinMap.{entries, empty, entries-from_sorted}
use Rattle.std.specs.declared.cmp.Ordering.{Ordering}
use Rattle.contract.proofs.FromCollections.Maps.{no_entries}
use Rattle.contract.specs.Names.Equal.{ada}
use Rattle.contract.specs.Names.Orders.{bytes_cmp, choice_id_cmp}
use Rattle.ledger_spec.specs.EutxoTypes.declared.output.Output.{Output}
use Rattle.ledger_spec.specs.EutxoTypes.declared.redeemer.Redeemer.TheVariants as with
use Rattle.ledger_spec.specs.EutxoTypes.declared.spend.Spend.{Spend}
use Rattle.ledger_spec.specs.EutxoTypes.declared.tx.Tx.{Tx}
use Rattle.ledger_spec.specs.Eutxo.Found.{script_at, is_known, all_known}
use Rattle.ledger_spec.specs.Eutxo.Laws.{FoundIsEnough}
use Rattle.ledger_spec.specs.Eutxo.Local.{tx_fault, spent_fault}
use Rattle.ledger_spec.specs.EutxoTypes.Digests.{datum_hash}
use Rattle.ledger_spec.specs.EutxoTypes.Parts.{is_contract, made_datums, contract_at}
use Rattle.ledger_spec.specs.Eutxo.Faults.{is_empty}
use Rattle.ledger_spec.specs.Eutxo.Blocks.{step_fault}
use Rattle.ledger_spec.specs.Eutxo.Rules.{starts_wrong, starts_wrong_at, steps_of, wrong_datum}
use Rattle.ledger_spec.specs.Roles.declared.published.Published.{Published}
use Rattle.ledger_spec.specs.Roles.Sums.{sums_of}
use Rattle.ledger_spec.specs.Roles.Steps.{same_cont, is_fresh, same_amounts, starts_from, marlowe}
use Rattle.ledger_spec.proofs.FromRoles.OwedLaws.{same_amounts_itself}
use Rattle.ledger_spec.specs.Ledger.declared.look.Unspent.{Unspent}
use Rattle.ledger_spec.specs.BuilderSpec.declared.fault.BuildFault.TheVariants.{NoFunds}
use Rattle.ledger_spec.specs.BuilderSpec.Requests.{StartRequest}
use Rattle.ledger_spec.specs.BuilderSpec.Holding.{least_lacking}
use Rattle.ledger_spec.specs.BuilderSpec.Causes.{signature_cause, funds_cause, limit_cause, repeat_cause}
use Rattle.ledger_spec.specs.BuilderSpec.Laying.{by_key, paid_to, rest}
use Rattle.ledger_spec.specs.BuilderSpec.Starts.{fresh_state, accounts_of, covers_accounts, start_front, start_funds_cause, hinders_start, start_datum, start_output, layout_start}
use Rattle.ledger_spec.proofs.FromBuilderSpec.FrontsLaws.{shortest_passes}
use Rattle.builder_laws.specs.Accepting.{StartsPass, StartsAreAccepted}
use Rattle.builder_laws.specs.AfterPasts.{BytesTellApart, StartsAreAcceptedAfter}
use Rattle.builder_laws.proofs.TestLemmas.{both, together, not_so, each_at, none_counted, each_none, unmapped, everywhere_all}
use Rattle.builder_laws.proofs.PairLemmas.{laid, pairs, all_paired, all_named, AreKeyed, nowhere_keys, no_step, no_steps}
use Rattle.builder_laws.proofs.DatumLemmas.{none_spent, digests_made, none_wrong}
use Rattle.builder_laws.proofs.SumsLemmas.{total-changed}
use Rattle.builder_laws.proofs.FrontLemmas.{shortest_rest}
use Rattle.builder_laws.proofs.OutputLemmas.{IsSo, each_given, no_wrong_start, none_starts_wrong, made_first}
use Rattle.builder_laws.proofs.SpentLemmas.{first_rules, passing}
use Rattle.builder_laws.proofs.CausesLemmas.{is_nothing, unless_else, keyed_front, named_once, not_many, pairs_known}
use Rattle.builder_laws.proofs.AcceptingLemmas.{IsClean, passes, judged}
use Rattle.builder_laws.proofs.AfterPastsLemmas.{judged_after}

no_keys : (fs : List Unspent) → is_empty fs ≡ false → is_empty (map by_key fs) ≡ false
no_keys [] h = cc
no_keys (f ∷ fs) h = refl

none_in : {K : Type 0} (R : K → K → Ordering) → is_empty (entries (empty {X = ℤ} {R = R})) ≡ true
none_in R = ap is_empty (ap entries (sym (no_entries R)) ∙ entries-from_sorted R [] tt)

module _ (r : StartRequest) (clear : hinders_start r ≡ None) where
  abbrev fs : List Unspent
  fs = start_front r

  abbrev ys : List (Spend × Output)
  ys = pairs with.None [] fs

  abbrev output : Output
  output = start_output r

  abbrev change : List Output
  change = paid_to r.change (rest fs (output ∷ []))

  abbrev tx : Tx
  tx = laid with.None [] fs (output ∷ change) r.interval r.signers (start_datum r ∷ [])

  clauses : AllByRecursion (λ x. x ≡ None) (signature_cause r.signers r.offered ∷ start_funds_cause r ∷ limit_cause fs ∷ repeat_cause r.offered ∷ [])
  clauses = each_none (signature_cause r.signers r.offered ∷ start_funds_cause r ∷ limit_cause fs ∷ repeat_cause r.offered ∷ []) clear

  funded : (is_empty r.offered ≡ false) × (funds_cause (accounts_of r.state) r.offered ≡ None)
  funded = unless_else (is_empty r.offered) (NoFunds ada) (funds_cause (accounts_of r.state) r.offered) clauses.1.0

  -- the front has an output, and nothing lacks in it
  pub enough : (is_empty fs ≡ false) × (is_none (least_lacking (accounts_of r.state) fs) ≡ true)
  enough =
      let all = shortest_passes (covers_accounts r.state) r.offered (together (not (is_empty r.offered)) (is_none (least_lacking (accounts_of r.state) r.offered))
      (ap not funded.0) (is_nothing (least_lacking (accounts_of r.state) r.offered) (unmapped NoFunds _ funded.1))) in
      let k = both (not (is_empty fs)) (is_none (least_lacking (accounts_of r.state) fs)) all in
      (not_so (is_empty fs) k.0, k.1)

  pub later : (more : List Unspent) × (r.offered ≡ fs ++ more)
  later = shortest_rest (covers_accounts r.state) r.offered

  signed : AreKeyed r.signers fs
  signed = keyed_front r.signers fs later.0 r.offered later.1 clauses.0

  first : tx_fault tx ≡ None
  first = first_rules with.None [] fs (output ∷ change) r.interval r.signers (start_datum r ∷ []) (no_keys fs enough.0) (not_many fs clauses.1.1.0) refl (named_once [] fs later.0 r.offered later.1 clauses.1.1.1.0)

  -- its datum is that of the first output, and the change is no contract
  made_is : made_datums tx ≡ start_datum r ∷ []
  made_is = ap (λ n. drop n (start_datum r ∷ [])) (no_steps with.None refl [] fs)

  no_others : AllByRecursion (λ (o : Output). is_contract o.lock ≡ false) change
  no_others = let none : IsSo is_contract false = record { key = λ x. refl; payout = λ x y. refl } in each_given is_contract false none r.change (rest fs (output ∷ []))

  brought : wrong_datum tx ys ≡ None
  brought = none_wrong tx ys [] (datum_hash (start_datum r) ∷ []) (none_spent with.None r.signers [] fs tt signed) (digests_made r.published.id (start_datum r ∷ []) change no_others) refl

  -- it is a start
  starts : starts_from r.published.root (start_datum r) output.amount ≡ true
  starts =
      together (same_cont r.published.root r.published.root && is_fresh (fresh_state r.state)) (same_amounts (sums_of (fresh_state r.state)) (sums_of (fresh_state r.state)))
      (together (same_cont r.published.root r.published.root) (is_fresh (fresh_state r.state)) (eq-eqb r.published.root.0 r.published.root.0 refl)
      (together (is_empty (entries (empty {X = ℤ} {R = choice_id_cmp}))) (is_empty (entries (empty {X = ℤ} {R = bytes_cmp}))) (none_in choice_id_cmp) (none_in bytes_cmp)))
      (same_amounts_itself (sums_of (fresh_state r.state)))

  module _ (named : List ℕ → Option Published) (there : named r.published.id ≡ Some r.published) where
    starts_well : starts_wrong marlowe named output.amount (contract_at tx 0) ≡ false
    starts_well =
        ap (starts_wrong marlowe named output.amount) (made_first tx r.published.id (start_datum r) [] refl made_is)
        ∙ ap (λ v. starts_wrong_at marlowe v (start_datum r) output.amount) there ∙ ap not starts

    each_starts : (i : ℕ) (o : Output) → slice_get tx.outputs i ≡ Some o → starts_wrong marlowe named o.amount (contract_at tx i) ≡ false
    each_starts zero o at = let same : output ≡ o = cc in subst (λ (x : Output). starts_wrong marlowe named x.amount (contract_at tx 0) ≡ false) same starts_well
    each_starts (suc k) o at = no_wrong_start named tx (suc k) o at (each_at (λ (x : Output). is_contract x.lock ≡ false) change no_others k o at)

    steps : step_fault marlowe named tx ys (steps_of ys tx.datums) ≡ None
    steps = ap (step_fault marlowe named tx ys) (no_step with.None r.signers [] fs tx.datums tt signed) ∙ none_starts_wrong named tx each_starts

    known_is : all_known named tx.outputs ys ≡ true
    known_is =
        let so_known : IsSo (is_known named) true = record { key = λ x. refl; payout = λ x y. refl } in
        together (list_all (λ (o : Output). is_known named o.lock) tx.outputs) (list_all (λ (x : Spend × Output). is_known named x.1.lock) ys)
        (everywhere_all (λ (o : Output). is_known named o.lock) tx.outputs (ap is_some there, each_given (is_known named) true so_known r.change (rest fs (output ∷ []))))
        (pairs_known named with.None r.signers [] fs tt signed)

    rules : spent_fault marlowe named tx ys ≡ None
    rules =
        passing with.None r.signers [] fs tt signed named tx refl
        (ap (nat_lt 8) (none_counted (λ (x : Spend × Output). is_contract x.1.lock) ys (nowhere_keys r.signers (λ (x : Spend × Output). is_contract x.1.lock) (λ u k. ap is_contract k.lock) fs signed)))
        tt brought steps (λ t. sym (total-changed r.change fs (output ∷ []) t))

    clean : IsClean named (layout_start r) fs ys
    clean = record { first = first; names = all_named with.None [] fs; pairs = all_paired with.None [] fs; known = known_is; rules = rules }

pub starts_pass : StartsPass
starts_pass r found clear outputs script = passes (layout_start r) found (start_front r) (pairs with.None [] (start_front r)) (clean r clear (script_at found.scripts) script) outputs

pub starts_are_accepted : FoundIsEnough marlowe → StartsAreAccepted
starts_are_accepted enough r m clear script admits = judged enough m (layout_start r) (start_front r) (pairs with.None [] (start_front r)) (clean r clear m.published script) admits

pub starts_are_accepted_after : FoundIsEnough marlowe → BytesTellApart → StartsAreAcceptedAfter
starts_are_accepted_after enough apart r published past tick clear script fit is = judged_after enough apart published past tick (layout_start r) (start_front r) (pairs with.None [] (start_front r)) (clean r clear published script) fit is
