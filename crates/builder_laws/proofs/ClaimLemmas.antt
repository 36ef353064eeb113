-- A claim that nothing hinders is accepted.
use Rattle.std.proofs.Common.{◌≡◌, ℕ, nat_lt, ◌+ℤ◌, Bool, true, false, not, ◌||◌, List, [], ◌∷◌, ◌++◌, map, refl, sym, ap, ◌∙◌, Option, None}
use Rattle.std.specs.Prelude.{is_none, count_by}
use Rattle.std.specs.List.{list_all, list_any, cons_option, AllByRecursion}
use Rattle.contract.specs.Names.declared.party.Party.TheVariants.{Role}
use Rattle.contract.specs.Names.declared.token.Token.{Token}
use Rattle.ledger_spec.specs.Bundle.Totals.{total_of}
use Rattle.ledger_spec.specs.EutxoTypes.declared.lock.Lock.{Lock}
use Rattle.ledger_spec.specs.EutxoTypes.declared.lock.Lock.TheVariants.{Key, Payout, Contract}
use Rattle.ledger_spec.specs.EutxoTypes.declared.output.Output.{Output}
use Rattle.ledger_spec.specs.EutxoTypes.declared.redeemer.Redeemer.TheVariants as with
use Rattle.ledger_spec.specs.EutxoTypes.declared.spend.Spend.{Spend}
use Rattle.ledger_spec.specs.EutxoTypes.declared.tx.Tx.{Tx}
use Rattle.ledger_spec.specs.Eutxo.Found.{script_at, is_known, all_known}
use Rattle.ledger_spec.specs.Eutxo.Laws.{FoundIsEnough}
use Rattle.ledger_spec.specs.Eutxo.Local.{tx_fault, spent_fault}
use Rattle.ledger_spec.specs.EutxoTypes.Parts.{is_contract, contract_in, is_key, is_payout}
use Rattle.ledger_spec.specs.Eutxo.Faults.{is_empty}
use Rattle.ledger_spec.specs.Eutxo.Blocks.{step_fault}
use Rattle.ledger_spec.specs.Eutxo.Rules.{lacks_role, opens, steps_of, wrong_datum}
use Rattle.ledger_spec.specs.Roles.declared.published.Published.{Published}
use Rattle.ledger_spec.specs.Roles.Steps.{holds_role, role_token, marlowe}
use Rattle.ledger_spec.specs.Ledger.declared.look.Unspent.{Unspent}
use Rattle.ledger_spec.specs.BuilderSpec.declared.fault.BuildFault.TheVariants.{NoThread, NotAuthorised}
use Rattle.ledger_spec.specs.BuilderSpec.Requests.{ClaimRequest}
use Rattle.ledger_spec.specs.BuilderSpec.Holding.{sums, amount_in, holds_token, least_lacking}
use Rattle.ledger_spec.specs.BuilderSpec.Fronts.{suffices}
use Rattle.ledger_spec.specs.BuilderSpec.Causes.{signature_cause, limit_cause, repeat_cause}
use Rattle.ledger_spec.specs.BuilderSpec.Laying.{spend_with, by_key, paid_to}
use Rattle.ledger_spec.specs.BuilderSpec.Claims.{awaited_token, tokens_awaited, payout_cause, role_cause, claim_front, hinders_claim, layout_claim}
use Rattle.ledger_spec.proofs.FromBuilderSpec.HoldingLaws.{amount_of-sums, total_of-append}
use Rattle.ledger_spec.proofs.FromBuilderSpec.FrontsLaws.{shortest_passes}
use Rattle.builder_laws.specs.Accepting.{ClaimsPass, ClaimsAreAccepted}
use Rattle.builder_laws.specs.AfterPasts.{BytesTellApart, ClaimsAreAcceptedAfter}
use Rattle.builder_laws.proofs.TestLemmas.{Everywhere, both, together, neither, not_not, each-append, each_so, any_nowhere, all_everywhere, everywhere_all, none_counted, found_nowhere, each_none, unless, unmapped}
use Rattle.builder_laws.proofs.PairLemmas.{laid, pairs, paired, all_paired, all_named, AreKeyed, nowhere_keys, nowhere_paired, front_holds, no_step}
use Rattle.builder_laws.proofs.DatumLemmas.{none_spent, none_made, none_wrong}
use Rattle.builder_laws.proofs.SumsLemmas.{total-given}
use Rattle.builder_laws.proofs.FrontLemmas.{shortest_rest}
use Rattle.builder_laws.proofs.OutputLemmas.{IsSo, each_given, no_starts}
use Rattle.builder_laws.proofs.SpentLemmas.{first_rules, IsOpened, passing}
use Rattle.builder_laws.proofs.CausesLemmas.{keyed_front, named_once, not_many, pairs_known}
use Rattle.builder_laws.proofs.AcceptingLemmas.{IsClean, passes, judged}
use Rattle.builder_laws.proofs.AfterPastsLemmas.{judged_after}

-- a payout is opened by a claim, and no contract
payout_opened : (l : Lock) → is_payout l ≡ true → (is_key l ≡ false) × (opens with.Claim l ≡ true) × (contract_in l ≡ None)
payout_opened (Key a) h = cc
payout_opened (Payout c r) h = (refl, refl, refl)
payout_opened (Contract script d) h = cc

not_contract : (l : Lock) → contract_in l ≡ None → is_contract l ≡ false
not_contract (Key a) h = refl
not_contract (Payout c r) h = refl
not_contract (Contract script d) h = cc

no_script : (named : List ℕ → Option Published) (l : Lock) → contract_in l ≡ None → is_known named l ≡ true
no_script named (Key a) h = refl
no_script named (Payout c r) h = refl
no_script named (Contract script d) h = cc

some_first : (us : List Unspent) (xs : List Spend) → is_empty us ≡ false → is_empty (map (spend_with with.Claim) us ++ xs) ≡ false
some_first [] xs h = cc
some_first (u ∷ us) xs h = refl

-- where the tokens are held for which payouts wait, each is granted
granted_if : (claims : List ℕ → List ℕ → Bool) (fs : List Unspent) → ((c r : List ℕ) → claims c r ≡ holds_token fs (role_token c r)) → (l : Lock) (ts : List Token) → Everywhere (holds_token fs) (cons_option (awaited_token l) ts) →
    (lacks_role claims l ≡ false) × Everywhere (holds_token fs) ts
granted_if claims fs holds (Key a) ts h = (refl, h)
granted_if claims fs holds (Payout c r) ts h = (ap not (holds c r ∙ h.0), h.1)
granted_if claims fs holds (Contract script d) ts h = (refl, h)

all_granted : (claims : List ℕ → List ℕ → Bool) (fs : List Unspent) → ((c r : List ℕ) → claims c r ≡ holds_token fs (role_token c r)) → (us : List Unspent) → Everywhere (holds_token fs) (tokens_awaited us) → AllByRecursion (λ (u : Unspent). lacks_role claims u.output.lock ≡ false) us
all_granted claims fs holds [] h = tt
all_granted claims fs holds (u ∷ us) h = let k = granted_if claims fs holds u.output.lock (tokens_awaited us) h in (k.0, all_granted claims fs holds us k.1)

module _ (r : ClaimRequest) (clear : hinders_claim r ≡ None) where
  abbrev us : List Unspent
  us = r.payouts

  abbrev fs : List Unspent
  fs = claim_front r

  abbrev ys : List (Spend × Output)
  ys = pairs with.Claim us fs

  abbrev paid : List Output
  paid = paid_to r.to (sums amount_in us)

  abbrev change : List Output
  change = paid_to r.change (sums amount_in fs)

  abbrev tx : Tx
  tx = laid with.Claim us fs (paid ++ change) r.interval r.signers []

  clauses : AllByRecursion (λ x. x ≡ None) (payout_cause us ∷ signature_cause r.signers r.offered ∷ role_cause r ∷ limit_cause (us ++ fs) ∷ repeat_cause (us ++ r.offered) ∷ [])
  clauses = each_none (payout_cause us ∷ signature_cause r.signers r.offered ∷ role_cause r ∷ limit_cause (us ++ fs) ∷ repeat_cause (us ++ r.offered) ∷ []) clear

  there : (is_empty us ≡ false) × (list_any (λ (u : Unspent). not (is_payout u.output.lock)) us ≡ false)
  there = neither (is_empty us) (list_any (λ (u : Unspent). not (is_payout u.output.lock)) us) (unless (is_empty us || list_any (λ (u : Unspent). not (is_payout u.output.lock)) us) NoThread clauses.0)

  payouts : AllByRecursion (λ (u : Unspent). (is_key u.output.lock ≡ false) × (opens with.Claim u.output.lock ≡ true) × (contract_in u.output.lock ≡ None)) us
  payouts =
      each_so (λ (u : Unspent). not (is_payout u.output.lock) ≡ false) (λ (u : Unspent). (is_key u.output.lock ≡ false) × (opens with.Claim u.output.lock ≡ true) × (contract_in u.output.lock ≡ None))
      (λ u h. payout_opened u.output.lock (not_not (is_payout u.output.lock) h)) us (any_nowhere (λ (u : Unspent). not (is_payout u.output.lock)) us there.1)

  later : (more : List Unspent) × (r.offered ≡ fs ++ more)
  later = shortest_rest (suffices (tokens_awaited us) []) r.offered

  signed : AreKeyed r.signers fs
  signed = keyed_front r.signers fs later.0 r.offered later.1 clauses.1.0

  tokens_held : Everywhere (holds_token fs) (tokens_awaited us)
  tokens_held =
      let ts = tokens_awaited us in
      let offered : Everywhere (holds_token r.offered) ts =
      each_so (λ t. not (holds_token r.offered t) ≡ false) (λ t. holds_token r.offered t ≡ true) (λ t h. not_not (holds_token r.offered t) h) ts (found_nowhere (λ t. not (holds_token r.offered t)) ts (unmapped (λ (t : Token). NotAuthorised (Role t.name)) _ clauses.1.1.0)) in
      let all = shortest_passes (suffices ts []) r.offered (together (list_all (holds_token r.offered) ts) (is_none (least_lacking [] r.offered)) (everywhere_all (holds_token r.offered) ts offered) refl) in
      all_everywhere (holds_token fs) ts (both (list_all (holds_token fs) ts) (is_none (least_lacking [] fs)) all).0

  first : tx_fault tx ≡ None
  first = first_rules with.Claim us fs (paid ++ change) r.interval r.signers [] (some_first us (map by_key fs) there.0) (not_many (us ++ fs) clauses.1.1.1.0) refl (named_once us fs later.0 r.offered later.1 clauses.1.1.1.1.0)

  opened : AllByRecursion (IsOpened with.Claim) us
  opened =
      each_so (λ (u : Unspent). (is_key u.output.lock ≡ false) × (opens with.Claim u.output.lock ≡ true) × (contract_in u.output.lock ≡ None)) (IsOpened with.Claim)
      (λ u h. record { unkeyed = h.0; opened = h.1 }) us payouts

  unkeyed : AllByRecursion (λ (u : Unspent). is_key u.output.lock ≡ false) us
  unkeyed = each_so (IsOpened with.Claim) (λ (u : Unspent). is_key u.output.lock ≡ false) (λ u h. h.unkeyed) us opened

  no_contracts : AllByRecursion (λ (u : Unspent). contract_in u.output.lock ≡ None) us
  no_contracts =
      each_so (λ (u : Unspent). (is_key u.output.lock ≡ false) × (opens with.Claim u.output.lock ≡ true) × (contract_in u.output.lock ≡ None)) (λ (u : Unspent). contract_in u.output.lock ≡ None)
      (λ u h. h.2) us payouts

  none_counted_is : nat_lt 8 (count_by (λ (x : Spend × Output). is_contract x.1.lock) ys) ≡ false
  none_counted_is =
      ap (nat_lt 8) (none_counted (λ (x : Spend × Output). is_contract x.1.lock) ys
      (each-append (λ (x : Spend × Output). is_contract x.1.lock ≡ false) (paired with.Claim us) (paired with.None fs)
      (nowhere_paired with.Claim (λ (x : Spend × Output). is_contract x.1.lock) us (each_so (λ (u : Unspent). contract_in u.output.lock ≡ None) (λ (u : Unspent). is_contract u.output.lock ≡ false) (λ u h. not_contract u.output.lock h) us no_contracts))
      (nowhere_keys r.signers (λ (x : Spend × Output). is_contract x.1.lock) (λ u k. ap is_contract k.lock) fs signed)))

  -- it makes no contract, and brings no datum
  no_others : AllByRecursion (λ (o : Output). is_contract o.lock ≡ false) tx.outputs
  no_others =
      let none : IsSo is_contract false = record { key = λ x. refl; payout = λ x y. refl } in
      each-append (λ (o : Output). is_contract o.lock ≡ false) paid change (each_given is_contract false none r.to (sums amount_in us)) (each_given is_contract false none r.change (sums amount_in fs))

  brought : wrong_datum tx ys ≡ None
  brought = none_wrong tx ys [] [] (none_spent with.Claim r.signers us fs no_contracts signed) (none_made tx.outputs no_others) refl

  kept : (t : Token) → total_of amount_in t (us ++ fs) ≡ total_of (λ (o : Output). o.amount) t tx.outputs
  kept t =
      total_of-append amount_in t us fs
      ∙ ap (λ n. n +ℤ total_of amount_in t fs) (sym (amount_of-sums amount_in us t) ∙ sym (total-given r.to (sums amount_in us) t))
      ∙ ap (λ n. total_of (λ (o : Output). o.amount) t paid +ℤ n) (sym (amount_of-sums amount_in fs t) ∙ sym (total-given r.change (sums amount_in fs) t))
      ∙ sym (total_of-append (λ (o : Output). o.amount) t paid change)

  module _ (named : List ℕ → Option Published) where
    steps : step_fault marlowe named tx ys (steps_of ys []) ≡ None
    steps = ap (step_fault marlowe named tx ys) (no_step with.Claim r.signers us fs [] no_contracts signed) ∙ no_starts named tx no_others

    known_is : all_known named tx.outputs ys ≡ true
    known_is =
        let so_known : IsSo (is_known named) true = record { key = λ x. refl; payout = λ x y. refl } in
        together (list_all (λ (o : Output). is_known named o.lock) tx.outputs) (list_all (λ (x : Spend × Output). is_known named x.1.lock) ys)
        (everywhere_all (λ (o : Output). is_known named o.lock) tx.outputs
        (each-append (λ (o : Output). is_known named o.lock ≡ true) paid change (each_given (is_known named) true so_known r.to (sums amount_in us)) (each_given (is_known named) true so_known r.change (sums amount_in fs))))
        (pairs_known named with.Claim r.signers us fs (each_so (λ (u : Unspent). contract_in u.output.lock ≡ None) (λ (u : Unspent). is_known named u.output.lock ≡ true) (λ u h. no_script named u.output.lock h) us no_contracts) signed)

    rules : spent_fault marlowe named tx ys ≡ None
    rules =
        passing with.Claim r.signers us fs opened signed named tx refl none_counted_is
        (all_granted (holds_role ys) fs (λ c q. front_holds with.Claim r.signers c q us fs unkeyed signed) us tokens_held) brought steps kept

    clean : IsClean named (layout_claim r) (us ++ fs) ys
    clean = record { first = first; names = all_named with.Claim us fs; pairs = all_paired with.Claim us fs; known = known_is; rules = rules }

pub claims_pass : ClaimsPass
claims_pass r found clear outputs = passes (layout_claim r) found (r.payouts ++ claim_front r) (pairs with.Claim r.payouts (claim_front r)) (clean r clear (script_at found.scripts)) outputs

pub claims_are_accepted : FoundIsEnough marlowe → ClaimsAreAccepted
claims_are_accepted enough r m clear admits = judged enough m (layout_claim r) (r.payouts ++ claim_front r) (pairs with.Claim r.payouts (claim_front r)) (clean r clear m.published) admits

pub claims_are_accepted_after : FoundIsEnough marlowe → BytesTellApart → ClaimsAreAcceptedAfter
claims_are_accepted_after enough apart r published past tick clear fit is = judged_after enough apart published past tick (layout_claim r) (r.payouts ++ claim_front r) (pairs with.Claim r.payouts (claim_front r)) (clean r clear published) fit is
