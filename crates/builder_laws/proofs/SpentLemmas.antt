-- The rules that every layout meets alike.
use Rattle.std.proofs.Common.{◌≡◌, ℕ, nat_lt, Bool, true, false, not, ◌||◌, List, [], ◌∷◌, ◌++◌, map, length, refl, sym, ap, ◌∙◌, subst, Option, None}
use Rattle.std.specs.Prelude.{count_by}
use Rattle.std.specs.List.{AllByRecursion, list_any}
use Rattle.std.proofs.lemmas.List.{length-map}
use Rattle.contract.specs.declared.interval.Interval.{Interval}
use Rattle.contract.specs.Names.declared.token.Token.{Token}
use Rattle.ledger_spec.specs.Bundle.Totals.{total_of}
use Rattle.ledger_spec.specs.Machine.declared.datum.Datum.{Datum}
use Rattle.ledger_spec.specs.EutxoTypes.declared.fault.TxFault.TheVariants.{NoInputs, TooMany, RepeatedInput, NotSigned, TooManyContracts, WrongRedeemer, RoleMissing}
use Rattle.ledger_spec.specs.EutxoTypes.declared.lock.Lock.{Lock}
use Rattle.ledger_spec.specs.EutxoTypes.declared.lock.Lock.TheVariants.{Key, Payout, Contract}
use Rattle.ledger_spec.specs.EutxoTypes.declared.output.Output.{Output}
use Rattle.ledger_spec.specs.EutxoTypes.declared.redeemer.Redeemer.{Redeemer}
use Rattle.ledger_spec.specs.EutxoTypes.declared.redeemer.Redeemer.TheVariants as with
use Rattle.ledger_spec.specs.EutxoTypes.declared.spend.Spend.{Spend}
use Rattle.ledger_spec.specs.EutxoTypes.declared.tx.Tx.{Tx}
use Rattle.ledger_spec.specs.Eutxo.Local.{tx_fault, spent_fault, spent_rules}
use Rattle.ledger_spec.specs.EutxoTypes.Parts.{inputs_of, is_contract, is_key}
use Rattle.ledger_spec.specs.Eutxo.Faults.{is_empty}
use Rattle.ledger_spec.specs.Eutxo.Blocks.{step_fault, step_fault_unless}
use Rattle.ledger_spec.specs.Eutxo.Rules.{no_inputs, too_many, has_too_many, repeated_input, lacks_signer, opens, lacks_role, steps_of, wrong_datum}
use Rattle.ledger_spec.specs.Roles.declared.published.Published.{Published}
use Rattle.ledger_spec.specs.Roles.Steps.{holds_role, marlowe}
use Rattle.ledger_spec.specs.Ledger.declared.look.Unspent.{Unspent}
use Rattle.ledger_spec.specs.BuilderSpec.Causes.{has_repeat}
use Rattle.ledger_spec.specs.BuilderSpec.Holding.{amount_in}
use Rattle.ledger_spec.specs.BuilderSpec.Laying.{spend_with, by_key}
use Rattle.builder_laws.proofs.TestLemmas.{Nowhere, each-append, each_so, not_any, none_of_two, none_of, no_fault, if_not, mapped}
use Rattle.builder_laws.proofs.NamedLemmas.{refs, fresh}
use Rattle.builder_laws.proofs.PairLemmas.{laid, paired, pairs, names, all_named, AreKeyed, IsKeyed, nowhere_keys, nowhere_paired, total_pairs}
use Rattle.builder_laws.proofs.SumsLemmas.{preserved}

-- ---- of the transaction alone

-- where there are inputs, not too many, and none names what another one names
pub tx_passes : (tx : Tx) → is_empty tx.inputs ≡ false → nat_lt 256 (length tx.inputs) ≡ false → Nowhere has_too_many tx.inputs → has_repeat (refs tx.inputs) ≡ false → tx_fault tx ≡ None
tx_passes tx some few given once =
    none_of (no_inputs tx ∷ too_many tx ∷ repeated_input tx ∷ []) (
      if_not (is_empty tx.inputs) NoInputs some,
      (
        if_not (nat_lt 256 (length tx.inputs) || list_any has_too_many tx.inputs) TooMany (none_of_two (nat_lt 256 (length tx.inputs)) (list_any has_too_many tx.inputs) few (not_any has_too_many tx.inputs given)),
        (mapped RepeatedInput _ (fresh tx.inputs once), tt),
      ),
    )

-- keys are given nothing
pub keys_few : (xs : List Unspent) → Nowhere has_too_many (map by_key xs)
keys_few [] = tt
keys_few (x ∷ xs) = (refl, keys_few xs)

module _ (w : Redeemer) (us fs : List Unspent) (os : List Output) (i : Interval) (signers : List (List ℕ)) (ds : List Datum) where
  abbrev tx : Tx
  tx = laid w us fs os i signers ds

  all_counted : length tx.inputs ≡ length (us ++ fs)
  all_counted =
      sym (length-map tx.inputs (λ (x : Spend). x.reference)) ∙ ap length (all_named w us fs) ∙ length-map (us ++ fs) (λ (u : Unspent). u.reference)

  given_few : nat_lt 256 (length (inputs_of w)) ≡ false → (xs : List Unspent) → Nowhere has_too_many (map (spend_with w) xs)
  given_few h [] = tt
  given_few h (x ∷ xs) = (h, given_few h xs)

  pub first_rules : is_empty tx.inputs ≡ false → nat_lt 256 (length (us ++ fs)) ≡ false → nat_lt 256 (length (inputs_of w)) ≡ false → has_repeat (names (us ++ fs)) ≡ false → tx_fault tx ≡ None
  first_rules some few given once =
      tx_passes tx some (ap (nat_lt 256) all_counted ∙ few) (each-append (λ x. has_too_many x ≡ false) (map (spend_with w) us) (map by_key fs) (given_few given us) (keys_few fs))
      (ap has_repeat (all_named w us fs) ∙ once)

-- ---- of what it spends

-- where no test of it refuses, at most 8 contracts are spent, no datum is wrong, the steps are taken and sums are kept
pub spent_passes : (named : List ℕ → Option Published) (tx : Tx) (ys : List (Spend × Output)) → Nowhere (λ (x : Spend × Output). lacks_signer tx.signers x.1.lock) ys → nat_lt 8 (count_by (λ (x : Spend × Output). is_contract x.1.lock) ys) ≡ false →
    Nowhere (λ (x : Spend × Output). not (opens x.0.redeemer x.1.lock)) ys → Nowhere (λ (x : Spend × Output). lacks_role (holds_role ys) x.1.lock) ys → wrong_datum tx ys ≡ None → step_fault marlowe named tx ys (steps_of ys tx.datums) ≡ None →
    ((t : Token) → total_of (λ (x : Spend × Output). x.1.amount) t ys ≡ total_of (λ (o : Output). o.amount) t tx.outputs) → spent_fault marlowe named tx ys ≡ None
spent_passes named tx ys signed few opened granted brought step kept =
    none_of (spent_rules marlowe named tx ys) (
      no_fault NotSigned (λ (x : Spend × Output). lacks_signer tx.signers x.1.lock) ys signed,
      (
        if_not (nat_lt 8 (count_by (λ (x : Spend × Output). is_contract x.1.lock) ys)) TooManyContracts few,
        (
          no_fault WrongRedeemer (λ (x : Spend × Output). not (opens x.0.redeemer x.1.lock)) ys opened,
          (
            no_fault RoleMissing (λ (x : Spend × Output). lacks_role (holds_role ys) x.1.lock) ys granted,
            (ap (λ f. step_fault_unless f marlowe named tx ys) brought ∙ step, (preserved ys tx.outputs kept, (brought, tt))),
          ),
        ),
      ),
    )

unsigned : (signers : List (List ℕ)) (l : Lock) → is_key l ≡ false → lacks_signer signers l ≡ false
unsigned signers (Key a) h = cc
unsigned signers (Payout c r) h = refl
unsigned signers (Contract script d) h = refl

-- the first are under other locks than keys, which the redeemer opens
pub record IsOpened (w : Redeemer) (u : Unspent) : Type 0 where
  pub unkeyed : is_key u.output.lock ≡ false
  pub opened : opens w u.output.lock ≡ true

module _ (w : Redeemer) (signers : List (List ℕ)) (us fs : List Unspent) (h : AllByRecursion (IsOpened w) us) (g : AreKeyed signers fs) where
  abbrev ys : List (Spend × Output)
  ys = pairs w us fs

  nowhere : (test : Spend × Output → Bool) → AllByRecursion (λ u. test (spend_with w u, u.output) ≡ false) us → ((u : Unspent) → IsKeyed signers u → test (by_key u, u.output) ≡ false) → Nowhere test ys
  nowhere test k f = each-append (λ x. test x ≡ false) (paired w us) (paired with.None fs) (nowhere_paired w test us k) (nowhere_keys signers test f fs g)

  -- where few contracts are spent, each payout is granted, no datum is wrong, the steps are taken and sums are kept
  pub passing : (named : List ℕ → Option Published) (tx : Tx) → tx.signers ≡ signers → nat_lt 8 (count_by (λ (x : Spend × Output). is_contract x.1.lock) ys) ≡ false →
      AllByRecursion (λ u. lacks_role (holds_role ys) u.output.lock ≡ false) us → wrong_datum tx ys ≡ None → step_fault marlowe named tx ys (steps_of ys tx.datums) ≡ None →
      ((t : Token) → total_of amount_in t (us ++ fs) ≡ total_of (λ (o : Output). o.amount) t tx.outputs) → spent_fault marlowe named tx ys ≡ None
  passing named tx s few granted brought step kept =
      spent_passes named tx ys
      (subst (λ ss. Nowhere (λ (x : Spend × Output). lacks_signer ss x.1.lock) ys) (sym s)
      (nowhere (λ (x : Spend × Output). lacks_signer signers x.1.lock) (each_so (IsOpened w) (λ u. lacks_signer signers u.output.lock ≡ false) (λ u k. unsigned signers u.output.lock k.unkeyed) us h)
      (λ u k. ap (lacks_signer signers) k.lock ∙ ap not k.signed)))
      few
      (nowhere (λ (x : Spend × Output). not (opens x.0.redeemer x.1.lock)) (each_so (IsOpened w) (λ u. not (opens w u.output.lock) ≡ false) (λ u k. ap not k.opened) us h)
      (λ u k. ap (λ l. not (opens with.None l)) k.lock))
      (nowhere (λ (x : Spend × Output). lacks_role (holds_role ys) x.1.lock) granted (λ u k. ap (lacks_role (holds_role ys)) k.lock))
      brought step (λ t. total_pairs w t us fs ∙ kept t)
