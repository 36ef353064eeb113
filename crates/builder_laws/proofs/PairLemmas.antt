-- Inputs with the outputs that were handed in for them.
use Rattle.std.proofs.Common.{◌≡◌, ℕ, ◌+ℤ◌, Bool, true, false, ◌||◌, List, [], ◌∷◌, ◌++◌, map, refl, sym, ap, ◌∙◌, Option, Some, None}
use Rattle.std.specs.Prelude.{int_lt, ◌&&◌, pos}
use Rattle.std.specs.List.{AllByRecursion}
use Rattle.std.specs.Option.{option_map}
use Rattle.contract.specs.declared.interval.Interval.{Interval}
use Rattle.contract.specs.Names.declared.token.Token.{Token}
use Rattle.ledger_spec.specs.Bundle.Bundles.{amount_of}
use Rattle.ledger_spec.specs.Bundle.Totals.{total_of}
use Rattle.ledger_spec.specs.Machine.declared.datum.Datum.{Datum}
use Rattle.ledger_spec.specs.EutxoTypes.declared.lock.Lock.{Lock}
use Rattle.ledger_spec.specs.EutxoTypes.declared.lock.Lock.TheVariants.{Key, Payout, Contract}
use Rattle.ledger_spec.specs.EutxoTypes.declared.output.Output.{Output}
use Rattle.ledger_spec.specs.EutxoTypes.declared.output_ref.OutputRef.{OutputRef}
use Rattle.ledger_spec.specs.EutxoTypes.declared.redeemer.Redeemer.{Redeemer}
use Rattle.ledger_spec.specs.EutxoTypes.declared.redeemer.Redeemer.TheVariants as with
use Rattle.ledger_spec.specs.EutxoTypes.declared.spend.Spend.{Spend}
use Rattle.ledger_spec.specs.EutxoTypes.declared.tx.Tx.{Tx}
use Rattle.ledger_spec.specs.Eutxo.Found.{with_outputs}
use Rattle.ledger_spec.specs.EutxoTypes.Parts.{contract_in, is_key, is_step, step_count}
use Rattle.ledger_spec.specs.Eutxo.Rules.{has_signed, or_step, steps_of}
use Rattle.ledger_spec.specs.Roles.Steps.{role_token, holds_role}
use Rattle.ledger_spec.specs.Ledger.declared.look.Unspent.{Unspent}
use Rattle.ledger_spec.specs.BuilderSpec.Causes.{is_signed}
use Rattle.ledger_spec.specs.BuilderSpec.Holding.{amount_in, holds_token}
use Rattle.ledger_spec.specs.BuilderSpec.Laying.{spend_with, by_key}
use Rattle.builder_laws.specs.Accepting.{contents}
use Rattle.builder_laws.proofs.TestLemmas.{Nowhere, each-append, none_counted}
use Rattle.builder_laws.proofs.NamedLemmas.{refs}

-- a transaction that spends the first of these with a redeemer, and the others by their keys, and brings data
abbrev pub laid : Redeemer → List Unspent → List Unspent → List Output → Interval → List (List ℕ) → List Datum → Tx
laid w us fs os i signers ds = record { inputs = map (spend_with w) us ++ map by_key fs; outputs = os; interval = i; signers = signers; datums = ds }

abbrev pub paired : Redeemer → List Unspent → List (Spend × Output)
paired w us = map (λ u. (spend_with w u, u.output)) us

abbrev pub pairs : Redeemer → List Unspent → List Unspent → List (Spend × Output)
pairs w us fs = paired w us ++ paired with.None fs

pub map-both : {A B : Type 0} (f : A → B) (xs ys : List A) → map f (xs ++ ys) ≡ map f xs ++ map f ys
map-both f [] ys = refl
map-both f (x ∷ xs) ys = ap (λ zs. f x ∷ zs) (map-both f xs ys)

each_paired : (w : Redeemer) (us : List Unspent) (xs : List Spend) (os : List (Option Output)) (zs : List (Spend × Output)) → with_outputs xs os ≡ Some zs → with_outputs (map (spend_with w) us ++ xs) (contents us ++ os) ≡ Some (paired w us ++ zs)
each_paired w [] xs os zs h = h
each_paired w (u ∷ us) xs os zs h = ap (option_map (λ ys. (spend_with w u, u.output) ∷ ys)) (each_paired w us xs os zs h)

pub keys_paired : (fs : List Unspent) → with_outputs (map by_key fs) (contents fs) ≡ Some (paired with.None fs)
keys_paired [] = refl
keys_paired (f ∷ fs) = ap (option_map (λ ys. (by_key f, f.output) ∷ ys)) (keys_paired fs)

-- each input with its output
pub all_paired : (w : Redeemer) (us fs : List Unspent) → with_outputs (map (spend_with w) us ++ map by_key fs) (contents (us ++ fs)) ≡ Some (pairs w us fs)
all_paired w us fs = ap (with_outputs (map (spend_with w) us ++ map by_key fs)) (map-both (λ u. Some u.output) us fs) ∙ each_paired w us (map by_key fs) (contents fs) (paired with.None fs) (keys_paired fs)

abbrev pub names : List Unspent → List OutputRef
names us = map (λ u. u.reference) us

refs_front : (w : Redeemer) (us : List Unspent) (xs : List Spend) → refs (map (spend_with w) us ++ xs) ≡ names us ++ refs xs
refs_front w [] xs = refl
refs_front w (u ∷ us) xs = ap (λ rs. u.reference ∷ rs) (refs_front w us xs)

pub refs_keys : (fs : List Unspent) → refs (map by_key fs) ≡ names fs
refs_keys [] = refl
refs_keys (f ∷ fs) = ap (λ rs. f.reference ∷ rs) (refs_keys fs)

-- the inputs name what is spent
pub all_named : (w : Redeemer) (us fs : List Unspent) → refs (map (spend_with w) us ++ map by_key fs) ≡ names (us ++ fs)
all_named w us fs = refs_front w us (map by_key fs) ∙ ap (λ rs. names us ++ rs) (refs_keys fs) ∙ sym (map-both (λ u. u.reference) us fs)

-- ---- keys

-- under the key of a signer
pub record IsKeyed (signers : List (List ℕ)) (u : Unspent) : Type 0 where
  pub address : List ℕ
  pub lock : u.output.lock ≡ Key address
  pub signed : has_signed signers address ≡ true

abbrev pub AreKeyed : List (List ℕ) → List Unspent → Type 0
AreKeyed signers us = AllByRecursion (IsKeyed signers) us

signed_key : (signers : List (List ℕ)) (l : Lock) → is_signed signers l ≡ true → (a : List ℕ) × (l ≡ Key a) × (has_signed signers a ≡ true)
signed_key signers (Key a) h = (a, refl, h)
signed_key signers (Payout c r) h = cc
signed_key signers (Contract script d) h = cc

pub keyed : (signers : List (List ℕ)) (u : Unspent) → is_signed signers u.output.lock ≡ true → IsKeyed signers u
keyed signers u h = let s = signed_key signers u.output.lock h in record { address = s.0; lock = s.1; signed = s.2 }

-- a test that no key passes
pub nowhere_keys : (signers : List (List ℕ)) (test : Spend × Output → Bool) → ((u : Unspent) → IsKeyed signers u → test (by_key u, u.output) ≡ false) → (fs : List Unspent) → AreKeyed signers fs → Nowhere test (paired with.None fs)
nowhere_keys signers test h [] g = tt
nowhere_keys signers test h (f ∷ fs) g = (h f g.0, nowhere_keys signers test h fs g.1)

-- and one that none of the others does
pub nowhere_paired : (w : Redeemer) (test : Spend × Output → Bool) (us : List Unspent) → AllByRecursion (λ u. test (spend_with w u, u.output) ≡ false) us → Nowhere test (paired w us)
nowhere_paired w test [] g = tt
nowhere_paired w test (u ∷ us) g = (g.0, nowhere_paired w test us g.1)

-- ---- what they hold

pub keys_hold : (signers : List (List ℕ)) (c r : List ℕ) (fs : List Unspent) → AreKeyed signers fs → holds_role (paired with.None fs) c r ≡ holds_token fs (role_token c r)
keys_hold signers c r [] g = refl
keys_hold signers c r (f ∷ fs) g =
    ap (λ l. (is_key l && int_lt (pos 0) (amount_of f.output.amount (role_token c r))) || holds_role (paired with.None fs) c r) g.0.lock
    ∙ ap (λ b. int_lt (pos 0) (amount_of f.output.amount (role_token c r)) || b) (keys_hold signers c r fs g.1)

-- of a role's token, what the keys hold is shown
pub front_holds : (w : Redeemer) (signers : List (List ℕ)) (c r : List ℕ) (us fs : List Unspent) → AllByRecursion (λ u. is_key u.output.lock ≡ false) us → AreKeyed signers fs → holds_role (pairs w us fs) c r ≡ holds_token fs (role_token c r)
front_holds w signers c r [] fs h g = keys_hold signers c r fs g
front_holds w signers c r (u ∷ us) fs h g =
    ap (λ b. (b && int_lt (pos 0) (amount_of u.output.amount (role_token c r))) || holds_role (pairs w us fs) c r) h.0 ∙ front_holds w signers c r us fs h.1 g

pub total_paired : (w : Redeemer) (t : Token) (us : List Unspent) → total_of (λ (x : Spend × Output). x.1.amount) t (paired w us) ≡ total_of amount_in t us
total_paired w t [] = refl
total_paired w t (u ∷ us) = ap (λ n. amount_of u.output.amount t +ℤ n) (total_paired w t us)

-- the pairs hold what is spent
pub total_pairs : (w : Redeemer) (t : Token) (us fs : List Unspent) → total_of (λ (x : Spend × Output). x.1.amount) t (pairs w us fs) ≡ total_of amount_in t (us ++ fs)
total_pairs w t [] fs = total_paired with.None t fs
total_pairs w t (u ∷ us) fs = ap (λ n. amount_of u.output.amount t +ℤ n) (total_pairs w t us fs)

-- ---- the step

pub no_keys_step : (signers : List (List ℕ)) (fs : List Unspent) (ds : List Datum) → AreKeyed signers fs → steps_of (paired with.None fs) ds ≡ []
no_keys_step signers [] ds g = refl
no_keys_step signers (f ∷ fs) ds g = ap (λ l. or_step (contract_in l) (by_key f) ds (steps_of (paired with.None fs))) g.0.lock ∙ no_keys_step signers fs ds g.1

-- where none of the others is a contract, nothing is stepped
pub no_step : (w : Redeemer) (signers : List (List ℕ)) (us fs : List Unspent) (ds : List Datum) → AllByRecursion (λ u. contract_in u.output.lock ≡ None) us → AreKeyed signers fs → steps_of (pairs w us fs) ds ≡ []
no_step w signers [] fs ds h g = no_keys_step signers fs ds g
no_step w signers (u ∷ us) fs ds h g = ap (λ c. or_step c (spend_with w u) ds (steps_of (pairs w us fs))) h.0 ∙ no_step w signers us fs ds h.1 g

-- and where the first are no steps, none of the inputs is one
pub none_steps : (w : Redeemer) → is_step w ≡ false → (us : List Unspent) → Nowhere (λ (x : Spend). is_step x.redeemer) (map (spend_with w) us)
none_steps w h [] = tt
none_steps w h (u ∷ us) = (h, none_steps w h us)

pub no_steps : (w : Redeemer) → is_step w ≡ false → (us fs : List Unspent) → step_count (map (spend_with w) us ++ map by_key fs) ≡ 0
no_steps w h us fs =
    none_counted (λ (x : Spend). is_step x.redeemer) (map (spend_with w) us ++ map by_key fs)
    (each-append (λ (x : Spend). is_step x.redeemer ≡ false) (map (spend_with w) us) (map by_key fs) (none_steps w h us) (none_steps with.None refl fs))
