-- Laws for readers of transactions: a text of one, and fewer texts.
use Rattle.std.proofs.Common.{◌≡◌, ℕ, suc, Bool, true, false, cond, List, [], ◌∷◌, ◌++◌, Result, Ok, Err, refl, sym, ap, ◌∙◌, arith}
use Rattle.std.specs.Prelude.{nat_lt, flat_map}
use Rattle.std.proofs.lemmas.Bool.Decides.{nat_tests}
use Rattle.contract.specs.Collections.Answers.{◌>>=◌}
use Rattle.contract.specs.declared.transaction.Transaction.{Transaction}
use Rattle.serde_json.specs.Data.{Data, null, boolean, number, string, array, object}
use Rattle.json_read_names.specs.Parts.{Reading}
use Rattle.json_read_names.specs.ReadsText.{json_of, of_text}
use Rattle.json_read_inputs.specs.ReadsInput.{transaction}
use Rattle.json_read_transactions.specs.declared.fault.ReadFault.{ReadFault}
use Rattle.json_read_transactions.specs.declared.fault.ReadFault.TheVariants as faults
use Rattle.json_read_transactions.specs.ReadsTransactions.{value_readings, readings_by, readings, numbered, taken, transactions_of, OneIsReadAlone, RestIsRead}

-- a list is no transaction
one_value : (d : Data) (t : Transaction) → transaction d ≡ Ok t → value_readings d ≡ Ok t ∷ []
one_value null t h = ap (λ r. r ∷ []) h
one_value (boolean b) t h = ap (λ r. r ∷ []) h
one_value (number n) t h = ap (λ r. r ∷ []) h
one_value (string s) t h = ap (λ r. r ∷ []) h
one_value (array ds) t h = absurd (cc)
one_value (object ms) t h = ap (λ r. r ∷ []) h

by_json : (text : List ℕ) (r : Reading Data) (t : Transaction) → (r >>= transaction) ≡ Ok t → readings_by text r ≡ Ok t ∷ []
by_json text (Ok d) t h = one_value d t h
by_json text (Err fault) t h = absurd (cc)

alone : (text : List ℕ) (t : Transaction) → of_text transaction text ≡ Ok t → readings text ≡ Ok t ∷ []
unfolding readings
alone text t h = by_json text (json_of text) t h

pub one_is_read_alone : OneIsReadAlone
unfolding transactions_of
one_is_read_alone text t h = ap (λ rs. taken 0 (rs ++ [])) (alone text t h)

-- the front of a list of results
first_ok : {X F : Type 0} (x : X) (r : Result (List X) F) (y : X) (ys : List X) → (r >>= λ xs. Ok (x ∷ xs)) ≡ Ok (y ∷ ys) → r ≡ Ok ys
first_ok x (Ok xs) y ys h = let same : xs ≡ ys = cc in ap Ok same
first_ok x (Err f) y ys h = absurd (cc)

-- where fewer came before
module _ (n : ℕ) (rs : List (Reading Transaction)) (rest : (ts : List Transaction) → taken (suc (suc n)) rs ≡ Ok ts → taken (suc n) rs ≡ Ok ts) where
  of_rest : (t : Transaction) (us : List Transaction) (z : Result (List Transaction) ReadFault) → taken (suc (suc n)) rs ≡ z → (z >>= λ vs. Ok (t ∷ vs)) ≡ Ok us → (taken (suc n) rs >>= λ vs. Ok (t ∷ vs)) ≡ Ok us
  of_rest t us (Ok vs) is e = ap (λ (y : Result (List Transaction) ReadFault). y >>= λ ws. Ok (t ∷ ws)) (rest vs is) ∙ e
  of_rest t us (Err f) is e = absurd (cc)

  of_reading : (q : Reading Transaction) (us : List Transaction) → (numbered (suc n) q >>= λ t. taken (suc (suc n)) rs >>= λ vs. Ok (t ∷ vs)) ≡ Ok us → (numbered n q >>= λ t. taken (suc n) rs >>= λ vs. Ok (t ∷ vs)) ≡ Ok us
  of_reading (Ok t) us e = of_rest t us (taken (suc (suc n)) rs) refl e
  of_reading (Err f) us e = absurd (cc)

  by_room : (q : Reading Transaction) (us : List Transaction) (b : Bool) → nat_lt (suc n) 10000 ≡ b
      → cond b (numbered (suc n) q >>= λ t. taken (suc (suc n)) rs >>= λ vs. Ok (t ∷ vs)) (Err faults.TooMany) ≡ Ok us → taken n (q ∷ rs) ≡ Ok us
  by_room q us true is e =
      let room : nat_lt n 10000 ≡ true = grind (arith, nat_tests, is) in
      ap (λ b. cond b (numbered n q >>= λ t. taken (suc n) rs >>= λ vs. Ok (t ∷ vs)) (Err faults.TooMany)) room ∙ of_reading q us e
  by_room q us false is e = absurd (cc)

fewer : (n : ℕ) (rs : List (Reading Transaction)) (ts : List Transaction) → taken (suc n) rs ≡ Ok ts → taken n rs ≡ Ok ts
fewer n [] ts h = h
fewer n (r ∷ rs) ts h = by_room n rs (λ us e. fewer (suc n) rs us e) r ts (nat_lt (suc n) 10000) refl h

pub rest_is_read : RestIsRead
unfolding transactions_of
rest_is_read text texts t ts h e =
    fewer 0 (flat_map readings texts) ts
    (first_ok t (taken 1 (flat_map readings texts)) t ts (ap (λ rs. taken 0 (rs ++ flat_map readings texts)) (sym (alone text t h)) ∙ e))
