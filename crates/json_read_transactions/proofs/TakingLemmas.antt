-- Readings behind others.
use Rattle.std.proofs.Common.{◌≡◌, ◌≢◌, ℕ, ◌+◌, ◌<◌, ◌≤◌, List, [], ◌∷◌, ◌++◌, length, get_or, drop, map, Result, Ok, Err, refl, sym, ap, ◌∙◌, append_assoc, append-nil}
use Rattle.std.specs.Prelude.{flat_map, Vec}
use Rattle.std.specs.declared.alloc.Global.{Global}
use Rattle.std.proofs.lemmas.List.{at_drop_more, at_drop_all}
use Rattle.contract.specs.Collections.Answers.{◌>>=◌}
use Rattle.contract.specs.declared.transaction.Transaction.{Transaction}
use Rattle.json_read_names.specs.Parts.{Reading}
use Rattle.json_read_names.specs.ReadsText.{json_of}
use Rattle.json_read_names.specs.declared.fault.JsonFault.{JsonFault}
use Rattle.json_read_names.specs.declared.fault.JsonFault.TheVariants as json
use Rattle.json_read_transactions.specs.declared.fault.ReadFault.{ReadFault}
use Rattle.json_read_transactions.specs.ReadsTransactions.{readings_by, readings, taken, transactions_of}
use Rattle.json_read_transactions.specs.TakingSupport.{going_on, Takes}

-- ---- a part of what is read, and then what is left

module _ (old mid : List Transaction) (all left first : List (Reading Transaction)) (whole : (more : List (Reading Transaction)) → going_on old (all ++ more) ≡ going_on mid (left ++ more)) where
  pub further : (new : List Transaction) (rest : List (Reading Transaction)) → left ≡ first ++ rest → ((more : List (Reading Transaction)) → going_on mid (first ++ more) ≡ going_on new more)
      → (more : List (Reading Transaction)) → going_on old (all ++ more) ≡ going_on new (rest ++ more)
  further new rest is h more = whole more ∙ (ap (λ rs. going_on mid (rs ++ more)) is ∙ (ap (going_on mid) (append_assoc first rest more) ∙ h (rest ++ more)))

  pub stopped : (fault : ReadFault) (rest : List (Reading Transaction)) → left ≡ first ++ rest → ((more : List (Reading Transaction)) → going_on mid (first ++ more) ≡ Err fault)
      → (more : List (Reading Transaction)) → going_on old (all ++ more) ≡ Err fault
  stopped fault rest is h more = whole more ∙ (ap (λ rs. going_on mid (rs ++ more)) is ∙ (ap (going_on mid) (append_assoc first rest more) ∙ h (rest ++ more)))

  pub ended : (new : List Transaction) (result : Result (Unit {0}) ReadFault) → left ≡ first → Takes first mid new result → Takes all old new result
  ended new (Ok u) is h = λ more. whole more ∙ (ap (λ rs. going_on mid (rs ++ more)) is ∙ h more)
  ended new (Err fault) is h = λ n more. whole more ∙ (ap (λ rs. going_on mid (rs ++ more)) is ∙ h n more)

-- ---- a text that has no JSON value as a whole

one_fault : (text : List ℕ) (fault : JsonFault) → fault ≢ json.NotJson → readings_by text (Err fault) ≡ Err fault ∷ []
one_fault text json.NotJson n = absurd (n refl)
one_fault text json.TooLong n = refl
one_fault text json.NoForm n = refl
one_fault text json.NotWhole n = refl
one_fault text json.OutOfRange n = refl
one_fault text json.BadHex n = refl
one_fault text json.Merkleized n = refl
one_fault text json.BadState n = refl
one_fault text json.Memory n = refl

pub readings_fault : (text : List ℕ) (fault : JsonFault) → fault ≢ json.NotJson → json_of text ≡ Err fault → readings text ≡ Err fault ∷ []
unfolding readings
readings_fault text fault n is = ap (readings_by text) is ∙ one_fault text fault n

-- ---- all texts

abbrev texts_of : List (Vec ℕ Global) → List (List ℕ)
texts_of = map (λ text. text.items)

as_read : (r : Result (List Transaction) ReadFault) → (r >>= λ ts. Ok ([] ++ ts)) ≡ r
as_read (Ok ts) = refl
as_read (Err fault) = refl

module _ (texts : List (Vec ℕ Global)) (n : ℕ) (now : List Transaction) (whole : going_on [] (flat_map readings (texts_of texts)) ≡ going_on now (flat_map readings (texts_of (drop n texts)))) where
  -- none is left
  pub all_read : length texts ≤ n → transactions_of (texts_of texts) ≡ Ok now
  unfolding transactions_of
  all_read h = sym (as_read (taken 0 (flat_map readings (texts_of texts)))) ∙ (whole ∙ (at_drop_all (λ us. going_on now (flat_map readings (texts_of us))) texts n h ∙ ap Ok (append-nil now)))

  -- one has a fault
  pub fault_read : (text : Vec ℕ Global) (fault : ReadFault) → n < length texts → text ≡ get_or texts n text → ((more : List (Reading Transaction)) → going_on now (readings text.items ++ more) ≡ Err fault) → transactions_of (texts_of texts) ≡ Err fault
  unfolding transactions_of
  fault_read text fault h is e =
      sym (as_read (taken 0 (flat_map readings (texts_of texts))))
      ∙ (whole
      ∙ (at_drop_more (λ us. going_on now (flat_map readings (texts_of us))) texts n text h
      ∙ (ap (λ (u : Vec ℕ Global). going_on now (readings u.items ++ flat_map readings (texts_of (drop (n + 1) texts)))) (sym is) ∙ e (flat_map readings (texts_of (drop (n + 1) texts))))))
