-- What is found, what equals it, and what a check of it decides.
use Rattle.std.proofs.Common.{◌≡◌, ◌≢◌, ℕ, Bool, true, false, cond, ◌&&◌, List, [], ◌∷◌, Option, Some, None, refl, sym, ◌∙◌, ap, subst}
use Rattle.std.specs.Cmp.{Equal-is, tied_itself}
use Rattle.std.specs.Cmp.Lexicographic.{pointwise, bytes_decides}
use Rattle.std.specs.List.{AllByRecursion}
use Rattle.std.specs.Ordering.{eq_by_cmp, is_eq}
use Rattle.std.specs.FinMap.{FinMap, entries, get, get-insert, get-empty, get-entries}
use Rattle.std.specs.FinMap.Entries.{find}
use Rattle.contract.specs.Names.Orders.{bytes_cmp}
use Rattle.contract.specs.Names.Totals.{bytes_total}
use Rattle.contract.proofs.FromNames.Exact.{bytes_exact}
use Rattle.eutxo_types.specs.Bundle.Bundles.{Amounts}
use Rattle.eutxo_types.specs.Machine.declared.datum.Datum.{Datum}
use Rattle.eutxo_types.specs.declared.fault.TxFault.{TxFault}
use Rattle.eutxo.specs.Asked.{Judges, Stepping}
use Rattle.eutxo.specs.Checks.{CheckOf}
use Rattle.eutxo.specs.Found.{script_at, with_outputs, if_known, same_scripts}
use Rattle.eutxo_types.specs.declared.tx.Tx.{Tx}
use Rattle.eutxo.specs.Judgement.{Moment, not_unspent, id_in_use, outside_interval, unknown_script, with_script, scripts_found, names_of, outputs_found, found}
use Rattle.eutxo.specs.Laws.{AnswerAlike, EqualResolutionsAgree, EqualResolutionsDecideAlike, EqualResolutionsGoOnAlike, ledger_fault, verdict_after, ChecksDecide, FoundIsEnough, FoundTellsPlaces}
use Rattle.eutxo.specs.Local.{tx_fault, whole_fault, local, verdict_of}
use Rattle.eutxo_types.specs.Parts.{same_bytes}
use Rattle.eutxo.specs.Faults.{first_of, or_else}
use Rattle.eutxo.proofs.ResolutionLemmas.{alike_decide, agreeing_decide, alike_go_on, agreeing_go_on}

all_of : {A : Type 0} (P : A → Type 0) → ((x : A) → P x) → (xs : List A) → AllByRecursion P xs
all_of P h [] = tt
all_of P h (x ∷ xs) = (h x, all_of P h xs)

mapped : {A : Type 0} (P Q : A → Type 0) → ((x : A) → P x → Q x) → (xs : List A) → AllByRecursion P xs → AllByRecursion Q xs
mapped P Q f [] h = tt
mapped P Q f (x ∷ xs) h = (f x h.0, mapped P Q f xs h.1)

-- ---- equal scripts

both : (a b : Bool) → (a && b) ≡ true → (a ≡ true) × (b ≡ true)
both true b h = (refl, h)
both false b h = cc

module _ {V : Type 0} (j : Judges V) (eq : V → V → Bool) (alike : (x y : V) → eq x y ≡ true → ((s : Stepping) → j.step x s ≡ j.step y s) × ((d : Datum) (held : Amounts) → j.starts x d held ≡ j.starts y d held)) where
  found_alike : (es fs : List (List ℕ × V)) → pointwise (λ x y. same_bytes x.0 y.0 && eq x.1 y.1) es fs ≡ true → (id : List ℕ) → AnswerAlike j (find bytes_cmp id es) (find bytes_cmp id fs)
  found_alike [] [] h id = tt
  found_alike [] (f ∷ fs) h id = cc
  found_alike (e ∷ es) [] h id = cc
  found_alike (e ∷ es) (f ∷ fs) h id =
      let parts = both (same_bytes e.0 f.0 && eq e.1 f.1) (pointwise (λ x y. same_bytes x.0 y.0 && eq x.1 y.1) es fs) h in
      let here = both (same_bytes e.0 f.0) (eq e.1 f.1) parts.0 in
      subst (λ k. AnswerAlike j (find bytes_cmp id (e ∷ es)) (cond (eq_by_cmp bytes_cmp id k) (Some f.1) (find bytes_cmp id fs))) ((bytes_decides e.0 f.0).0 here.0)
      (elim (eq_by_cmp bytes_cmp id e.0) as (λ b. AnswerAlike j (cond b (Some e.1) (find bytes_cmp id es)) (cond b (Some f.1) (find bytes_cmp id fs))) [
        | true ↦ alike e.1 f.1 here.1
        | false ↦ found_alike es fs parts.1 id
      ])

  equal_alike : (a b : FinMap bytes_cmp V) → same_scripts eq a b ≡ true → (id : List ℕ) → AnswerAlike j (script_at a id) (script_at b id)
  equal_alike a b h id = subst (λ x. AnswerAlike j x (script_at b id)) (sym (get-entries a id)) (subst (AnswerAlike j (find bytes_cmp id (entries a))) (sym (get-entries b id)) (found_alike (entries a) (entries b) h id))

  pub equal_resolutions_agree : EqualResolutionsAgree j eq
  equal_resolutions_agree tx a b h =
      record { outputs = h.0; scripts = all_of (λ id. AnswerAlike j (script_at a.scripts id) (script_at b.scripts id)) (equal_alike a.scripts b.scripts h.1) (names_of tx a.outputs) }

  pub equal_resolutions_decide_alike : EqualResolutionsDecideAlike j eq
  equal_resolutions_decide_alike tx a b h = agreeing_decide j tx a b (equal_resolutions_agree tx a b h)

  pub equal_resolutions_go_on_alike : EqualResolutionsGoOnAlike j eq
  equal_resolutions_go_on_alike tx a b h = agreeing_go_on j tx a b (equal_resolutions_agree tx a b h)

-- ---- what is published of what is named

module _ {V : Type 0} (named : List ℕ → Option V) where
  -- one more script
  kept : (rest : FinMap bytes_cmp V) (id : List ℕ) (v : Option V) → v ≡ named id → (q : List ℕ) → get rest q ≡ named q → get (with_script id v rest) q ≡ named q
  kept rest id None e q h = h
  kept rest id (Some v) e q h =
      get-insert bytes_total rest id v q
      ∙ elim (eq_by_cmp bytes_cmp q id) as (λ b. eq_by_cmp bytes_cmp q id ≡ b → cond b (Some v) (get rest q) ≡ named q) [
        | true ↦ λ t. e ∙ ap named (sym (bytes_exact q id ((Equal-is _).0 t)))
        | false ↦ λ t. h
      ] refl

  -- what is found is what is published, or nothing
  abbrev IsRight : FinMap bytes_cmp V → Type 0
  IsRight m = (q : List ℕ) → (get m q ≢ None) → get m q ≡ named q

  right : (ids : List (List ℕ)) → IsRight (scripts_found named ids)
  right [] q h = absurd (h (get-empty bytes_cmp q))
  right (id ∷ ids) q h = by (named id) refl h (right ids q)
    where
      by : (v : Option V) → v ≡ named id → (get (with_script id v (scripts_found named ids)) q ≢ None) → ((get (scripts_found named ids) q ≢ None) → get (scripts_found named ids) q ≡ named q) → get (with_script id v (scripts_found named ids)) q ≡ named q
      by None e k rest = rest k
      by (Some v) e k rest =
          get-insert bytes_total (scripts_found named ids) id v q
          ∙ elim (eq_by_cmp bytes_cmp q id) as (λ b. eq_by_cmp bytes_cmp q id ≡ b → cond b (Some v) (get (scripts_found named ids) q) ≡ named q) [
            | true ↦ λ t. e ∙ ap named (sym (bytes_exact q id ((Equal-is _).0 t)))
            | false ↦ λ t. rest (λ n. k (get-insert bytes_total (scripts_found named ids) id v q ∙ ap (λ b. cond b (Some v) (get (scripts_found named ids) q)) t ∙ n))
          ] refl

  -- the first of the ids
  first : (ids : List (List ℕ)) (id : List ℕ) → get (scripts_found named (id ∷ ids)) id ≡ named id
  first ids id = by (named id) refl
    where
      by : (v : Option V) → v ≡ named id → get (with_script id v (scripts_found named ids)) id ≡ named id
      by (Some v) e = get-insert bytes_total (scripts_found named ids) id v id ∙ ap (λ r. cond (is_eq r) (Some v) (get (scripts_found named ids) id)) (tied_itself bytes_total id) ∙ e
      by None e = none (get (scripts_found named ids) id) refl
        where
          none : (o : Option V) → get (scripts_found named ids) id ≡ o → get (scripts_found named ids) id ≡ named id
          none None p = p ∙ e
          none (Some v) p = right ids id (λ q. let r : Some v ≡ None = sym p ∙ q in cc)

  all_found : (ids : List (List ℕ)) → AllByRecursion (λ id. get (scripts_found named ids) id ≡ named id) ids
  all_found [] = tt
  all_found (id ∷ ids) =
      (first ids id, mapped (λ q. get (scripts_found named ids) q ≡ named q) (λ q. get (scripts_found named (id ∷ ids)) q ≡ named q) (kept (scripts_found named ids) id (named id) refl) ids (all_found ids))

module _ {V : Type 0} (j : Judges V) where
  itself : (x : Option V) → AnswerAlike j x x
  itself None = tt
  itself (Some v) = (λ s. refl, λ d held. refl)

  in_a_row : (a b : Option TxFault) → or_else a b ≡ first_of (a ∷ b ∷ [])
  in_a_row (Some x) b = refl
  in_a_row None (Some y) = refl
  in_a_row None None = refl

  -- what is found of the scripts that are named answers as what is published
  there : (m : Moment V) (tx : Tx) → AllByRecursion (λ id. AnswerAlike j (script_at (found m tx).scripts id) (m.published id)) (names_of tx (outputs_found m tx))
  there m tx =
      let ids = names_of tx (outputs_found m tx) in
      mapped (λ id. get (scripts_found m.published ids) id ≡ m.published id) (λ id. AnswerAlike j (script_at (found m tx).scripts id) (m.published id)) (λ id e. subst (AnswerAlike j (get (scripts_found m.published ids) id)) e (itself (get (scripts_found m.published ids) id))) ids (all_found m.published ids)

  pub found_tells_places : FoundTellsPlaces j
  found_tells_places m tx = alike_go_on j (script_at (found m tx).scripts) m.published tx (outputs_found m tx) (there m tx)

  pub found_is_enough : FoundIsEnough j
  found_is_enough m tx =
      ap (or_else (tx_fault tx)) (alike_decide j (script_at (found m tx).scripts) m.published tx (outputs_found m tx) (there m tx))
      ∙ in_a_row (tx_fault tx) (whole_fault j m.published tx (if_known m.published tx.outputs (with_outputs tx.inputs (outputs_found m tx))))

  last : (a b c d e f : Option TxFault) → verdict_of (first_of (a ∷ b ∷ c ∷ d ∷ e ∷ f ∷ [])) ≡ verdict_after (first_of (a ∷ b ∷ c ∷ d ∷ e ∷ [])) (verdict_of f)
  last (Some x) b c d e f = refl
  last None (Some x) c d e f = refl
  last None None (Some x) d e f = refl
  last None None None (Some x) e f = refl
  last None None None None (Some x) f = refl
  last None None None None None (Some x) = refl
  last None None None None None None = refl

  pub checks_decide : ChecksDecide j
  checks_decide m c is h =
      last (tx_fault c.tx) (not_unspent m c.tx) (id_in_use m c.tx) (outside_interval m c.tx) (unknown_script m c.tx) (local j c.tx (found m c.tx))
      ∙ ap (λ f. verdict_after (ledger_fault m c.tx) (verdict_of f)) (agreeing_decide j c.tx (found m c.tx) c.found h)
      ∙ ap (verdict_after (ledger_fault m c.tx)) (sym (ap (λ (x : CheckOf V). x.verdict) is))
