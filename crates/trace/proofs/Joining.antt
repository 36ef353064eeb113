-- Two lists of transactions.
use Rattle.std.proofs.Common.{◌≡◌, ℕ, suc, ◌+◌, List, [], ◌∷◌, ◌++◌, length, get_or, drop, ◌<◌, ◌≤◌, refl, sym, ap, ◌∙◌, arith, Result, Ok, Err}
use Rattle.std.specs.Result.{result_unwrap_or}
use Rattle.std.proofs.lemmas.List.{at_drop_more, at_drop_all}
use Rattle.contract.specs.declared.fault.SemFault.{SemFault}
use Rattle.contract.specs.declared.transaction.Transaction.{Transaction}
use Rattle.semantics.specs.Walk.{Standing, answer_of}
use Rattle.analysis_spec.specs.declared.path.PathStep.{PathStep}
use Rattle.analysis_spec.specs.Marks.{led, led_with, place_after, leads_after}
use Rattle.analysis_spec.specs.Runs.{walk_from, standing_after}
use Rattle.trace.specs.Traces.{walks_then, walks, left_then, left_by, TracesJoin}

abbrev Joins : Standing → Standing → List Transaction → List Transaction → Type 0
Joins a b ts us = (walks a (ts ++ us) ≡ walks a ts ++ walks b us) × ((m : ℕ) → left_by m a (ts ++ us) ≡ left_by (m + length ts) b us)

pub traces_join : TracesJoin
traces_join n a b [] us h =
    let e : a ≡ b = cc in
    (ap (λ z. walks z us) e, λ m. ap (λ z. left_by m z us) e ∙ ap (λ k. left_by k b us) (zero_more m))
  where
    zero_more : (m : ℕ) → m ≡ m + 0
    zero_more m = omega arith
traces_join n a b (t ∷ ts) us h = by (answer_of (walk_from a t)) h refl (λ c e. traces_join (suc n) c b ts us e)
  where
    one_more : (m : ℕ) → suc m + length ts ≡ m + suc (length ts)
    one_more m = omega arith

    by : (r : Result Standing SemFault) → left_then r n (λ c. left_by (suc n) c ts) ≡ Ok b → answer_of (walk_from a t) ≡ r → ((c : Standing) → left_by (suc n) c ts ≡ Ok b → Joins c b ts us) → Joins a b (t ∷ ts) us
    by (Ok c) g e rec =
        let q = rec c g in (
          ap (λ r. walk_from a t ∷ walks_then r (λ d. walks d (ts ++ us))) e
              ∙ (ap (λ z. walk_from a t ∷ z) q.0 ∙ sym (ap (λ r. walk_from a t ∷ (walks_then r (λ d. walks d ts) ++ walks b us)) e)),
          λ m. ap (λ r. left_then r m (λ d. left_by (suc m) d (ts ++ us))) e ∙ (q.1 (suc m) ∙ ap (λ k. left_by k b us) (one_more m)),
        )
    by (Err f) g e rec = absurd (cc)

-- ---- the loop

pub left_here : (n : ℕ) (a b : Standing) (ts : List Transaction) (t : Transaction) → n < length ts → t ≡ get_or ts n t → answer_of (walk_from a t) ≡ Ok b → left_by n a (drop n ts) ≡ left_by (n + 1) b (drop (n + 1) ts)
left_here n a b ts t h e k =
    at_drop_more (left_by n a) ts n t h
    ∙ (ap (λ z. left_then (answer_of (walk_from a z)) n (λ c. left_by (suc n) c (drop (n + 1) ts))) (sym e)
    ∙ (ap (λ r. left_then r n (λ c. left_by (suc n) c (drop (n + 1) ts))) k ∙ ap (λ m. left_by m b (drop (n + 1) ts)) (one n)))
  where
    one : (m : ℕ) → suc m ≡ m + 1
    one m = omega arith

pub refused_here : (n : ℕ) (a : Standing) (ts : List Transaction) (t : Transaction) (f : SemFault) → n < length ts → t ≡ get_or ts n t → answer_of (walk_from a t) ≡ Err f → left_by n a (drop n ts) ≡ Err (record { index = n; fault = f })
refused_here n a ts t f h e k =
    at_drop_more (left_by n a) ts n t h
    ∙ (ap (λ z. left_then (answer_of (walk_from a z)) n (λ c. left_by (suc n) c (drop (n + 1) ts))) (sym e) ∙ ap (λ r. left_then r n (λ c. left_by (suc n) c (drop (n + 1) ts))) k)

-- where they lead, alike
pub leads_here : (here : List PathStep) (n : ℕ) (a b : Standing) (ts : List Transaction) (t : Transaction) → n < length ts → t ≡ get_or ts n t → answer_of (walk_from a t) ≡ Ok b
    → leads_after here a (drop n ts) ≡ leads_after (led here (walk_from a t).turns) b (drop (n + 1) ts)
leads_here here n a b ts t h e k =
    at_drop_more (leads_after here a) ts n t h
    ∙ (ap (λ z. leads_after (place_after here a z) (standing_after a z) (drop (n + 1) ts)) (sym e)
    ∙ ap (λ r. leads_after (led_with r here (walk_from a t).turns) (result_unwrap_or r a) (drop (n + 1) ts)) k)

pub led_whole : (here : List PathStep) (n : ℕ) (a : Standing) (ts : List Transaction) → length ts ≤ n → leads_after here a (drop n ts) ≡ here
led_whole here n a ts h = at_drop_all (leads_after here a) ts n h

pub left_whole : (n : ℕ) (a : Standing) (ts : List Transaction) → length ts ≤ n → left_by n a (drop n ts) ≡ Ok a
left_whole n a ts h = at_drop_all (left_by n a) ts n h
