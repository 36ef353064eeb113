-- From what each worker answers to what is answered to all jobs.
use Rattle.std.proofs.Common.{◌≡◌, ℕ, ◌+◌, ◌%◌, ◌<◌, Bool, true, false, List, [], ◌∷◌, ◌++◌, length, map, get_or, refl, sym, ◌∙◌, ap, subst}
use Rattle.std.specs.Prelude.{◌==◌, Result, Ok, Err, IfOk}
use Rattle.std.proofs.lemmas.List.{length-map, map-append}
use Rattle.std.proofs.Math.ListN.{get_or-map}
use Rattle.parallel_check.specs.DealingSupport.{batch_of, IsDealt, AllOk}
use Rattle.parallel_check.proofs.DealingLemmas.{if_turn, batch_of-cons}

-- the batch of what a function gives is what it gives of the batch
map-batch_of : {X Y : Type 0} (f : X → Y) (n w place : ℕ) (xs : List X) → map f (batch_of n w place xs) ≡ batch_of n w place (map f xs)
map-batch_of f n w place [] = refl
map-batch_of f n w place (x ∷ xs) =
    let turn : Bool = place % n == w in
    ap (map f) (batch_of-cons n w place x xs turn refl)
    ∙ map-append f (if_turn turn x) (batch_of n w (place + 1) xs)
    ∙ ap (λ rest. map f (if_turn turn x) ++ rest) (map-batch_of f n w (place + 1) xs)
    ∙ ap (λ front. front ++ batch_of n w (place + 1) (map f xs)) (alone turn)
    ∙ sym (batch_of-cons n w place (f x) (map f xs) turn refl)
  where
    alone : (turn : Bool) → map f (if_turn turn x) ≡ if_turn turn (f x)
    alone true = refl
    alone false = refl

-- where each worker's answer is what a function gives of its batch, they have dealt to them what it gives of all jobs
answers_are_dealt : {X Y E : Type 0} (f : X → Y) (n : ℕ) (jobs : List X) (batches : List (List X)) (answers : List (Result (List Y) E)) (done : List (List Y)) →
    IsDealt n 0 jobs batches → length answers ≡ length batches →
    ((w : ℕ) (d : Result (List Y) E) → w < length batches → IfOk (get_or answers w d) (λ ys. ys ≡ map f (get_or batches w []))) →
    AllOk answers done → IsDealt n 0 (map f jobs) done
answers_are_dealt {X} {Y} {E} f n jobs batches answers done dealt len each all = (sym (length-map done (λ ys. Ok ys)) ∙ sym (ap length all) ∙ len ∙ dealt.0, of_worker)
  where
    of_worker : (w : ℕ) → w < n → get_or done w [] ≡ batch_of n w 0 (map f jobs)
    of_worker w within =
        let answer : get_or answers w (Ok []) ≡ Ok (get_or done w []) = ap (λ rs. get_or rs w (Ok [])) all ∙ get_or-map (λ ys. Ok ys) done w [] in
        let its : IfOk (get_or answers w (Ok [])) (λ ys. ys ≡ map f (get_or batches w [])) = each w (Ok []) (subst (λ k. w < k) (sym dealt.0) within) in
        subst (λ r. IfOk r (λ ys. ys ≡ map f (get_or batches w []))) answer its ∙ ap (map f) (dealt.1 w within) ∙ map-batch_of f n w 0 jobs

-- and where those are gathered, they are what it gives of all jobs, in their order
pub answers_are_gathered : {X Y E : Type 0} (f : X → Y) (n count : ℕ) (jobs : List X) (batches : List (List X)) (answers : List (Result (List Y) E)) (done : List (List Y)) (all : List Y) →
    IsDealt n 0 jobs batches → length answers ≡ length batches →
    ((w : ℕ) (d : Result (List Y) E) → w < length batches → IfOk (get_or answers w d) (λ ys. ys ≡ map f (get_or batches w []))) →
    AllOk answers done → length jobs ≡ count →
    ((xs : List Y) → length xs ≡ count → IsDealt (length done) 0 xs done → all ≡ xs) → all ≡ map f jobs
answers_are_gathered f n count jobs batches answers done all dealt len each are counted gathered =
    let is = answers_are_dealt f n jobs batches answers done dealt len each are in
    gathered (map f jobs) (length-map jobs f ∙ counted) (subst (λ k. IsDealt k 0 (map f jobs) done) (sym is.0) is)

-- an answer that is there meets whatever follows from what it meets
pub if_ok_then : {A E : Type 0} (r : Result A E) (P Q : A → Type 0) → IfOk r P → ((x : A) → P x → Q x) → IfOk r Q
if_ok_then (Ok x) P Q h go = go x h
if_ok_then (Err e) P Q h go = h
