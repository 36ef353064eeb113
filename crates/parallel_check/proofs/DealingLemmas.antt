-- One step of dealing, and one of gathering.
use Rattle.std.proofs.Common.{◌≡◌, ℕ, ◌+◌, ◌%◌, ◌<◌, zero, suc, Bool, true, false, List, [], ◌∷◌, ◌++◌, length, set, get_or, take, drop, refl, sym, ◌∙◌, ap, subst, arith}
use Rattle.std.specs.Prelude.{◌==◌, Option, Some, option_to_list}
use Rattle.std.proofs.lemmas.Bool.{eqb-true, eqb-false, eq-eqb}
use Rattle.std.proofs.lemmas.List.{append_assoc, append-nil, get_or-set_other, length-set, drop_more, take_more}
use Rattle.std.proofs.lemmas.Grind.{get_or-set_at}
use Rattle.std.proofs.Math.Nat.{mod-lt}
use Rattle.parallel_check.specs.DealingSupport.{batch_of, IsDealt}

-- one more empty batch
pub one_more_empty : {X : Type 0} (batches : List (List X)) → ((w : ℕ) → get_or batches w [] ≡ []) → (w : ℕ) → get_or (batches ++ [] ∷ []) w [] ≡ []
one_more_empty [] empty zero = refl
one_more_empty [] empty (suc w) = refl
one_more_empty (batch ∷ batches) empty zero = empty 0
one_more_empty (batch ∷ batches) empty (suc w) = one_more_empty batches (λ v. empty (suc v)) w

module _ {X : Type 0} where
  -- what an item adds to a batch: itself where it is that worker's turn, and else nothing
  abbrev pub if_turn : Bool → X → List X
  if_turn true x = x ∷ []
  if_turn false x = []

  pub batch_of-cons : (n w place : ℕ) (x : X) (xs : List X) (turn : Bool) → (place % n == w) ≡ turn →
      batch_of n w place (x ∷ xs) ≡ if_turn turn x ++ batch_of n w (place + 1) xs
  batch_of-cons n w place x xs true is = rw is
  batch_of-cons n w place x xs false is = rw is

  batch_of-append : (n w place : ℕ) (x : X) (xs : List X) →
      batch_of n w place (xs ++ x ∷ []) ≡ batch_of n w place xs ++ if_turn ((place + length xs) % n == w) x
  batch_of-append n w place x [] =
      batch_of-cons n w place x [] (place % n == w) refl ∙ append-nil (if_turn (place % n == w) x) ∙ ap (λ at. if_turn (at % n == w) x) (omega arith)
  batch_of-append n w place x (y ∷ xs) =
      let turn : Bool = place % n == w in
      let last : Bool = (place + 1 + length xs) % n == w in
      batch_of-cons n w place y (xs ++ x ∷ []) turn refl
      ∙ ap (λ rest. if_turn turn y ++ rest) (batch_of-append n w (place + 1) x xs)
      ∙ sym (append_assoc (if_turn turn y) (batch_of n w (place + 1) xs) (if_turn last x))
      ∙ ap (λ front. front ++ if_turn last x) (sym (batch_of-cons n w place y xs turn refl))
      ∙ ap (λ at. batch_of n w place (y ∷ xs) ++ if_turn (at % n == w) x) (omega arith)

  -- the same of all items from the first on
  batch_of-last : (n w place : ℕ) (x : X) (xs : List X) (turn : Bool) → length xs ≡ place → (place % n == w) ≡ turn →
      batch_of n w 0 (xs ++ x ∷ []) ≡ batch_of n w 0 xs ++ if_turn turn x
  batch_of-last n w place x xs turn len is =
      batch_of-append n w 0 x xs ∙ ap (λ at. batch_of n w 0 xs ++ if_turn (at % n == w) x) (omega (arith, len)) ∙ ap (λ t. batch_of n w 0 xs ++ if_turn t x) is

  -- the next item goes to the worker whose turn it is
  pub deal_next : (n place : ℕ) (x : X) (xs : List X) (batches : List (List X)) (batch : List X) → 0 < n → length xs ≡ place →
      batch ≡ get_or batches (place % n) [] ++ x ∷ [] → IsDealt n 0 xs batches → IsDealt n 0 (xs ++ x ∷ []) (set batches (place % n) batch)
  deal_next n place x xs batches batch some len is dealt = (length-set batches (place % n) batch ∙ dealt.0, λ w within. by w within (place % n == w) refl)
    where
      inside : place % n < length batches
      inside = subst (λ k. place % n < k) (sym dealt.0) (mod-lt place some)

      by : (w : ℕ) → w < n → (turn : Bool) → (place % n == w) ≡ turn → get_or (set batches (place % n) batch) w [] ≡ batch_of n w 0 (xs ++ x ∷ [])
      by w within true tells =
          let its : place % n ≡ w = eqb-true (place % n) w tells in
          get_or-set_at batches (place % n) w batch [] (sym its) inside
          ∙ is
          ∙ ap (λ v. get_or batches v [] ++ x ∷ []) its
          ∙ ap (λ front. front ++ x ∷ []) (dealt.1 w within)
          ∙ sym (batch_of-last n w place x xs true len tells)
      by w within false tells =
          get_or-set_other batches (place % n) w batch [] (λ same. eqb-false (place % n) w tells (sym same))
          ∙ dealt.1 w within
          ∙ sym (append-nil (batch_of n w 0 xs))
          ∙ sym (batch_of-last n w place x xs false len tells)

  -- the next item stands first in the batch of the worker whose turn it is
  pub next_is : (n place : ℕ) (x : X) (rest : List X) (batches : List (List X)) → 0 < n → IsDealt n place (x ∷ rest) batches →
      get_or batches (place % n) [] ≡ x ∷ batch_of n (place % n) (place + 1) rest
  next_is n place x rest batches some dealt =
      dealt.1 (place % n) (mod-lt place some) ∙ batch_of-cons n (place % n) place x rest true (eq-eqb (place % n) (place % n) refl)

  -- and without it the batches have what is left
  pub next_leaves : (n place : ℕ) (x : X) (rest : List X) (batches : List (List X)) → 0 < n → IsDealt n place (x ∷ rest) batches →
      IsDealt n (place + 1) rest (set batches (place % n) (batch_of n (place % n) (place + 1) rest))
  next_leaves n place x rest batches some dealt = (length-set batches (place % n) left ∙ dealt.0, λ w within. by w within (place % n == w) refl)
    where
      left : List X
      left = batch_of n (place % n) (place + 1) rest

      inside : place % n < length batches
      inside = subst (λ k. place % n < k) (sym dealt.0) (mod-lt place some)

      by : (w : ℕ) → w < n → (turn : Bool) → (place % n == w) ≡ turn → get_or (set batches (place % n) left) w [] ≡ batch_of n w (place + 1) rest
      by w within true tells =
          let its : place % n ≡ w = eqb-true (place % n) w tells in
          get_or-set_at batches (place % n) w left [] (sym its) inside ∙ ap (λ v. batch_of n v (place + 1) rest) its
      by w within false tells =
          get_or-set_other batches (place % n) w left [] (λ same. eqb-false (place % n) w tells (sym same))
          ∙ dealt.1 w within
          ∙ batch_of-cons n w place x rest false tells

  -- at a place inside a list: the item there, what is left from it on, and what is taken with it
  at_place : (xs : List X) (place : ℕ) → place < length xs → (x : X) × (drop place xs ≡ x ∷ drop (place + 1) xs) × (take (place + 1) xs ≡ take place xs ++ x ∷ [])
  at_place [] place inside = absurd (omega arith)
  at_place (x ∷ xs) place inside = (get_or (x ∷ xs) place x, drop_more (x ∷ xs) place x inside, take_more (x ∷ xs) place x inside)

  -- where the next item is taken from its batch and put behind those that are gathered, one more is gathered
  pub gather_step : (n m place : ℕ) (xs all more : List X) (batches left : List (List X)) (next : Option X) → m ≡ n → place < length xs →
      ((x : X) (rest : List X) → IsDealt m place (x ∷ rest) batches → next ≡ Some x) →
      ((x : X) (rest : List X) → IsDealt m place (x ∷ rest) batches → IsDealt m (place + 1) rest left) →
      all ≡ take place xs → IsDealt n place (drop place xs) batches → more ≡ all ++ option_to_list next →
      (more ≡ take (place + 1) xs) × IsDealt n (place + 1) (drop (place + 1) xs) left
  gather_step n m place xs all more batches left next same inside is leaves so_far dealt adds =
      let at = at_place xs place inside in
      let rest : List X = drop (place + 1) xs in
      let here : IsDealt m place (at.0 ∷ rest) batches = subst (λ k. IsDealt k place (at.0 ∷ rest) batches) (sym same) (subst (λ ys. IsDealt n place ys batches) at.1 dealt) in (
        adds ∙ ap (λ found. all ++ option_to_list found) (is at.0 rest here) ∙ ap (λ front. front ++ at.0 ∷ []) so_far ∙ sym at.2,
        subst (λ k. IsDealt k (place + 1) rest left) same (leaves at.0 rest here),
      )
