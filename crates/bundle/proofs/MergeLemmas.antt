-- One entry more of a sum that is put together in order.
use Rattle.std.proofs.Common.{◌≡◌, ℕ, ◌+◌, ◌-◌, ◌<◌, ◌≤◌, ℤ, pos, ◌+ℤ◌, ◌<ℤ◌, ◌≤ℤ◌, true, false, List, [], ◌∷◌, ◌++◌, length, take, drop, get_or, append_assoc, refl, sym, ◌∙◌, ap, subst, arith}
use Rattle.std.proofs.Math.Dec.{T}
use Rattle.std.proofs.lemmas.Int.{ints}
use Rattle.std.proofs.lemmas.List.{take_more, take_rest, drop_all}
use Rattle.std.specs.Prelude.{Result, Ok, Err, OnOk}
use Rattle.std.specs.Ordering.{ordering_reverse, is_eq}
use Rattle.std.specs.declared.cmp.Ordering.TheVariants.{Equal, Greater}
use Rattle.std.specs.FinMap.{from_sorted}
use Rattle.std.specs.FinMap.Entries.{by_order, put, is_sorted, is_sorted-put}
use Rattle.names.specs.declared.token.Token.{Token}
use Rattle.names.specs.Orders.{token_cmp}
use Rattle.names.specs.Totals.{token_total}
use Rattle.names.proofs.Exact.{token_exact}
use Rattle.bundle.specs.Bundles.{Amounts, with_amount, each, is_large, AllPositive}
use Rattle.bundle.specs.WalksSupport.{amount_in, AllBefore, NoneAfter, StartsFrom, starts_with}
use Rattle.bundle.proofs.LoopLemmas.{IsAdding, added, now_fits}
use Rattle.bundle.proofs.PositiveLaws.{AllPositive-put}
use Rattle.bundle.proofs.WalkLemmas.{less, amount-before, found_here, found_none, put-before, before-append, before_greater, sorted-right, part_left, here, starts_within, starts_at, amount_in-natural}
use Rattle.bundle.proofs.ZeroLemmas.{amount_of-from_sorted, put_is_change}

-- what was put, a part of what is held, and the rest of it
pub joined : (sum held : List (Token × ℤ)) (from at : ℕ) → from ≤ at → (sum ++ take (at - from) (drop from held)) ++ drop at held ≡ sum ++ drop from held
joined sum held from at l = append_assoc sum (take (at - from) (drop from held)) (drop at held) ∙ ap (λ xs. sum ++ xs) (part_left held from at l)

-- the token's entry is the first that is left
pub put_there : (t : Token) (xs : List (Token × ℤ)) (e : Token × ℤ) (es : List (Token × ℤ)) (v : ℤ) → AllBefore t xs → token_cmp t e.0 ≡ Equal →
    xs ++ (t, e.1 +ℤ v) ∷ es ≡ put token_cmp t (amount_in (xs ++ e ∷ es) t +ℤ v) (xs ++ e ∷ es)
put_there t xs e es v b h =
    let n = amount-before t xs (e ∷ es) b ∙ found_here t e es (ap is_eq h) in
    sym (
    ap (λ m. put token_cmp t (m +ℤ v) (xs ++ e ∷ es)) n
    ∙ put-before t (e.1 +ℤ v) xs (e ∷ es) b
    ∙ ap (λ r. xs ++ by_order r ((t, e.1 +ℤ v) ∷ e ∷ es) ((e.0, e.1 +ℤ v) ∷ es) (e ∷ put token_cmp t (e.1 +ℤ v) es)) h
    ∙ ap (λ u. xs ++ (u, e.1 +ℤ v) ∷ es) (sym (token_exact t e.0 h))
    )

nothing_more : (v : ℤ) → pos 0 +ℤ v ≡ v
nothing_more v = omega (arith, ints)

put_first : (t : Token) (v : ℤ) (es : List (Token × ℤ)) → StartsFrom t es → starts_with t es ≡ false → put token_cmp t v es ≡ (t, v) ∷ es
put_first t v [] f h = refl
put_first t v (e ∷ es) f h = ap (λ r. by_order r ((t, v) ∷ e ∷ es) ((e.0, v) ∷ es) (e ∷ put token_cmp t v es)) (less _ h f)

-- the token has no entry
pub put_new : (t : Token) (xs es : List (Token × ℤ)) (v : ℤ) → AllBefore t xs → T (is_sorted token_cmp (xs ++ es)) → StartsFrom t es → starts_with t es ≡ false →
    xs ++ (t, v) ∷ es ≡ put token_cmp t (amount_in (xs ++ es) t +ℤ v) (xs ++ es)
put_new t xs es v b s f h =
    let n = amount-before t xs es b ∙ found_none t es (sorted-right xs es s) f h in
    sym (
    ap (λ m. put token_cmp t m (xs ++ es)) (ap (λ m. m +ℤ v) n ∙ nothing_more v)
    ∙ put-before t v xs es b
    ∙ ap (λ ys. xs ++ ys) (put_first t v es f h)
    )

-- after the token's own entry no entry of a token after it was put
pub none_after_put : (t : Token) (xs : List (Token × ℤ)) (v : ℤ) → AllBefore t xs → NoneAfter t (xs ++ (t, v) ∷ [])
none_after_put t xs v b u p = before-append u xs ((t, v) ∷ []) (before_greater t u xs p b) (token_total.antisymm u t ∙ ap ordering_reverse p, tt)

pub none_after_more : (t : Token) (es : List (Token × ℤ)) (i : ℕ) (e : Token × ℤ) → i < length es → e ≡ get_or es i e → token_cmp t e.0 ≡ Equal → AllBefore t (take i es) → NoneAfter t (take (i + 1) es)
none_after_more t es i e l is h b u p =
    subst (AllBefore u) (sym (take_more es i e l)) (before-append u (take i es) (get_or es i e ∷ []) (before_greater t u (take i es) p b)
    (subst (λ (x : Token × ℤ). token_cmp u x.0 ≡ Greater) is (subst (λ k. token_cmp u k ≡ Greater) (token_exact t e.0 h) (token_total.antisymm u t ∙ ap ordering_reverse p)), tt))

above_zero : (m n : ℤ) → pos 0 ≤ℤ m → pos 0 <ℤ n → pos 0 <ℤ (m +ℤ n)
above_zero m n g h = omega (arith, ints, g, h)

-- the sum so far is put together from these entries
pub record IsMerging (held : Amounts) (all es left : List (Token × ℤ)) : Type 0 where
  pub adding : IsAdding held all (from_sorted es) left
  pub sorted : T (is_sorted token_cmp es)
  pub positive : AllPositive es

pub merged : (held : Amounts) (all es : List (Token × ℤ)) (e : Token × ℤ) (left : List (Token × ℤ)) → IsMerging held all es (e ∷ left) → IsMerging held all (put token_cmp e.0 (amount_in es e.0 +ℤ e.1) es) left
merged held all es e left h =
    let positive = above_zero _ _ (amount_in-natural es e.0 h.positive) h.adding.positive.0 in
    record {
      adding = subst (λ m. IsAdding held all m left)
          (ap (λ n. with_amount (from_sorted es) e.0 (n +ℤ e.1)) (amount_of-from_sorted es e.0 h.sorted) ∙ sym (put_is_change es e.0 (amount_in es e.0 +ℤ e.1) h.sorted positive))
          (added held all (from_sorted es) e left h.adding);
      sorted = is_sorted-put token_cmp token_total e.0 (amount_in es e.0 +ℤ e.1) es h.sorted;
      positive = AllPositive-put e.0 (amount_in es e.0 +ℤ e.1) es positive h.positive;
    }

-- the next of the entries that are left
pub merging_next : (held : Amounts) (more es : List (Token × ℤ)) (i : ℕ) (e : Token × ℤ) → i < length more → e ≡ get_or more i e → IsMerging held more es (drop i more) → IsMerging held more es (e ∷ drop (i + 1) more)
merging_next held more es i e l is h = subst (IsMerging held more es) (here more i e l is) h

pub merging_fits : (held : Amounts) (more es : List (Token × ℤ)) (e : Token × ℤ) (left : List (Token × ℤ)) → IsMerging held more es (e ∷ left) → is_large (amount_in es e.0) e.1 ≡ false
merging_fits held more es e left h = subst (λ n. is_large n e.1 ≡ false) (amount_of-from_sorted es e.0 h.sorted) (now_fits held more (from_sorted es) e left h.adding)

pub merging_more : (held : Amounts) (more es new : List (Token × ℤ)) (e : Token × ℤ) (left : List (Token × ℤ)) → new ≡ put token_cmp e.0 (amount_in es e.0 +ℤ e.1) es → IsMerging held more es (e ∷ left) → IsMerging held more new left
merging_more held more es new e left is h = subst (λ xs. IsMerging held more xs left) (sym is) (merged held more es e left h)

-- nothing is left
pub record IsMerged (held : Amounts) (more es : List (Token × ℤ)) : Type 0 where
  pub sorted : T (is_sorted token_cmp es)
  pub positive : AllPositive es
  pub whole : from_sorted es ≡ each (λ m n. m +ℤ n) held more

none_left : (held : Amounts) (more es : List (Token × ℤ)) → IsMerging held more es [] → IsMerged held more es
none_left held more es h = record { sorted = h.sorted; positive = h.positive; whole = h.adding.whole }

pub merging_done : {E : Type 0} (r : Result Unit E) (held : Amounts) (more sum rest new : List (Token × ℤ)) (at i : ℕ) → length more ≤ i → IsMerging held more (sum ++ drop at rest) (drop i more) → OnOk r (new ≡ sum ++ take (length rest - at) (drop at rest)) → OnOk r (IsMerged held more new)
merging_done (Ok x) held more sum rest new at i l h is = subst (IsMerged held more) (sym (is ∙ ap (λ xs. sum ++ xs) (take_rest rest at))) (none_left held more _ (subst (IsMerging held more (sum ++ drop at rest)) (drop_all i more l) h))
merging_done (Err e) held more sum rest new at i l h is = tt

-- what was put and what is left of what is held are the sum so far
module _ (t : Token) (part held : List (Token × ℤ)) (at : ℕ) (sum : List (Token × ℤ)) (whole : part ++ drop at held ≡ sum) (before : AllBefore t part) where
  pub held_there : (e : Token × ℤ) → e ≡ get_or held at e → starts_with t (drop at held) ≡ true → amount_in sum t ≡ e.1
  held_there e is s =
      let left = here held at e (starts_within t held at s) is in
      ap (λ xs. amount_in xs t) (sym whole)
      ∙ amount-before t part (drop at held) before
      ∙ ap (λ xs. amount_in xs t) left
      ∙ found_here t e (drop (at + 1) held) (subst (λ xs. starts_with t xs ≡ true) left s)

  pub passed_there : (e : Token × ℤ) (v : ℤ) → e ≡ get_or held at e → starts_with t (drop at held) ≡ true →
      (part ++ (t, e.1 +ℤ v) ∷ []) ++ drop (at + 1) held ≡ put token_cmp t (amount_in sum t +ℤ v) sum
  passed_there e v is s =
      let left = here held at e (starts_within t held at s) is in
      let all : part ++ e ∷ drop (at + 1) held ≡ sum = ap (λ xs. part ++ xs) (sym left) ∙ whole in
      append_assoc part ((t, e.1 +ℤ v) ∷ []) (drop (at + 1) held)
      ∙ put_there t part e (drop (at + 1) held) v before (subst (λ (x : Token × ℤ). token_cmp t x.0 ≡ Equal) (sym is) (starts_at t held at e s))
      ∙ ap (λ xs. put token_cmp t (amount_in xs t +ℤ v) xs) all

  pub passed_new : (v : ℤ) → T (is_sorted token_cmp sum) → StartsFrom t (drop at held) → starts_with t (drop at held) ≡ false →
      (part ++ (t, v) ∷ []) ++ drop at held ≡ put token_cmp t (amount_in sum t +ℤ v) sum
  passed_new v sorted next s =
      append_assoc part ((t, v) ∷ []) (drop at held)
      ∙ put_new t part (drop at held) v before (subst (λ xs. T (is_sorted token_cmp xs)) (sym whole) sorted) next s
      ∙ ap (λ xs. put token_cmp t (amount_in xs t +ℤ v) xs) whole
