-- What a walk along entries in order knows of those that it has passed.
use Rattle.std.proofs.Common.{◌≡◌, ◌≢◌, ℕ, suc, zero, ◌+◌, ◌-◌, ◌<◌, ◌≤◌, ℤ, pos, ◌<ℤ◌, ◌≤ℤ◌, Bool, true, false, cond, List, [], ◌∷◌, ◌++◌, length, take, drop, get_or, Some, refl, sym, ◌∙◌, ap, subst, arith}
use Rattle.std.proofs.Math.Dec.{T}
use Rattle.std.proofs.lemmas.Int.{ints}
use Rattle.std.proofs.Math.Seq.{take-add}
use Rattle.std.proofs.lemmas.List.Folds.{drop_split}
use Rattle.std.specs.Option.{unwrap_or}
use Rattle.std.specs.Ordering.{is_eq, is_gt, ordering_reverse}
use Rattle.std.specs.declared.cmp.Ordering.{Ordering}
use Rattle.std.specs.declared.cmp.Ordering.TheVariants.{Less, Equal, Greater}
use Rattle.std.specs.FinMap.Entries.{by_order, find, put, is_sorted}
use Rattle.std.proofs.lemmas.List.{drop_more, take_more, take-append-drop}
use Rattle.names.proofs.FromCollections.Places.{second, third, below_head, below_less, find_below, IsAt, find_at}
use Rattle.names.specs.declared.token.Token.{Token}
use Rattle.names.specs.Orders.{token_cmp}
use Rattle.names.specs.Totals.{token_total}
use Rattle.bundle.specs.WalksSupport.{amount_in, AllBefore, NoneAfter, StartsFrom, starts_with}
use Rattle.bundle.specs.Bundles.{AllPositive}
use Rattle.bundle.proofs.PositiveLaws.{AllPositive-find, natural}

-- an answer that passes `is_gt`
pub greater : (r : Ordering) → is_gt r ≡ true → r ≡ Greater
greater Less h = cc
greater Equal h = cc
greater Greater h = refl

-- an answer that fails it
pub not_greater : (r : Ordering) → is_gt r ≡ false → r ≢ Greater
not_greater Less h = λ e. cc
not_greater Equal h = λ e. cc
not_greater Greater h = cc

pub tied : (r : Ordering) → is_eq r ≡ true → r ≡ Equal
tied Less h = cc
tied Equal h = refl
tied Greater h = cc

pub less : (r : Ordering) → is_eq r ≡ false → r ≢ Greater → r ≡ Less
less Less h n = refl
less Equal h n = cc
less Greater h n = absurd (n refl)

-- what stands before a token stands before each greater one
pub before_greater : (t u : Token) (es : List (Token × ℤ)) → token_cmp t u ≡ Less → AllBefore t es → AllBefore u es
before_greater t u [] p h = tt
before_greater t u (e ∷ es) p h = (
  token_total.antisymm u e.0 ∙ ap ordering_reverse (token_total.trans e.0 t u (token_total.antisymm e.0 t ∙ ap ordering_reverse h.0) p),
  before_greater t u es p h.1,
)

pub before-append : (t : Token) (xs ys : List (Token × ℤ)) → AllBefore t xs → AllBefore t ys → AllBefore t (xs ++ ys)
before-append t [] ys g h = h
before-append t (x ∷ xs) ys g h = (g.0, before-append t xs ys g.1 h)

pub before-right : (t : Token) (xs ys : List (Token × ℤ)) → AllBefore t (xs ++ ys) → AllBefore t ys
before-right t [] ys h = h
before-right t (x ∷ xs) ys h = before-right t xs ys h.1

-- a look-up passes what stands before the token
pub find-before : (t : Token) (xs ys : List (Token × ℤ)) → AllBefore t xs → find token_cmp t (xs ++ ys) ≡ find token_cmp t ys
find-before t [] ys h = refl
find-before t (x ∷ xs) ys h = ap (λ r. cond (is_eq r) (Some x.1) (find token_cmp t (xs ++ ys))) h.0 ∙ find-before t xs ys h.1

-- and so does a put
pub put-before : (t : Token) (v : ℤ) (xs ys : List (Token × ℤ)) → AllBefore t xs → put token_cmp t v (xs ++ ys) ≡ xs ++ put token_cmp t v ys
put-before t v [] ys h = refl
put-before t v (x ∷ xs) ys h =
    ap (λ r. by_order r ((t, v) ∷ x ∷ (xs ++ ys)) ((x.0, v) ∷ (xs ++ ys)) (x ∷ put token_cmp t v (xs ++ ys))) h.0
    ∙ ap (λ es. x ∷ es) (put-before t v xs ys h.1)

-- what is left of entries in order is in order
pub sorted-right : (xs ys : List (Token × ℤ)) → T (is_sorted token_cmp (xs ++ ys)) → T (is_sorted token_cmp ys)
sorted-right [] ys s = s
sorted-right (x ∷ xs) ys s = sorted-right xs ys (third _ _ s)

-- the amount is that of the first entry, if it is of the token
pub found_here : (t : Token) (e : Token × ℤ) (es : List (Token × ℤ)) → starts_with t (e ∷ es) ≡ true → amount_in (e ∷ es) t ≡ e.1
found_here t e es h = ap (λ b. unwrap_or (cond b (Some e.1) (find token_cmp t es)) (pos 0)) h

pub found_none : (t : Token) (es : List (Token × ℤ)) → T (is_sorted token_cmp es) → StartsFrom t es → starts_with t es ≡ false → amount_in es t ≡ pos 0
found_none t [] s f h = refl
found_none t (e ∷ es) s f h =
    ap (λ b. unwrap_or (cond b (Some e.1) (find token_cmp t es)) (pos 0)) h
    ∙ ap (λ o. unwrap_or o (pos 0)) (find_below token_cmp t es (below_less token_cmp t token_total e.0 es (less _ h f) (second _ _ s)))

pub amount-before : (t : Token) (xs ys : List (Token × ℤ)) → AllBefore t xs → amount_in (xs ++ ys) t ≡ amount_in ys t
amount-before t xs ys h = ap (λ o. unwrap_or o (pos 0)) (find-before t xs ys h)

-- the whole is what was passed and what is left
pub amount_left : (t : Token) (es : List (Token × ℤ)) (i : ℕ) → AllBefore t (take i es) → amount_in es t ≡ amount_in (drop i es) t
amount_left t es i h = ap (λ xs. amount_in xs t) (sym (take-append-drop i es)) ∙ amount-before t (take i es) (drop i es) h

pub sorted_left : (es : List (Token × ℤ)) (i : ℕ) → T (is_sorted token_cmp es) → T (is_sorted token_cmp (drop i es))
sorted_left es i s = sorted-right (take i es) (drop i es) (subst (λ xs. T (is_sorted token_cmp xs)) (sym (take-append-drop i es)) s)

-- one entry more is passed
pub before_more : (t : Token) (es : List (Token × ℤ)) (i : ℕ) (e : Token × ℤ) → i < length es → e ≡ get_or es i e → token_cmp t e.0 ≡ Greater → AllBefore t (take i es) → AllBefore t (take (i + 1) es)
before_more t es i e l is p h = subst (AllBefore t) (sym (take_more es i e l)) (before-append t (take i es) (get_or es i e ∷ []) h (subst (λ (x : Token × ℤ). token_cmp t x.0 ≡ Greater) is p, tt))

-- the entry at a place is the first of those that are left
pub here : (es : List (Token × ℤ)) (i : ℕ) (e : Token × ℤ) → i < length es → e ≡ get_or es i e → drop i es ≡ e ∷ drop (i + 1) es
here es i e l is = drop_more es i e l ∙ ap (λ x. x ∷ drop (i + 1) es) (sym is)

-- what was passed stands before the first entry of another list
abbrev pub BeforeFirst : List (Token × ℤ) → List (Token × ℤ) → Type 0
BeforeFirst [] es = Unit {0}
BeforeFirst (f ∷ fs) es = AllBefore f.0 es

pub none_after-first : (f : Token × ℤ) (fs es : List (Token × ℤ)) → T (is_sorted token_cmp (f ∷ fs)) → NoneAfter f.0 es → BeforeFirst fs es
none_after-first f [] es s h = tt
none_after-first f (g ∷ fs) es s h = h g.0 (below_head token_cmp f.0 g fs (second _ _ s))

pub none_after : (t : Token) (es : List (Token × ℤ)) → AllBefore t es → NoneAfter t es
none_after t es h u p = before_greater t u es p h

-- a walk that has come to a token stands within the entries
pub starts_within : (t : Token) (es : List (Token × ℤ)) (i : ℕ) → starts_with t (drop i es) ≡ true → i < length es
starts_within t [] zero h = cc
starts_within t [] (suc i) h = cc
starts_within t (e ∷ es) zero h = omega arith
starts_within t (e ∷ es) (suc i) h = omega (arith, starts_within t es i h)

-- the entry there is the token's
pub starts_at : (t : Token) (es : List (Token × ℤ)) (i : ℕ) (d : Token × ℤ) → starts_with t (drop i es) ≡ true → token_cmp t (get_or es i d).0 ≡ Equal
starts_at t [] zero d h = cc
starts_at t [] (suc i) d h = cc
starts_at t (e ∷ es) zero d h = tied _ h
starts_at t (e ∷ es) (suc i) d h = starts_at t es i d h

pub is_at : (t : Token) (es : List (Token × ℤ)) (i : ℕ) → AllBefore t (take i es) → starts_with t (drop i es) ≡ true → IsAt token_cmp t es i
is_at t [] zero b h = cc
is_at t [] (suc i) b h = cc
is_at t (e ∷ es) zero b h = tied _ h
is_at t (e ∷ es) (suc i) b h = (b.0, is_at t es i b.1 h)

-- what there is of a token is its entry's
pub amount_there : (t : Token) (es : List (Token × ℤ)) (i : ℕ) (d : Token × ℤ) → IsAt token_cmp t es i → amount_in es t ≡ (get_or es i d).1
amount_there t es i d h = ap (λ o. unwrap_or o (pos 0)) (find_at token_cmp t es i d h)

-- there is nothing of a token that the walk has passed
pub amount_nowhere : (t : Token) (es : List (Token × ℤ)) (i : ℕ) → T (is_sorted token_cmp es) → AllBefore t (take i es) → StartsFrom t (drop i es) → starts_with t (drop i es) ≡ false → amount_in es t ≡ pos 0
amount_nowhere t es i s b f h = amount_left t es i b ∙ found_none t (drop i es) (sorted_left es i s) f h

true_not_false : (b : Bool) → (b ≡ false → ⊥) → b ≡ true
true_not_false true h = refl
true_not_false false h = absurd (h refl)

none_above : (n : ℤ) → pos 0 <ℤ n → n ≡ pos 0 → ⊥
none_above n h e = omega (arith, ints, h, e)

-- the walk has come to a token of which there is something
pub starts : (t : Token) (es : List (Token × ℤ)) (i : ℕ) → T (is_sorted token_cmp es) → AllBefore t (take i es) → StartsFrom t (drop i es) → pos 0 <ℤ amount_in es t → starts_with t (drop i es) ≡ true
starts t es i s b f h = true_not_false _ (λ n. none_above _ h (amount_nowhere t es i s b f n))

pub positive_at : (es : List (Token × ℤ)) (i : ℕ) (e : Token × ℤ) → AllPositive es → i < length es → e ≡ get_or es i e → pos 0 <ℤ e.1
positive_at [] i e h l is = absurd (omega arith)
positive_at (x ∷ es) zero e h l is = subst (λ (y : Token × ℤ). pos 0 <ℤ y.1) (sym is) h.0
positive_at (x ∷ es) (suc i) e h l is = positive_at es i e h.1 (omega arith) is

pub amount_in-natural : (es : List (Token × ℤ)) (t : Token) → AllPositive es → pos 0 ≤ℤ amount_in es t
amount_in-natural es t h = natural _ (AllPositive-find t es h)

-- a part of what stands before a token stands before it
pub before_part : (t : Token) (es : List (Token × ℤ)) (from at : ℕ) → from ≤ at → AllBefore t (take at es) → AllBefore t (take (at - from) (drop from es))
before_part t es from at l h =
    before-right t (take from es) (take (at - from) (drop from es))
    (subst (AllBefore t) (take-add from (at - from) es) (subst (λ n. AllBefore t (take n es)) {x = at} {y = from + (at - from)} (omega arith) h))

-- what was passed and what is left of a part
pub part_left : (es : List (Token × ℤ)) (from at : ℕ) → from ≤ at → take (at - from) (drop from es) ++ drop at es ≡ drop from es
part_left es from at l = sym (drop_split es from at l)
