-- What a map of needs has of a token, before and after a change of one.
use Rattle.std.proofs.Common.{◌≡◌, ◌↔◌, ℕ, zero, suc, ◌<◌, ℤ, pos, ◌+ℤ◌, ◌-ℤ◌, neg_ℤ, ◌<ℤ◌, ◌≤ℤ◌, ◌^◌, int_le, int_lt, Bool, true, false, cond, if◌then◌else◌, List, [], ◌∷◌, length, Option, Some, None, refl, sym, ◌∙◌, ap, subst, Result, Ok, Err, OnOk, OnErr, arith}
use Rattle.std.proofs.lemmas.Int.{ints}
use Rattle.std.specs.Prelude.{is_some, option_map}
use Rattle.std.specs.BTreeMap.{is_at}
use Rattle.std.specs.Cmp.{Equal-is, tied_itself}
use Rattle.std.specs.FinMap.{get, from_entries, get-from_entries}
use Rattle.std.specs.FinMap.Entries.{find}
use Rattle.std.specs.Map.{lookup}
use Rattle.std.specs.Option.{unwrap_or, IfSome, IsSome}
use Rattle.std.specs.Ordering.{eq_by_cmp, is_eq, is_lt, is_gt, ordering_reverse}
use Rattle.std.specs.declared.cmp.Ordering.{Ordering}
use Rattle.std.specs.declared.cmp.Ordering.TheVariants.{Less, Equal, Greater}
use Rattle.contract.specs.Names.declared.token.Token.{Token}
use Rattle.contract.specs.Names.Orders.{token_cmp}
use Rattle.contract.specs.Names.Totals.{token_total}
use Rattle.contract.proofs.FromNames.Exact.{token_exact}
use Rattle.builder_spec.specs.Bundle.Bundles.{Amounts, amount_of}
use Rattle.coin_selection.specs.MissingSupport.{left, InRange, IsLeast}

-- what a tree has of a token
abbrev pub at : List (Token × ℤ) → Token → Option ℤ
at es t = lookup (is_at (token_cmp t)) es

found : (es : List (Token × ℤ)) (t : Token) → find token_cmp t es ≡ at es t
found [] t = refl
found (e ∷ es) t = ap (cond (is_at (token_cmp t) e.0) (Some e.1)) (found es t)

pub seen : (es : List (Token × ℤ)) (t : Token) → get (from_entries {R = token_cmp} es) t ≡ at es t
seen es t = get-from_entries token_total es t ∙ found es t

-- the same of needs that the entries make
pub known : (es : List (Token × ℤ)) (v : Amounts) → from_entries {R = token_cmp} es ≡ v → (t : Token) → get v t ≡ at es t
known es v e t = ap (λ (u : Amounts). get u t) (sym e) ∙ seen es t

pub on_ok : {A E P Q : Type 0} (r : Result A E) → (P → Q) → OnOk r P → OnOk r Q
on_ok (Ok a) f h = f h
on_ok (Err e) f h = h

pub on_err : {A E P : Type 0} (r : Result A E) → P → OnErr r P
on_err (Ok a) h = tt
on_err (Err e) h = h

-- ---- one token's need changes

-- a token that is the same is the token
same : (k t : Token) → eq_by_cmp token_cmp k t ≡ true → k ≡ t
same k t e = token_exact k t ((Equal-is _).0 e)

pub viewed : (m n : List (Token × ℤ)) (v : Amounts) (k : Token) (w : Option ℤ) → from_entries {R = token_cmp} m ≡ v → ((t : Token) → at n t ≡ (if eq_by_cmp token_cmp k t then w else at m t)) →
    (t : Token) → get (from_entries {R = token_cmp} n) t ≡ (if eq_by_cmp token_cmp k t then w else get v t)
viewed m n v k w e h t = seen n t ∙ h t ∙ ap (λ o. if eq_by_cmp token_cmp k t then w else o) (sym (known m v e t))

gained : (o : Option ℤ) (a : ℤ) → is_some o ≡ true → option_map (λ n. n +ℤ a) o ≡ Some (unwrap_or o (pos 0) +ℤ a)
gained None a h = absurd (cc)
gained (Some n) a h = refl

-- how one token's need changes by an amount, where there is one
abbrev pub Changed : List (Token × ℤ) → List (Token × ℤ) → Token → ℤ → Type 0
Changed m n k a = (t : Token) → at n t ≡ (if eq_by_cmp token_cmp k t then option_map (λ z. z +ℤ a) (at m t) else at m t)

pub more : (m n : List (Token × ℤ)) (v : Amounts) (k : Token) (a : ℤ) → from_entries {R = token_cmp} m ≡ v → is_some (at m k) ≡ true → Changed m n k a →
    (t : Token) → get (from_entries {R = token_cmp} n) t ≡ (if eq_by_cmp token_cmp k t then Some (amount_of v k +ℤ a) else get v t)
more m n v k a e s h t = seen n t ∙ h t ∙ by (eq_by_cmp token_cmp k t) refl
  where
    by : (b : Bool) → eq_by_cmp token_cmp k t ≡ b → (if b then option_map (λ z. z +ℤ a) (at m t) else at m t) ≡ (if b then Some (amount_of v k +ℤ a) else get v t)
    by true q = ap (λ u. option_map (λ z. z +ℤ a) (at m u)) (sym (same k t q)) ∙ gained (at m k) a s ∙ ap (λ o. Some (unwrap_or o (pos 0) +ℤ a)) (sym (known m v e k))
    by false q = sym (known m v e t)

none : (o : Option ℤ) → is_some o ≡ false → o ≡ None
none None h = refl
none (Some n) h = absurd (cc)

pub unchanged : (m n : List (Token × ℤ)) (v : Amounts) (k : Token) (a : ℤ) → from_entries {R = token_cmp} m ≡ v → is_some (at m k) ≡ false → Changed m n k a → (t : Token) → get (from_entries {R = token_cmp} n) t ≡ get v t
unchanged m n v k a e s h t = seen n t ∙ h t ∙ by (eq_by_cmp token_cmp k t) refl ∙ sym (known m v e t)
  where
    by : (b : Bool) → eq_by_cmp token_cmp k t ≡ b → (if b then option_map (λ z. z +ℤ a) (at m t) else at m t) ≡ at m t
    by true q = let w : at m t ≡ None = ap (at m) (sym (same k t q)) ∙ none (at m k) s in ap (option_map (λ z. z +ℤ a)) w ∙ sym w
    by false q = refl

no_need : (v : Amounts) (k : Token) (a : ℤ) → get v k ≡ None → a ≡ amount_of v k +ℤ a
no_need v k a h = let z : amount_of v k ≡ pos 0 = ap (λ o. unwrap_or o (pos 0)) h in omega (arith, ints, z)

-- a need that is put where there was none
pub first : (m n : List (Token × ℤ)) (v w : Amounts) (k l : Token) (a b : ℤ) → from_entries {R = token_cmp} m ≡ v → is_some (at m k) ≡ false → Changed m n k a → l ≡ k → b ≡ a →
    ((t : Token) → get w t ≡ (if eq_by_cmp token_cmp l t then Some b else get (from_entries {R = token_cmp} n) t)) →
    (t : Token) → get w t ≡ (if eq_by_cmp token_cmp k t then Some (amount_of v k +ℤ a) else get v t)
first m n v w k l a b e s h is q g t =
    g t ∙ ap (λ u. if eq_by_cmp token_cmp u t then Some b else get (from_entries {R = token_cmp} n) t) is
    ∙ ap (λ z. if eq_by_cmp token_cmp k t then Some z else get (from_entries {R = token_cmp} n) t) q
    ∙ ap (λ o. if eq_by_cmp token_cmp k t then Some a else o) (unchanged m n v k a e s h t)
    ∙ ap (λ z. if eq_by_cmp token_cmp k t then Some z else get v t) (no_need v k a (known m v e k ∙ none (at m k) s))

-- where one is needed already
pub kept : (v : Amounts) (k t : Token) → is_some (get v k) ≡ true → get v t ≡ (if eq_by_cmp token_cmp k t then (if is_some (get v k) then get v k else Some (pos 1)) else get v t)
kept v k t s = by (eq_by_cmp token_cmp k t) refl
  where
    by : (b : Bool) → eq_by_cmp token_cmp k t ≡ b → get v t ≡ (if b then (if is_some (get v k) then get v k else Some (pos 1)) else get v t)
    by true q = ap (get v) (sym (same k t q)) ∙ sym (ap (λ c. if c then get v k else Some (pos 1)) s)
    by false q = refl

-- the same change, by an amount that is written otherwise
pub by_amount : (m n : List (Token × ℤ)) (k : Token) (a b : ℤ) → Changed m n k a → a ≡ b → Changed m n k b
by_amount m n k a b h e = subst (Changed m n k) e h

-- ---- within the limits

abbrev pub AllInRange : Amounts → Type 0
AllInRange v = (t : Token) → IfSome (get v t) InRange

pub in_range : (es : List (Token × ℤ)) → AllInRange (from_entries {R = token_cmp} es) → (k : Token) → IfSome (at es k) InRange
in_range es h k = subst (λ o. IfSome o InRange) (seen es k) (h k)

either : (b : Bool) (w o : Option ℤ) → IfSome w InRange → IfSome o InRange → IfSome (if b then w else o) InRange
either true w o h k = h
either false w o h k = k

-- needs of which one was set stay within them
pub set_in_range : (v u : Amounts) (k : Token) (w : Option ℤ) → AllInRange v → IfSome w InRange → ((t : Token) → get u t ≡ (if eq_by_cmp token_cmp k t then w else get v t)) → AllInRange u
set_in_range v u k w h l g t = subst (λ o. IfSome o InRange) (sym (g t)) (either (eq_by_cmp token_cmp k t) w (get v t) l (h t))

less_than : (m n : ℤ) → InRange m → pos 0 <ℤ n → int_lt n m ≡ true → InRange (m -ℤ n)
less_than m n h k p = (grind (arith, ints, k, p), grind (arith, ints, h, k, p))

left_in_range : (o : Option ℤ) (n : ℤ) → pos 0 <ℤ n → IfSome o InRange → IfSome (left o n) InRange
left_in_range None n k h = h
left_in_range (Some m) n k h = by (int_lt n m) refl
  where
    by : (l : Bool) → int_lt n m ≡ l → IfSome (if l then Some (m -ℤ n) else None) InRange
    by true q = less_than m n h k q
    by false q = tt

-- and so do those of which one is less
pub less_in_range : (v u : Amounts) (k : Token) (a : ℤ) → pos 0 <ℤ a → AllInRange v → ((t : Token) → get u t ≡ (if eq_by_cmp token_cmp k t then left (get v t) a else get v t)) → AllInRange u
less_in_range v u k a p h g t = subst (λ o. IfSome o InRange) (sym (g t)) (either (eq_by_cmp token_cmp k t) (left (get v t) a) (get v t) (left_in_range (get v t) a p (h t)) (h t))

more_than : (o : Option ℤ) (a : ℤ) → pos 0 <ℤ a → (unwrap_or o (pos 0) +ℤ a) ≤ℤ pos (2 ^ 200) → IfSome o InRange → InRange (unwrap_or o (pos 0) +ℤ a)
more_than None a p l h = (omega (arith, ints, p), l)
more_than (Some n) a p l h = (omega (arith, ints, p, h), l)

pub more_in_range : (v w : Amounts) (k : Token) (a : ℤ) → w ≡ v → pos 0 <ℤ a → (amount_of v k +ℤ a) ≤ℤ pos (2 ^ 200) → AllInRange w → InRange (amount_of w k +ℤ a)
more_in_range v w k a e p l h = more_than (get w k) a p (subst (λ (u : Amounts). (amount_of u k +ℤ a) ≤ℤ pos (2 ^ 200)) (sym e) l) (h k)

-- ---- nothing

some_none : (o : Option ℤ) (v : ℤ) → o ≡ None → o ≡ Some v → ⊥
some_none o v p q = cc

empty_if : (es : List (Token × ℤ)) → ((t : Token) → at es t ≡ None) → length es ≡ 0
empty_if [] h = refl
empty_if (e ∷ es) h = absurd (some_none (at (e ∷ es) e.0) e.1 (h e.0) (ap (λ r. cond (is_eq r) (Some e.1) (at es e.0)) (tied_itself token_total e.0)))

none_if : (es : List (Token × ℤ)) (t : Token) → length es ≡ 0 → at es t ≡ None
none_if [] t h = refl
none_if (e ∷ es) t h = absurd (omega (arith, h))

pub nothing : (es : List (Token × ℤ)) (v : Amounts) → from_entries {R = token_cmp} es ≡ v → (length es ≡ 0) ↔ ((t : Token) → get v t ≡ None)
nothing es v e = (
  λ l t. known es v e t ∙ none_if es t l,
  λ h. empty_if es (λ t. sym (known es v e t) ∙ h t),
)

-- ---- what is left

not_le : (m n : ℤ) → int_lt n m ≡ true → int_le (m +ℤ neg_ℤ n) (pos 0) ≡ false
not_le m n p = grind (arith, ints, p)

is_le : (m n : ℤ) → int_lt n m ≡ false → int_le (m +ℤ neg_ℤ n) (pos 0) ≡ true
is_le m n p = grind (arith, ints, p)

not_both : (b : Bool) → b ≡ true → b ≡ false → ⊥
not_both b h k = cc

rest : (m n : ℤ) → m +ℤ neg_ℤ n ≡ m -ℤ n
rest m n = omega (arith, ints)

over : (m n : ℤ) → int_le (m +ℤ neg_ℤ n) (pos 0) ≡ true → left (Some m) n ≡ None
over m n h = by (int_lt n m) refl
  where
    by : (l : Bool) → int_lt n m ≡ l → (if l then Some (m -ℤ n) else None) ≡ None
    by true q = absurd (not_both _ h (not_le m n q))
    by false q = refl

not_over : (m n : ℤ) → int_le (m +ℤ neg_ℤ n) (pos 0) ≡ false → left (Some m) n ≡ Some (m +ℤ neg_ℤ n)
not_over m n h = by (int_lt n m) refl
  where
    by : (l : Bool) → int_lt n m ≡ l → (if l then Some (m -ℤ n) else None) ≡ Some (m +ℤ neg_ℤ n)
    by true q = ap Some (sym (rest m n))
    by false q = absurd (not_both _ (is_le m n q) h)

-- whether nothing of a need is left
abbrev pub is_over : Option ℤ → Bool
is_over o = unwrap_or (option_map (λ n. int_le n (pos 0)) o) false

left_over : (o : Option ℤ) (a : ℤ) → is_some o ≡ true → is_over (option_map (λ z. z +ℤ neg_ℤ a) o) ≡ true → left o a ≡ None
left_over None a s h = refl
left_over (Some m) a s h = over m a h

left_rest : (o : Option ℤ) (a : ℤ) → is_over (option_map (λ z. z +ℤ neg_ℤ a) o) ≡ false → left o a ≡ option_map (λ z. z +ℤ neg_ℤ a) o
left_rest None a h = refl
left_rest (Some m) a h = not_over m a h

itself : (k : Token) → eq_by_cmp token_cmp k k ≡ true
itself k = ap is_eq (tied_itself token_total k)

-- what a changed need has become
at_changed : (m n : List (Token × ℤ)) (k : Token) (a : ℤ) → Changed m n k a → at n k ≡ option_map (λ z. z +ℤ a) (at m k)
at_changed m n k a h = h k ∙ ap (λ b. if b then option_map (λ z. z +ℤ a) (at m k) else at m k) (itself k)

-- a need of which nothing is left goes
pub taken_whole : (m n r : List (Token × ℤ)) (v : Amounts) (k : Token) (a : ℤ) → from_entries {R = token_cmp} m ≡ v → is_some (at m k) ≡ true → Changed m n k (neg_ℤ a) → is_over (at n k) ≡ true →
    ((t : Token) → at r t ≡ (if eq_by_cmp token_cmp k t then None else at n t)) →
    (t : Token) → get (from_entries {R = token_cmp} r) t ≡ (if eq_by_cmp token_cmp k t then left (get v t) a else get v t)
taken_whole m n r v k a e s h o g t = seen r t ∙ g t ∙ by (eq_by_cmp token_cmp k t) refl
  where
    by : (b : Bool) → eq_by_cmp token_cmp k t ≡ b → (if b then None else at n t) ≡ (if b then left (get v t) a else get v t)
    by true q = sym (ap (λ p. left p a) (ap (get v) (sym (same k t q)) ∙ known m v e k) ∙ left_over (at m k) a s (ap is_over (sym (at_changed m n k (neg_ℤ a) h)) ∙ o))
    by false q = h t ∙ ap (λ b. if b then option_map (λ z. z +ℤ neg_ℤ a) (at m t) else at m t) q ∙ sym (known m v e t)

-- and of one that there is none of, or of which something is left, that is left
pub taken_part : (m n : List (Token × ℤ)) (v : Amounts) (k : Token) (a : ℤ) → from_entries {R = token_cmp} m ≡ v → Changed m n k (neg_ℤ a) → is_over (at n k) ≡ false →
    (t : Token) → get (from_entries {R = token_cmp} n) t ≡ (if eq_by_cmp token_cmp k t then left (get v t) a else get v t)
taken_part m n v k a e h o t = seen n t ∙ h t ∙ by (eq_by_cmp token_cmp k t) refl
  where
    by : (b : Bool) → eq_by_cmp token_cmp k t ≡ b → (if b then option_map (λ z. z +ℤ neg_ℤ a) (at m t) else at m t) ≡ (if b then left (get v t) a else get v t)
    by true q =
        ap (λ u. option_map (λ z. z +ℤ neg_ℤ a) (at m u)) (sym (same k t q))
        ∙ sym (left_rest (at m k) a (ap is_over (sym (at_changed m n k (neg_ℤ a) h)) ∙ o))
        ∙ ap (λ p. left p a) (sym (known m v e k) ∙ ap (get v) (same k t q))
    by false q = sym (known m v e t)

pub none_over : (m n : List (Token × ℤ)) (k : Token) (a : ℤ) → is_some (at m k) ≡ false → Changed m n k a → is_over (at n k) ≡ false
none_over m n k a s h = ap is_over (at_changed m n k a h ∙ ap (option_map (λ z. z +ℤ a)) (none (at m k) s))

-- ---- the first

pub no_first : {A : Type 0} (o : Option A) (n : ℕ) → o ≡ None → IsSome o ↔ (0 < n) → n ≡ 0
no_first o n e h = by n refl
  where
    by : (k : ℕ) → n ≡ k → n ≡ 0
    by zero q = q
    by (suc k) q = absurd (not_both (is_some o) (h.1 (omega (arith, q))) (ap is_some e))

pub first_is_least : (es : List (Token × ℤ)) (v : Amounts) (k : Token) (n : ℤ) → from_entries {R = token_cmp} es ≡ v → at es k ≡ Some n → ((q : Token) → IsSome (at es q) → is_gt (token_cmp k q) ≡ false) → IsLeast v k
first_is_least es v k n e f l = (ap is_some (known es v e k ∙ f), λ u h. known es v e u ∙ by u h (at es u) refl)
  where
    by : (u : Token) → is_lt (token_cmp u k) ≡ true → (o : Option ℤ) → at es u ≡ o → at es u ≡ None
    by u h None q = q
    by u h (Some m) q = absurd (not_both _ (turned (token_cmp u k) (token_cmp k u) h (token_total.antisymm k u)) (l u (ap is_some q)))
      where
        turned : (a b : Ordering) → is_lt a ≡ true → b ≡ ordering_reverse a → is_gt b ≡ true
        turned Less b p r = ap is_gt r
        turned Equal b p r = absurd (cc)
        turned Greater b p r = absurd (cc)

-- ---- a change in its place

pub plus_there : (k : Token) (x : ℤ) (w a : ℤ) (m n : Token → Option ℤ) → m k ≡ Some x → w ≡ x +ℤ a → ((t : Token) → n t ≡ (if eq_by_cmp token_cmp k t then Some w else m t)) →
    (t : Token) → n t ≡ (if eq_by_cmp token_cmp k t then option_map (λ z. z +ℤ a) (m t) else m t)
plus_there k x w a m n f s h t = h t ∙ by (eq_by_cmp token_cmp k t) refl
  where
    by : (b : Bool) → eq_by_cmp token_cmp k t ≡ b → (if b then Some w else m t) ≡ (if b then option_map (λ z. z +ℤ a) (m t) else m t)
    by true q = ap Some s ∙ sym (ap (option_map (λ z. z +ℤ a)) (ap m (sym (same k t q)) ∙ f))
    by false q = refl

pub plus_none : (k : Token) (a : ℤ) (m n : Token → Option ℤ) → m k ≡ None → ((t : Token) → n t ≡ m t) →
    (t : Token) → n t ≡ (if eq_by_cmp token_cmp k t then option_map (λ z. z +ℤ a) (m t) else m t)
plus_none k a m n f h t = h t ∙ by (eq_by_cmp token_cmp k t) refl
  where
    by : (b : Bool) → eq_by_cmp token_cmp k t ≡ b → m t ≡ (if b then option_map (λ z. z +ℤ a) (m t) else m t)
    by true q = let w : m t ≡ None = ap m (sym (same k t q)) ∙ f in w ∙ sym (ap (option_map (λ z. z +ℤ a)) w)
    by false q = refl
