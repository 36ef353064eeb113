-- Floors, row by row and close by close.
use Rattle.std.proofs.Common.{◌≡◌, ℕ, ◌<◌, ◌≤◌, ◌+◌, ℤ, pos, neg_ℤ, ◌≤ℤ◌, ◌<ℤ◌, Bool, true, false, cond, List, [], ◌∷◌, ◌++◌, take, length, refl, sym, ap, subst, ◌∙◌, Option, Some, None, IfSome, ◌⊎◌, inl, inr, arith}
use Rattle.std.proofs.lemmas.Int.{ints}
use Rattle.std.proofs.Math.ListN.{get_or}
use Rattle.std.proofs.lemmas.List.{take_more, take_all}
use Rattle.std.specs.List.{AllByRecursion}
use Rattle.std.specs.Option.{unwrap_or}
use Rattle.std.specs.Ordering.{eq_by_cmp}
use Rattle.std.specs.FinMap.Entries.{find, put, find-put}
use Rattle.contract.specs.Names.declared.account.Account.{Account}
use Rattle.contract.specs.Names.Orders.{account_cmp}
use Rattle.contract.specs.Names.Totals.{account_total}
use Rattle.semantics.specs.Reduction.{account_of}
use Rattle.linear.specs.Linear.{Linear, number}
use Rattle.losses.specs.declared.loss.Loss.{Loss}
use Rattle.losses.specs.Told.{IsUnnamed}
use Rattle.analysis_walk.specs.Limits.{any_runs}
use Rattle.analysis_walk.specs.Conclusions.{ClosesIn}
use Rattle.analysis_walk.specs.declared.span.Span.{Span}
use Rattle.analysis_walk.specs.Spans.{nothing}
use Rattle.analysis_walk.specs.Rows.{range_of}
use Rattle.analysis_walk.proofs.ListLaws.{all_append, all_left, all_right, all_weaker}
use Rattle.analysis_values.specs.Known.{Known, held, IsDescribed}
use Rattle.analysis_values.specs.Entries.{keys_of, other_keys}
use Rattle.analysis_values.proofs.AccountLaws.{account_decides}
use Rattle.analysis_values.proofs.NamedLaws.{named_or}
use Rattle.analysis_steps.proofs.CloseLaws.{closes_by}
use Rattle.loss_walk.specs.declared.floor.Floor.{Floor}
use Rattle.loss_walk.specs.Floors.{Rows, IsUnder, least_of, IsOneOf, IsFloor, Finds, FindsAll, Nothing, ClosesAbove, Lowers, LowersAll, IsTurned, AreFloors, Tells, NameAll}

le_itself : (a : ℤ) → a ≤ℤ a
le_itself a = omega (arith, ints)

reaches : (a b c : ℤ) → a ≤ℤ b → b ≤ℤ c → a ≤ℤ c
reaches a b c h k = omega (arith, ints)

-- ---- one row

pub lesser_own : (a b c : ℤ) → c ≤ℤ a → (n : ℤ) → n ≤ℤ c → n ≤ℤ a
lesser_own a b c h n k = reaches n c a k h

found : (x : Account) (f : Floor) (old new : Rows) → new ≡ put account_cmp x f old → (a : Account) → find account_cmp a new ≡ cond (eq_by_cmp account_cmp a x) (Some f) (find account_cmp a old)
found x f old new e a = ap (find account_cmp a) e ∙ find-put account_cmp account_total a x f old

under_least : (o : Option ℤ) (n y : ℤ) → IsUnder o n → IfSome o (λ m. m ≤ℤ y) → n ≤ℤ y
under_least None n y h k = absurd h
under_least (Some m) n y h k = reaches n m y h k

-- a floor of the new rows, by whether it is of this account
module _ (x : Account) (f : Floor) (old : Rows) (own : (n : ℤ) → IsUnder f.least n → IsUnder (least_of (find account_cmp x old)) n) where
  kept_at : (a : Account) (n : ℤ) (t : Bool) → eq_by_cmp account_cmp a x ≡ t → IsUnder (least_of (cond t (Some f) (find account_cmp a old))) n → IsUnder (least_of (find account_cmp a old)) n
  kept_at a n true e h = subst (λ (z : Account). IsUnder (least_of (find account_cmp z old)) n) (sym ((account_decides a x).0 e)) (own n h)
  kept_at a n false e h = h

  own_at : (a : Account) (n : ℤ) (t : Bool) → eq_by_cmp account_cmp a x ≡ t → a ≡ x → IsUnder (least_of (cond t (Some f) (find account_cmp a old))) n → IsUnder f.least n
  own_at a n true e q h = h
  own_at a n false e q h = absurd (let z : false ≡ true = sym e ∙ (account_decides a x).1 q in cc)

  pub noted_finds : (new : Rows) → new ≡ put account_cmp x f old → FindsAll Nothing old new
  noted_finds new e asked a n h = ((h.0, kept_at a n (eq_by_cmp account_cmp a x) refl (subst (λ (o : Option Floor). IsUnder (least_of o) n) (found x f old new e a) h.1)), tt)

  pub lowers_finds : (k : Known) (span : Span) (new : Rows) → ((n : ℤ) → IsUnder f.least n → IsUnder span.least n) → ClosesIn IsDescribed k (range_of x span ∷ []) → new ≡ put account_cmp x f old → FindsAll (Lowers k x) old new
  lowers_finds k span new other closes e asked a n h =
      let there = subst (λ (o : Option Floor). IsUnder (least_of o) n) (found x f old new e a) h.1 in (
        (h.0, kept_at a n (eq_by_cmp account_cmp a x) refl there),
        λ q. subst (λ (z : Account). ClosesAbove k z n) (sym q)
            (λ i s ps d. under_least span.least n _ (other n (own_at a n (eq_by_cmp account_cmp a x) refl q there)) (closes any_runs i s ps d).0.0),
      )

-- the row stays, where it is no higher than what was paid at least
pub kept_finds : (k : Known) (x : Account) (rows : Rows) (span : Span) → ((n : ℤ) → IsUnder (least_of (find account_cmp x rows)) n → IsUnder span.least n) → ClosesIn IsDescribed k (range_of x span ∷ []) → FindsAll (Lowers k x) rows rows
kept_finds k x rows span low closes asked a n h = (
  h,
  λ q. subst (λ (z : Account). ClosesAbove k z n) (sym q)
      (λ i s ps d. under_least span.least n _ (low n (subst (λ (z : Account). IsUnder (least_of (find account_cmp z rows)) n) q h.1)) (closes any_runs i s ps d).0.0),
)

pub nothing_noted : (rows : Rows) → FindsAll Nothing rows rows
nothing_noted rows asked a n h = (h, tt)

-- ---- row after row

pub lowers_none : (k : Known) (rows : Rows) → FindsAll (LowersAll k []) rows rows
lowers_none k rows asked a n h = (h, tt)

pub lowers_more : (k : Known) (xs : List Account) (i : ℕ) (x : Account) (old now next : Rows) → i < length xs → x ≡ get_or xs i x → FindsAll (LowersAll k (take i xs)) old now → FindsAll (Lowers k x) now next
    → FindsAll (LowersAll k (take (i + 1) xs)) old next
lowers_more k xs i x old now next l is before one asked a n h =
    let u = one asked a n h in
    let w = before asked a n u.0 in
    (w.0, subst (λ (ys : List Account). LowersAll k ys a n) (sym (take_more xs i x l ∙ ap (λ y. take i xs ++ y ∷ []) (sym is))) (all_append (λ y. Lowers k y a n) (take i xs) (x ∷ []) w.1 (u.1, tt)))

pub lowers_all : (k : Known) (xs : List Account) (i : ℕ) (old now : Rows) → length xs ≤ i → FindsAll (LowersAll k (take i xs)) old now → FindsAll (LowersAll k xs) old now
lowers_all k xs i old now l h = subst (λ (ys : List Account). FindsAll (LowersAll k ys) old now) (take_all i xs l) h

-- ---- who isn't named

holds_zero : (es : List (Account × Linear)) (a : Account) → find account_cmp a es ≡ None → number (pos 0) ≡ held es a
holds_zero es a e = ap (λ (o : Option Linear). unwrap_or o (number (pos 0))) (sym e)

module _ (k : Known) (a : Account) (n : ℤ) (low : n ≤ℤ pos 0) where
  unnamed : find account_cmp a k.view.accounts ≡ None → find account_cmp a k.view.paid ≡ None → ClosesAbove k a n
  unnamed e f i s ps d =
      let c = closes_by k a.owner a.token (number (pos 0)) (number (pos 0)) nothing (holds_zero k.view.paid a f) (holds_zero k.view.accounts a e) (λ r x y. le_itself (pos 0)) (λ r x y. le_itself (pos 0)) in
      reaches n (pos 0) _ low (c any_runs i s ps d).0.0

  above : LowersAll k (keys_of k.view.accounts ++ other_keys k.view.accounts k.view.paid) a n → ClosesAbove k a n
  above h = by_named (named_or a (ClosesAbove k a n) k.view.accounts k.view.paid h)
    where
      by_named : ((find account_cmp a k.view.accounts ≡ None) × (find account_cmp a k.view.paid ≡ None)) ⊎ ClosesAbove k a n → ClosesAbove k a n
      by_named (inl none) = unnamed none.0 none.1
      by_named (inr p) = p

asked_so : (k : Known) (a : Account) (n : ℤ) (xs : List Account) → LowersAll k xs a n → IsOneOf xs a → ClosesAbove k a n
asked_so k a n [] h w = absurd w
asked_so k a n (x ∷ xs) h (inl e) = h.0 e
asked_so k a n (x ∷ xs) h (inr w) = asked_so k a n xs h.1 w

pub closes_found : (k : Known) (names asked : List Account) (old now new : Rows) → names ≡ keys_of k.view.accounts ++ other_keys k.view.accounts k.view.paid → FindsAll (LowersAll k names) old now → FindsAll (LowersAll k asked) now new → Finds asked (ClosesAbove k) old new
closes_found k names asked old now new e named also a n f =
    let u = also asked a n f in
    let w = named asked a n u.0 in
    (w.0, by_wanted f.0 (subst (λ (xs : List Account). LowersAll k xs a n) e w.1) u.1)
  where
    by_wanted : (n ≤ℤ pos 0) ⊎ IsOneOf asked a → LowersAll k (keys_of k.view.accounts ++ other_keys k.view.accounts k.view.paid) a n → LowersAll k asked a n → ClosesAbove k a n
    by_wanted (inl low) h g = above k a n low h
    by_wanted (inr one) h g = asked_so k a n asked g one

-- ---- what is told

pub turned_below : (m n : ℤ) → m <ℤ pos 0 → n ≡ neg_ℤ m → (pos 0 ≤ℤ n) × (neg_ℤ n ≤ℤ m)
turned_below m n h e = (omega (arith, ints, e), omega (arith, ints, e))

pub turned_some : (least : Option ℤ) (m : ℤ) (o : Option ℤ) → least ≡ Some m → m <ℤ pos 0 → IfSome o (λ n. n ≡ neg_ℤ m) → IfSome o (IsTurned least)
turned_some least m None e h k = tt
turned_some least m (Some n) e h k = let u = turned_below m n h k in (u.0, subst (λ (x : Option ℤ). IsUnder x (neg_ℤ n)) (sym e) u.1)

pub turned_zero : (least : Option ℤ) (m : ℤ) → least ≡ Some m → pos 0 ≤ℤ m → IsTurned least (pos 0)
turned_zero least m e h = (le_itself (pos 0), subst (λ (x : Option ℤ). IsUnder x (neg_ℤ (pos 0))) (sym e) (no_more m h))
  where
    no_more : (m : ℤ) → pos 0 ≤ℤ m → neg_ℤ (pos 0) ≤ℤ m
    no_more m h = omega (arith, ints)

-- nothing is told of a row that has no loss
pub tells_none : (rows : Rows) (x : Account) (all : List Loss) → least_of (find account_cmp x rows) ≡ Some (pos 0) → Tells rows x all all
tells_none rows x all e = record { kept = λ p t h. h; named = λ h. subst (λ (o : Option ℤ). IsUnder o (pos 0)) (sym e) (le_itself (pos 0)); floors = λ h. h }

natural_floor : (rows : Rows) (x : Account) (o : Option ℤ) → IfSome o (IsTurned (least_of (find account_cmp x rows))) → IfSome o (λ n. IsFloor [] rows x (neg_ℤ n))
natural_floor rows x None h = tt
natural_floor rows x (Some n) h = (inl (below n h.0), h.1)
  where
    below : (n : ℤ) → pos 0 ≤ℤ n → neg_ℤ n ≤ℤ pos 0
    below n h = omega (arith, ints)

pub tells_one : (rows : Rows) (x : Account) (l : Loss) (old new : List Loss) → new ≡ old ++ l ∷ [] → l.party ≡ x.owner → l.token ≡ x.token → IfSome l.most (IsTurned (least_of (find account_cmp x rows))) → Tells rows x old new
tells_one rows x l old new e is of h = record {
  kept = λ p t u. all_left (λ (m : Loss). m.party ≡ p → m.token ≡ t → ⊥) old (l ∷ []) (subst (λ (ls : List Loss). IsUnnamed ls p t) e u);
  named = λ u. absurd ((all_right (λ (m : Loss). m.party ≡ x.owner → m.token ≡ x.token → ⊥) old (l ∷ []) (subst (λ (ls : List Loss). IsUnnamed ls x.owner x.token) e u)).0 is of);
  floors = λ f.
      subst (AreFloors rows) (sym e)
      (all_append (λ (m : Loss). IfSome m.most (λ n. IsFloor [] rows (account_of m.party m.token) (neg_ℤ n))) old (l ∷ []) f
      (subst (λ (z : Account). IfSome l.most (λ n. IsFloor [] rows z (neg_ℤ n))) (sym same) (natural_floor rows x l.most h), tt));
}
  where
    same : account_of l.party l.token ≡ x
    same = (λ i. record { owner = is i; token = of i })

-- each of these rows is told, or has no loss
abbrev pub AreNamed : Rows → Rows → List Loss → Type 0
AreNamed rows es all = AllByRecursion (λ (e : Account × Floor). IsUnnamed all e.0.owner e.0.token → IsUnder (least_of (find account_cmp e.0 rows)) (pos 0)) es

pub named_more : (rows es : Rows) (i : ℕ) (e : Account × Floor) (old new : List Loss) → i < length es → e ≡ get_or es i e → AreNamed rows (take i es) old → Tells rows e.0 old new → AreNamed rows (take (i + 1) es) new
named_more rows es i e old new l is h told =
    let Q : Account × Floor → Type 0 = λ d. IsUnnamed new d.0.owner d.0.token → IsUnder (least_of (find account_cmp d.0 rows)) (pos 0) in
    subst (AllByRecursion Q) (sym (take_more es i e l ∙ ap (λ x. take i es ++ x ∷ []) (sym is)))
    (all_append Q (take i es) (e ∷ [])
    (all_weaker (λ (d : Account × Floor). IsUnnamed old d.0.owner d.0.token → IsUnder (least_of (find account_cmp d.0 rows)) (pos 0)) Q (λ d f u. f (told.kept d.0.owner d.0.token u)) (take i es) h) (told.named, tt))

-- who has a row is among them
has_row : (P : Account → Type 0) (a : Account) (es : Rows) → AllByRecursion (λ (e : Account × Floor). P e.0) es → (find account_cmp a es ≡ None) ⊎ P a
has_row P a [] h = inl refl
has_row P a (e ∷ es) h = by_test (eq_by_cmp account_cmp a e.0) refl (has_row P a es h.1)
  where
    by_test : (t : Bool) → eq_by_cmp account_cmp a e.0 ≡ t → (find account_cmp a es ≡ None) ⊎ P a → (cond t (Some e.1) (find account_cmp a es) ≡ None) ⊎ P a
    by_test true q r = inr (subst P (sym ((account_decides a e.0).0 q)) h.0)
    by_test false q r = r

pub named_all : (rows es : Rows) (i : ℕ) (all : List Loss) → es ≡ rows → length es ≤ i → AreNamed rows (take i es) all → NameAll rows all
named_all rows es i all same l h p t u =
    let a = account_of p t in
    let P : Account → Type 0 = λ b. IsUnnamed all b.owner b.token → IsUnder (least_of (find account_cmp b rows)) (pos 0) in
    let each = subst (AllByRecursion (λ (e : Account × Floor). P e.0)) (take_all i es l ∙ same) h in
    (inl (le_itself (pos 0)), by_row (has_row P a rows each))
  where
    by_row : (find account_cmp (account_of p t) rows ≡ None) ⊎ (IsUnnamed all p t → IsUnder (least_of (find account_cmp (account_of p t) rows)) (pos 0)) → IsUnder (least_of (find account_cmp (account_of p t) rows)) (pos 0)
    by_row (inl e) = subst (λ (o : Option Floor). IsUnder (least_of o) (pos 0)) (sym e) (le_itself (pos 0))
    by_row (inr f) = f u
