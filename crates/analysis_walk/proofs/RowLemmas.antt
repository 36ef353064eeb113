-- What parties are paid over closes: one more close, entry by entry.
use Rattle.std.proofs.Common.{◌≡◌, ◌≢◌, ℕ, suc, ◌<◌, ◌≤◌, ◌+◌, ℤ, pos, Bool, true, false, cond, List, [], ◌∷◌, ◌++◌, take, length, refl, sym, ap, subst, ◌∙◌, Option, Some, None, IfSome, inl, inr, arith}
use Rattle.std.proofs.lemmas.Int.{ints}
use Rattle.std.proofs.Math.ListN.{get_or}
use Rattle.std.proofs.lemmas.List.{take_more, take_all}
use Rattle.std.specs.Option.{IsSomeAnd, option_or, unwrap_or}
use Rattle.std.specs.Ordering.{eq_by_cmp}
use Rattle.std.specs.FinMap.Entries.{find, put, find-put}
use Rattle.contract.specs.Names.declared.account.Account.{Account}
use Rattle.contract.specs.Names.Orders.{account_cmp}
use Rattle.contract.specs.Names.Totals.{account_total}
use Rattle.contract.proofs.FromNames.Exact.{account_exact}
use Rattle.contract.proofs.FromNames.EqualLaws.{order_decides}
use Rattle.semantics.specs.Reduction.{account_of}
use Rattle.analysis_spec.specs.declared.paid.PaidRange.{PaidRange}
use Rattle.analysis_walk.proofs.ListLaws.{all_append, all_left, all_right}
use Rattle.analysis_walk.specs.declared.row.Row.{Row}
use Rattle.analysis_walk.specs.declared.span.Span.{Span}
use Rattle.analysis_walk.specs.Spans.{IsIn, Contains, nothing}
use Rattle.analysis_spec.specs.Analysed.{IsUnnamed}
use Rattle.analysis_walk.specs.Rows.{IsPaid, Names, AreMet, Adds, IsBounded, AreBounded, range_of, NameAll}

-- ---- one row

kept_some : (before : ℕ) (old : Row) (new : Row) → Contains new.span old.span → (old.met < before → new.met < before) → (n : ℤ) → IsPaid before (Some old) n → IsPaid before (Some new) n
kept_some before old new own missed n (inl i) = inl (own n i)
kept_some before old new own missed n (inr h) = inr (missed h.0, h.1)

pub names_some : (before : ℕ) (old : Row) (span : Span) (new : Row) → Contains new.span old.span → Contains new.span span → (old.met < before → new.met < before) → new.met ≤ suc before → Names before (Some old) span new
names_some before old span new own other missed met = record { own = own; other = other; kept = λ n b h. kept_some before old new own missed n h; met = met }

pub names_none : (before : ℕ) (span : Span) (new : Row) → Contains new.span span → (0 < before → new.met < before) → new.met ≤ suc before → Names before None span new
names_none before span new other missed met = record { own = tt; other = other; kept = λ n b h. inr (missed b, h); met = met }

zero_in_nothing : (n : ℤ) → n ≡ pos 0 → IsIn nothing n
zero_in_nothing n e = (omega (arith, ints, e), omega (arith, ints, e))

pub paid_none : (count : ℕ) (x : Span) → x ≡ nothing → (n : ℤ) → IsPaid count None n → IsIn x n
paid_none count x e n h = subst (λ (y : Span). IsIn y n) (sym e) (zero_in_nothing n h)

pub paid_joined : (count : ℕ) (row : Row) (x zero : Span) → zero ≡ nothing → Contains x row.span → Contains x zero → (n : ℤ) → IsPaid count (Some row) n → IsIn x n
paid_joined count row x zero e own other n (inl i) = own n i
paid_joined count row x zero e own other n (inr h) = other n (subst (λ (y : Span). IsIn y n) (sym e) (zero_in_nothing n h.1))

pub paid_met : (count : ℕ) (row : Row) → count ≤ row.met → (n : ℤ) → IsPaid count (Some row) n → IsIn row.span n
paid_met count row l n (inl i) = i
paid_met count row l n (inr h) = absurd (omega (arith, h.0, l))

-- ---- entries

-- what is found among entries and one more
find_last : {X : Type 0} (es : List (Account × X)) (k : Account) (x : X) (a : Account) → find account_cmp a (es ++ (k, x) ∷ []) ≡ option_or (find account_cmp a es) (cond (eq_by_cmp account_cmp a k) (Some x) None)
find_last [] k x a = refl
find_last (e ∷ es) k x a =
    elim (eq_by_cmp account_cmp a e.0) as (λ b. cond b (Some e.1) (find account_cmp a (es ++ (k, x) ∷ [])) ≡ option_or (cond b (Some e.1) (find account_cmp a es)) (cond (eq_by_cmp account_cmp a k) (Some x) None)) [
      | true ↦ refl
      | false ↦ find_last es k x a
    ]

-- what the entries so far say of an account is in its row; and where they don't name it, its row isn't met at this close
abbrev pub IsMade : ℕ → Option Span → Option Row → Type 0
IsMade before None now = IfSome now (λ row. row.met ≤ before)
IsMade before (Some x) now = (n : ℤ) → IsIn x n → IsSomeAnd now (λ row. IsIn row.span n)

-- an account's row before this close and now
pub record Progress (before : ℕ) (x : Option Span) (old now : Option Row) : Type 0 where
  pub kept : (n : ℤ) → 0 < before → IsPaid before old n → IsPaid before now n
  pub made : IsMade before x now
  pub met : IfSome now (λ row. row.met ≤ suc before)

more_met : (before : ℕ) (row : Option Row) → IfSome row (λ r. r.met ≤ before) → IfSome row (λ r. r.met ≤ suc before)
more_met before None h = tt
more_met before (Some r) h = omega arith

begins : (before : ℕ) (old : Option Row) → IfSome old (λ r. r.met ≤ before) → Progress before None old old
begins before old h = record { kept = λ n b p. p; made = h; met = more_met before old h }

in_new : (now : Option Row) (new : Row) (n : ℤ) → IfSome now (λ r. Contains new.span r.span) → IsSomeAnd now (λ row. IsIn row.span n) → IsIn new.span n
in_new None new n f h = absurd h
in_new (Some r) new n f h = f n h

made_next : (before : ℕ) (x : Option Span) (now : Option Row) (s : Span) (new : Row) → IsMade before x now → Names before now s new → IsMade before (option_or x (Some s)) (Some new)
made_next before None now s new m h = λ n i. h.other n i
made_next before (Some x) now s new m h = λ n i. in_new now new n h.own (m n i)

goes : (before : ℕ) (x : Option Span) (old now : Option Row) (s : Span) (new : Row) → Progress before x old now → Names before now s new → Progress before (option_or x (Some s)) old (Some new)
goes before x old now s new p h = record {
  kept = λ n b i. h.kept n b (p.kept n b i);
  made = made_next before x now s new p.made h;
  met = h.met;
}

none_or : {A : Type 0} (x : Option A) → option_or x None ≡ x
none_or None = refl
none_or (Some x) = refl

-- ---- over all accounts

abbrev pub AreMade : ℕ → List (Account × Span) → List (Account × Row) → List (Account × Row) → Type 0
AreMade before spans old now = (a : Account) → Progress before (find account_cmp a spans) (find account_cmp a old) (find account_cmp a now)

pub all_begin : (before : ℕ) (old : List (Account × Row)) → AreMet old before → AreMade before [] old old
all_begin before old h a = begins before (find account_cmp a old) (h a)

-- with one more entry
one_more : (before : ℕ) (spans : List (Account × Span)) (old now : List (Account × Row)) (k a : Account) (s : Span) (new : Row) (b : Bool) → eq_by_cmp account_cmp a k ≡ b
    → Progress before (find account_cmp a spans) (find account_cmp a old) (find account_cmp a now) → Names before (find account_cmp k now) s new
    → Progress before (option_or (find account_cmp a spans) (cond b (Some s) None)) (find account_cmp a old) (cond b (Some new) (find account_cmp a now))
one_more before spans old now k a s new true e p h =
    let same = (order_decides account_cmp account_total account_exact a k).0 e in
    goes before (find account_cmp a spans) (find account_cmp a old) (find account_cmp a now) s new p (subst (λ (z : Account). Names before (find account_cmp z now) s new) (sym same) h)
one_more before spans old now k a s new false e p h = subst (λ (x : Option Span). Progress before x (find account_cmp a old) (find account_cmp a now)) (sym (none_or (find account_cmp a spans))) p

pub all_go : (before : ℕ) (spans : List (Account × Span)) (old now : List (Account × Row)) (k : Account) (s : Span) (new : Row) → AreMade before spans old now → Names before (find account_cmp k now) s new
    → AreMade before (spans ++ (k, s) ∷ []) old (put account_cmp k new now)
all_go before spans old now k s new p h a =
    subst (λ (x : Option Span). Progress before x (find account_cmp a old) (find account_cmp a (put account_cmp k new now))) (sym (find_last spans k s a))
    (subst (λ (y : Option Row). Progress before (option_or (find account_cmp a spans) (cond (eq_by_cmp account_cmp a k) (Some s) None)) (find account_cmp a old) y) (sym (find-put account_cmp account_total a k new now))
    (one_more before spans old now k a s new (eq_by_cmp account_cmp a k) refl (p a) h))

-- ---- at the end

paid_more : (before : ℕ) (now : Option Row) (n : ℤ) → IsPaid before now n → IsPaid (suc before) now n
paid_more before None n h = h
paid_more before (Some r) n (inl i) = inl i
paid_more before (Some r) n (inr i) = inr (omega (arith, i.0), i.1)

is_zero : (n : ℤ) → IsIn nothing n → n ≡ pos 0
is_zero n h = omega (arith, ints, h.0, h.1)

added_at : (before : ℕ) (x : Option Span) (now : Option Row) (n : ℤ) → IsMade before x now → IsIn (unwrap_or x nothing) n → IsPaid (suc before) now n
added_at before None None n m i = is_zero n i
added_at before None (Some r) n m i = inr (omega arith, is_zero n i)
added_at before (Some x) None n m i = absurd (m n i)
added_at before (Some x) (Some r) n m i = inl (m n i)

pub all_end : (before : ℕ) (spans : List (Account × Span)) (old now : List (Account × Row)) → AreMade before spans old now → Adds old before now spans
all_end before spans old now p = record {
  kept = λ a n h. (omega arith, paid_more before (find account_cmp a now) n ((p a).kept n h.0 h.1));
  added = λ a n i. (omega arith, added_at before (find account_cmp a spans) (find account_cmp a now) n (p a).made i);
}

pub all_met : (before : ℕ) (spans : List (Account × Span)) (old now : List (Account × Row)) → AreMade before spans old now → AreMet now (suc before)
all_met before spans old now p a = (p a).met

-- entries up to a place, and the one there
up_to : {X : Type 0} (es : List (Account × X)) (i : ℕ) (e : Account × X) → i < length es → e ≡ get_or es i e → take (i + 1) es ≡ take i es ++ e ∷ []
up_to es i e l is = take_more es i e l ∙ ap (λ x. take i es ++ x ∷ []) (sym is)

pub made_more : (before : ℕ) (spans : List (Account × Span)) (i : ℕ) (e : Account × Span) (old now : List (Account × Row)) (row : Option Row) (new : Row) (after : List (Account × Row)) → i < length spans → e ≡ get_or spans i e
    → AreMade before (take i spans) old now → row ≡ find account_cmp e.0 now → Names before row e.1 new → after ≡ put account_cmp e.0 new now → AreMade before (take (i + 1) spans) old after
made_more before spans i e old now row new after l is p r h q =
    subst (λ (z : List (Account × Row)). AreMade before (take (i + 1) spans) old z) (sym q)
    (subst (λ (es : List (Account × Span)). AreMade before es old (put account_cmp e.0 new now)) (sym (up_to spans i e l is))
    (all_go before (take i spans) old now e.0 e.1 new p (subst (λ (x : Option Row). Names before x e.1 new) r h)))

pub made_all : (before : ℕ) (spans : List (Account × Span)) (i : ℕ) (old now : List (Account × Row)) → length spans ≤ i → AreMade before (take i spans) old now → Adds old before now spans
made_all before spans i old now l p = all_end before spans old now (subst (λ (es : List (Account × Span)). AreMade before es old now) (take_all i spans l) p)

-- ---- ranges

pub bounded_more : (rows : List (Account × Row)) (count : ℕ) (ranges : List PaidRange) (a : Account) (x : Span) (row : Option Row) → row ≡ find account_cmp a rows → ((n : ℤ) → IsPaid count row n → IsIn x n)
    → AreBounded rows count ranges → AreBounded rows count (ranges ++ range_of a x ∷ [])
bounded_more rows count ranges a x row e f h = all_append (IsBounded rows count) ranges (range_of a x ∷ []) h (λ n p. f n (subst (λ (o : Option Row). IsPaid count o n) (sym e) p.1), tt)

none_or_none : {X : Type 0} (x : Option X) (y : Option X) → x ≡ None → y ≡ None → option_or x y ≡ None
none_or_none x y e q = ap (λ z. option_or z y) e ∙ q

not_it : {X : Type 0} (a k : Account) (v : X) (b : Bool) → eq_by_cmp account_cmp a k ≡ b → (k.owner ≡ a.owner → k.token ≢ a.token) → cond b (Some v) None ≡ None
not_it a k v true e h =
    let same = sym ((order_decides account_cmp account_total account_exact a k).0 e) in
    absurd (h (ap (λ (x : Account). x.owner) same) (ap (λ (x : Account). x.token) same))
not_it a k v false e h = refl

-- the rows of these entries have their ranges
abbrev pub AreNamed : List (Account × Row) → List PaidRange → Type 0
AreNamed es ranges = (a : Account) → IsUnnamed ranges a.owner a.token → find account_cmp a es ≡ None

pub named_more : (es : List (Account × Row)) (i : ℕ) (e : Account × Row) (x : Span) (ranges : List PaidRange) → i < length es → e ≡ get_or es i e → AreNamed (take i es) ranges → AreNamed (take (i + 1) es) (ranges ++ range_of e.0 x ∷ [])
named_more es i e x ranges l is h a u =
    let P : PaidRange → Type 0 = λ r. r.party ≡ a.owner → r.token ≢ a.token in
    ap (find account_cmp a) (up_to es i e l is) ∙ (find_last (take i es) e.0 e.1 a
    ∙ none_or_none (find account_cmp a (take i es)) _ (h a (all_left P ranges (range_of e.0 x ∷ []) u)) (not_it a e.0 e.1 (eq_by_cmp account_cmp a e.0) refl (all_right P ranges (range_of e.0 x ∷ []) u).0))

pub named_all : (es : List (Account × Row)) (i : ℕ) (ranges : List PaidRange) → length es ≤ i → AreNamed (take i es) ranges → NameAll es ranges
named_all es i ranges l h p t u = ap (find account_cmp (account_of p t)) (sym (take_all i es l)) ∙ h (account_of p t) u
