-- Plain facts about options, tests and lists.
use Rattle.std.proofs.Common.{◌≡◌, ℕ, zero, suc, ◌<◌, ◌≤◌, Bool, true, false, not, ◌&&◌, ◌||◌, List, [], ◌∷◌, ◌++◌, refl, sym, ◌∙◌, ap, subst, arith, Option, Some, None, take, drop, length, ◌⊎◌, inl, inr}
use Rattle.std.specs.Prelude.{is_some, is_none}
use Rattle.std.specs.List.{slice_get, list_any}
use Rattle.std.proofs.lemmas.List.{take-append-drop}

-- ---- tests

pub and_true : (a b : Bool) → a && b ≡ true → (a ≡ true) × (b ≡ true)
and_true true b h = (refl, h)
and_true false b h = cc

pub both : (a b : Bool) → a ≡ true → b ≡ true → (a && b) ≡ true
both true b p q = q
both false b p q = cc

pub or_false : (a b : Bool) → a || b ≡ false → (a ≡ false) × (b ≡ false)
or_false true b h = cc
or_false false b h = (refl, h)

pub both_false : (a b : Bool) → a ≡ false → b ≡ false → (a || b) ≡ false
both_false true b p q = cc
both_false false b p q = q

pub or_true : (a b : Bool) → b ≡ true → (a || b) ≡ true
or_true true b h = refl
or_true false b h = h

pub not_both : {b : Bool} → b ≡ true → b ≡ false → ⊥
not_both e f = let g : true ≡ false = sym e ∙ f in cc

pub not_false : (b : Bool) → not b ≡ false → b ≡ true
not_false true h = refl
not_false false h = cc

-- ---- options

pub same_some : {A : Type 0} (a b : A) → ◌≡◌ {A = Option A} (Some a) (Some b) → a ≡ b
same_some a b e = cc

pub is_there : {A : Type 0} (o : Option A) → is_some o ≡ true → (x : A) × (o ≡ Some x)
is_there None h = cc
is_there (Some x) h = (x, refl)

pub some_of : {A : Type 0} (o : Option A) → is_none o ≡ false → (x : A) × (o ≡ Some x)
some_of None h = cc
some_of (Some x) h = (x, refl)

-- ---- a test that fails at each element

abbrev pub EachFalse : {A : Type 0} → (A → Bool) → List A → Type 0
EachFalse test [] = Unit {0}
EachFalse test (x ∷ xs) = (test x ≡ false) × EachFalse test xs

pub each_at : {A : Type 0} (p : A → Bool) (i : ℕ) (xs : List A) (x : A) → EachFalse p xs → slice_get xs i ≡ Some x → p x ≡ false
each_at p i [] x h e = cc
each_at p zero (y ∷ xs) x h e = let q : y ≡ x = same_some y x e in subst (λ z. p z ≡ false) q h.0
each_at p (suc i) (y ∷ xs) x h e = each_at p i xs x h.1 e

-- ---- places in lists

pub head_at : {A : Type 0} (n : ℕ) (xs : List A) (y : A) (ys : List A) → drop n xs ≡ y ∷ ys → (slice_get xs n ≡ Some y) × (drop (suc n) xs ≡ ys)
head_at zero [] y ys h = cc
head_at zero (x ∷ xs) y ys h = (let e : x ≡ y = cc in ap (λ (z : _). Some z) e, let e : xs ≡ ys = cc in e)
head_at (suc n) [] y ys h = cc
head_at (suc n) (x ∷ xs) y ys h = head_at n xs y ys h

pub take_none : {A : Type 0} (n : ℕ) (xs : List A) → slice_get xs n ≡ None → take (suc n) xs ≡ take n xs
take_none zero [] h = refl
take_none zero (x ∷ xs) h = cc
take_none (suc n) [] h = refl
take_none (suc n) (x ∷ xs) h = ap (λ (l : List _). x ∷ l) (take_none n xs h)

pub take_some : {A : Type 0} (n : ℕ) (xs : List A) (y : A) → slice_get xs n ≡ Some y → take (suc n) xs ≡ take n xs ++ y ∷ []
take_some zero [] y h = cc
take_some zero (x ∷ xs) y h = ap (λ (z : _). z ∷ []) (same_some x y h)
take_some (suc n) [] y h = cc
take_some (suc n) (x ∷ xs) y h = ap (λ (l : List _). x ∷ l) (take_some n xs y h)

pub take_whole : {A : Type 0} (xs : List A) → take (length xs) xs ≡ xs
take_whole [] = refl
take_whole (x ∷ xs) = ap (λ (l : List _). x ∷ l) (take_whole xs)

pub take_twice : {A : Type 0} (m n : ℕ) (xs : List A) → m ≤ n → take m (take n xs) ≡ take m xs
take_twice zero n xs l = refl
take_twice (suc m) zero xs l = absurd (omega (arith, l))
take_twice (suc m) (suc n) [] l = refl
take_twice (suc m) (suc n) (x ∷ xs) l = ap (λ (l : List _). x ∷ l) (take_twice m n xs (omega (arith, l)))

pub drop_some : {A : Type 0} (n : ℕ) (xs : List A) (y : A) → slice_get xs n ≡ Some y → drop n xs ≡ y ∷ drop (suc n) xs
drop_some zero [] y h = cc
drop_some zero (x ∷ xs) y h = ap (λ (z : _). z ∷ xs) (same_some x y h)
drop_some (suc n) [] y h = cc
drop_some (suc n) (x ∷ xs) y h = drop_some n xs y h

-- a list falls apart at an element
pub cut_at : {A : Type 0} (n : ℕ) (xs : List A) (y : A) → slice_get xs n ≡ Some y → xs ≡ take n xs ++ y ∷ drop (suc n) xs
cut_at n xs y h = sym (take-append-drop n xs) ∙ ap (λ (l : List _). take n xs ++ l) (drop_some n xs y h)

pub taken_at : {A : Type 0} (n m : ℕ) (xs : List A) (y : A) → slice_get (take n xs) m ≡ Some y → (slice_get xs m ≡ Some y) × (m < n)
taken_at zero m xs y h = cc
taken_at (suc n) m [] y h = cc
taken_at (suc n) zero (x ∷ xs) y h = (h, omega arith)
taken_at (suc n) (suc m) (x ∷ xs) y h = let q = taken_at n m xs y h in (q.0, let l = q.1 in omega (arith, l))

pub any_taken : {A : Type 0} (p : A → Bool) (xs : List A) (n k : ℕ) (x : A) → n < k → slice_get xs n ≡ Some x → p x ≡ true → list_any p (take k xs) ≡ true
any_taken p [] n k x l e h = cc
any_taken p (y ∷ ys) n zero x l e h = absurd (omega arith)
any_taken p (y ∷ ys) zero (suc k) x l e h = let f : y ≡ x = cc in ap (λ (z : _). p z || list_any p (take k ys)) f ∙ ap (λ (b : Bool). b || list_any p (take k ys)) h
any_taken p (y ∷ ys) (suc n) (suc k) x l e h = or_true (p y) (list_any p (take k ys)) (any_taken p ys n k x (omega arith) e h)

pub any_at : {A : Type 0} (p : A → Bool) (xs : List A) (n : ℕ) (x : A) → slice_get xs n ≡ Some x → p x ≡ true → list_any p xs ≡ true
any_at p [] n x e h = cc
any_at p (y ∷ ys) zero x e h = let f : y ≡ x = cc in ap (λ (z : _). p z || list_any p ys) f ∙ ap (λ (b : Bool). b || list_any p ys) h
any_at p (y ∷ ys) (suc n) x e h = or_true (p y) (list_any p ys) (any_at p ys n x e h)

pub any_take : {A : Type 0} (p : A → Bool) (m n : ℕ) (xs : List A) → m ≤ n → list_any p (take n xs) ≡ false → list_any p (take m xs) ≡ false
any_take p zero n xs l h = refl
any_take p (suc m) zero xs l h = absurd (omega (arith, l))
any_take p (suc m) (suc n) [] l h = refl
any_take p (suc m) (suc n) (x ∷ xs) l h =
    let q = or_false (p x) (list_any p (take n xs)) h in
    ap (λ b. b || list_any p (take m xs)) q.0 ∙ any_take p m n xs (omega (arith, l)) q.1

-- where one of a list passes, one at a place does
pub any_there : {A : Type 0} (p : A → Bool) (xs : List A) → list_any p xs ≡ true → (n : ℕ) × (x : A) × (slice_get xs n ≡ Some x) × (p x ≡ true)
any_there p [] h = cc
any_there p (y ∷ ys) h = by (p y) refl h (any_there p ys)
  where
    by : (b : Bool) → p y ≡ b → (b || list_any p ys) ≡ true → (list_any p ys ≡ true → (n : ℕ) × (x : _) × (slice_get ys n ≡ Some x) × (p x ≡ true)) →
        (n : ℕ) × (x : _) × (slice_get (y ∷ ys) n ≡ Some x) × (p x ≡ true)
    by true e h go = (0, y, refl, e)
    by false e h go = let q = go h in (suc q.0, q.1, q.2, q.3)

-- ---- lists that grow

-- the element at n of a list that grew
pub get_grown : {A : Type 0} (xs : List A) (y : A) (n : ℕ) (x : A) → slice_get (xs ++ y ∷ []) n ≡ Some x →
    ((slice_get xs n ≡ Some x) × (take n (xs ++ y ∷ []) ≡ take n xs)) ⊎ ((y ≡ x) × (take n (xs ++ y ∷ []) ≡ xs))
get_grown [] y zero x h = let e : y ≡ x = cc in inr (e, refl)
get_grown [] y (suc n) x h = cc
get_grown (z ∷ xs) y zero x h = inl (h, refl)
get_grown (z ∷ xs) y (suc n) x h =
    elim (get_grown xs y n x h) [
      | inl p ↦ inl (p.0, ap (λ (l : List _). z ∷ l) p.1)
      | inr p ↦ inr (p.0, ap (λ (l : List _). z ∷ l) p.1)
    ]

pub no_more : {A : Type 0} (xs : List A) → xs ++ [] ≡ xs
no_more [] = refl
no_more (x ∷ xs) = ap (λ (l : List _). x ∷ l) (no_more xs)
