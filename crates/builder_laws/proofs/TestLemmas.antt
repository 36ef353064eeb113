-- Tests that hold nowhere, or everywhere, and the first of several.
use Rattle.std.proofs.Common.{◌≡◌, ℕ, zero, suc, ◌+◌, Bool, true, false, ◌&&◌, ◌||◌, not, cond, List, [], ◌∷◌, ◌++◌, map, refl, ◌∙◌, ap, subst, arith, Option, Some, None}
use Rattle.std.specs.Prelude.{if◌then◌else◌, count_by, fold, All}
use Rattle.std.specs.List.{list_any, list_all, find, filter, position, position_from, slice_get, AllByRecursion}
use Rattle.std.specs.Option.{option_map}
use Rattle.std.proofs.lemmas.Iterator.Adapters.{position_from-zero}
use Rattle.std.proofs.lemmas.List.Sums.{sum_by-cons}
use Rattle.ledger_spec.specs.Eutxo.Faults.{first_of, first_index}

-- ---- two tests

pub both : (a b : Bool) → a && b ≡ true → (a ≡ true) × (b ≡ true)
both true b h = (refl, h)
both false b h = cc

pub together : (a b : Bool) → a ≡ true → b ≡ true → a && b ≡ true
together true b h k = k
together false b h k = cc

pub neither : (a b : Bool) → a || b ≡ false → (a ≡ false) × (b ≡ false)
neither true b h = cc
neither false b h = (refl, h)

pub none_of_two : (a b : Bool) → a ≡ false → b ≡ false → a || b ≡ false
none_of_two true b h k = cc
none_of_two false b h k = k

pub not_not : (b : Bool) → not b ≡ false → b ≡ true
not_not true h = refl
not_not false h = cc

pub not_so : (b : Bool) → not b ≡ true → b ≡ false
not_so true h = cc
not_so false h = refl

-- ---- at each element

-- the test fails at each element
abbrev pub Nowhere : {A : Type 0} → (A → Bool) → List A → Type 0
Nowhere test xs = AllByRecursion (λ x. test x ≡ false) xs

-- and it holds at each
abbrev pub Everywhere : {A : Type 0} → (A → Bool) → List A → Type 0
Everywhere test xs = AllByRecursion (λ x. test x ≡ true) xs

pub each-append : {A : Type 0} (P : A → Type 0) (xs ys : List A) → AllByRecursion P xs → AllByRecursion P ys → AllByRecursion P (xs ++ ys)
each-append P [] ys h k = k
each-append P (x ∷ xs) ys h k = (h.0, each-append P xs ys h.1 k)

pub each_front : {A : Type 0} (P : A → Type 0) (xs ys : List A) → AllByRecursion P (xs ++ ys) → AllByRecursion P xs
each_front P [] ys h = tt
each_front P (x ∷ xs) ys h = (h.0, each_front P xs ys h.1)

pub each_back : {A : Type 0} (P : A → Type 0) (xs ys : List A) → AllByRecursion P (xs ++ ys) → AllByRecursion P ys
each_back P [] ys h = h
each_back P (x ∷ xs) ys h = each_back P xs ys h.1

pub each_so : {A : Type 0} (P Q : A → Type 0) → ((x : A) → P x → Q x) → (xs : List A) → AllByRecursion P xs → AllByRecursion Q xs
each_so P Q f [] h = tt
each_so P Q f (x ∷ xs) h = (f x h.0, each_so P Q f xs h.1)

-- of each element by its place, and by recursion
pub by_recursion : {A : Type 0} (P : A → Type 0) (xs : List A) → All P xs → AllByRecursion P xs
by_recursion P [] h = tt
by_recursion P (x ∷ xs) h = (h 0 x (omega arith), by_recursion P xs (λ k d l. h (suc k) d (omega (arith, l))))

-- and of the element at a place
pub each_at : {A : Type 0} (P : A → Type 0) (xs : List A) → AllByRecursion P xs → (k : ℕ) (x : A) → slice_get xs k ≡ Some x → P x
each_at P [] h k x e = cc
each_at P (y ∷ ys) h zero x e = let same : y ≡ x = cc in subst P same h.0
each_at P (y ∷ ys) h (suc k) x e = each_at P ys h.1 k x e

pub not_any : {A : Type 0} (test : A → Bool) (xs : List A) → Nowhere test xs → list_any test xs ≡ false
not_any test [] h = refl
not_any test (x ∷ xs) h = none_of_two (test x) (list_any test xs) h.0 (not_any test xs h.1)

pub any_nowhere : {A : Type 0} (test : A → Bool) (xs : List A) → list_any test xs ≡ false → Nowhere test xs
any_nowhere test [] h = tt
any_nowhere test (x ∷ xs) h = let p = neither (test x) (list_any test xs) h in (p.0, any_nowhere test xs p.1)

pub all_everywhere : {A : Type 0} (test : A → Bool) (xs : List A) → list_all test xs ≡ true → Everywhere test xs
all_everywhere test [] h = tt
all_everywhere test (x ∷ xs) h = let p = both (test x) (list_all test xs) h in (p.0, all_everywhere test xs p.1)

pub everywhere_all : {A : Type 0} (test : A → Bool) (xs : List A) → Everywhere test xs → list_all test xs ≡ true
everywhere_all test [] h = refl
everywhere_all test (x ∷ xs) h = together (test x) (list_all test xs) h.0 (everywhere_all test xs h.1)

count_from : {A : Type 0} (test : A → Bool) (n : ℕ) (xs : List A) → Nowhere test xs → fold (λ a x. a + cond (test x) 1 0) n xs ≡ n
count_from test n [] h = refl
count_from test n (x ∷ xs) h = ap (λ b. fold (λ a y. a + cond (test y) 1 0) (n + cond b 1 0) xs) h.0 ∙ ap (λ k. fold (λ a y. a + cond (test y) 1 0) k xs) (let e : n + 0 ≡ n = omega arith in e) ∙ count_from test n xs h.1

pub none_counted : {A : Type 0} (test : A → Bool) (xs : List A) → Nowhere test xs → count_by test xs ≡ 0
none_counted test xs h = count_from test 0 xs h

-- one more that passes
pub one_more : {A : Type 0} (test : A → Bool) (x : A) (xs : List A) → test x ≡ true → count_by test (x ∷ xs) ≡ suc (count_by test xs)
one_more test x xs e = sum_by-cons (λ y. cond (test y) 1 0) x xs ∙ ap (λ b. cond b 1 0 + count_by test xs) e ∙ (let n = count_by test xs in let k : 1 + n ≡ suc n = omega arith in k)

no_place_if : (b : Bool) (i : ℕ) (later : Option ℕ) → b ≡ false → later ≡ None → cond b (Some i) later ≡ None
no_place_if true i later h k = cc
no_place_if false i later h k = k

no_position : {A : Type 0} (test : A → Bool) (i : ℕ) (xs : List A) → Nowhere test xs → position_from test i xs ≡ None
no_position test i [] h = refl
no_position test i (x ∷ xs) h = no_place_if (test x) i (position_from test (i + 1) xs) h.0 (no_position test (i + 1) xs h.1)

-- a rule with places refuses nowhere
pub no_fault : {A F : Type 0} (f : ℕ → F) (test : A → Bool) (xs : List A) → Nowhere test xs → option_map f (position test xs) ≡ None
no_fault f test xs h = ap (option_map f) (position_from-zero test xs ∙ no_position test 0 xs h)

-- nor does one whose test reads the place
pub no_place : {A : Type 0} (test : ℕ → A → Bool) (i : ℕ) (xs : List A) → ((k : ℕ) (x : A) → slice_get xs k ≡ Some x → test (i + k) x ≡ false) → first_index test i xs ≡ None
no_place test i [] h = refl
no_place test i (x ∷ xs) h =
    no_place_if (test i x) i (first_index test (i + 1) xs) (ap (λ n. test n x) (let e : i ≡ i + 0 = omega arith in e) ∙ h 0 x refl)
    (no_place test (i + 1) xs (λ k y e. ap (λ n. test n y) (let f : i + 1 + k ≡ i + suc k = omega arith in f) ∙ h (suc k) y e))

pub not_found : {A : Type 0} (test : A → Bool) (xs : List A) → Nowhere test xs → find test xs ≡ None
not_found test [] h = refl
not_found {A} test (x ∷ xs) h = by_test (test x) (find test xs) h.0 (not_found test xs h.1)
  where
    by_test : (b : Bool) (later : Option A) → b ≡ false → later ≡ None → cond b (Some x) later ≡ None
    by_test true later h k = cc
    by_test false later h k = k

missed_if : {A : Type 0} (b : Bool) (x : A) (later : Option A) → cond b (Some x) later ≡ None → (b ≡ false) × (later ≡ None)
missed_if true x later h = cc
missed_if false x later h = (refl, h)

-- and the other way round
pub found_nowhere : {A : Type 0} (test : A → Bool) (xs : List A) → find test xs ≡ None → Nowhere test xs
found_nowhere test [] h = tt
found_nowhere test (x ∷ xs) h = let p = missed_if (test x) x (find test xs) h in (p.0, found_nowhere test xs p.1)

pub none_kept : {A : Type 0} (test : A → Bool) (xs : List A) → Nowhere test xs → filter test xs ≡ []
none_kept test [] h = refl
none_kept test (x ∷ xs) h = ap (λ b. cond b (x ∷ filter test xs) (filter test xs)) h.0 ∙ none_kept test xs h.1

-- ---- the first of several

pub each_none : {A : Type 0} (xs : List (Option A)) → first_of xs ≡ None → AllByRecursion (λ x. x ≡ None) xs
each_none [] h = tt
each_none (None ∷ xs) h = (refl, each_none xs h)
each_none (Some x ∷ xs) h = cc

pub none_of : {A : Type 0} (xs : List (Option A)) → AllByRecursion (λ x. x ≡ None) xs → first_of xs ≡ None
none_of [] h = refl
none_of (x ∷ xs) h = ap (λ o. first_of (o ∷ xs)) h.0 ∙ none_of xs h.1

-- of what is made of each
pub each_mapped : {A B : Type 0} (f : A → Option B) (xs : List A) → first_of (map f xs) ≡ None → AllByRecursion (λ x. f x ≡ None) xs
each_mapped {A} {B} f xs h = by xs (each_none (map f xs) h)
  where
    by : (ys : List A) → AllByRecursion (λ (o : Option B). o ≡ None) (map f ys) → AllByRecursion (λ y. f y ≡ None) ys
    by [] k = tt
    by (y ∷ ys) k = (k.0, by ys k.1)

pub unless : {A : Type 0} (b : Bool) (x : A) → (if b then Some x else None) ≡ None → b ≡ false
unless true x h = cc
unless false x h = refl

pub only_if : {A : Type 0} (b : Bool) (x : A) → (if b then None else Some x) ≡ None → b ≡ true
only_if true x h = refl
only_if false x h = cc

pub if_not : {A : Type 0} (b : Bool) (x : A) → b ≡ false → (if b then Some x else None) ≡ None
if_not b x h = ap (λ c. if c then Some x else None) h

pub mapped : {A B : Type 0} (f : A → B) (o : Option A) → o ≡ None → option_map f o ≡ None
mapped f o e = ap (option_map f) e

pub unmapped : {A B : Type 0} (f : A → B) (o : Option A) → option_map f o ≡ None → o ≡ None
unmapped f None e = refl
unmapped f (Some x) e = cc
