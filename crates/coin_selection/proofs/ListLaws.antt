-- Walks over lists.
use Rattle.std.proofs.Common.{◌≡◌, ℕ, zero, suc, ◌+◌, ◌-◌, ◌<◌, ◌≤◌, Bool, true, false, ◌||◌, if◌then◌else◌, List, [], ◌∷◌, ◌++◌, length, take, drop, get_or, refl, sym, ◌∙◌, ap, subst, arith}
use Rattle.std.proofs.lemmas.List.{drop_more}
use Rattle.std.specs.List.{list_any}
use Rattle.std.specs.FinMap.{entries}
use Rattle.builder_spec.specs.Bundle.Bundles.{Amounts, AllPositive}
use Rattle.builder_spec.specs.EutxoTypes.declared.output_ref.OutputRef.{OutputRef}
use Rattle.builder_spec.specs.EutxoTypes.declared.output_ref.OutputRef.TheVariants.{Genesis, Made}
use Rattle.std.specs.Prelude.{◌==◌, ◌&&◌}
use Rattle.builder_spec.specs.EutxoTypes.Parts.{same_bytes, same_ref}
use Rattle.builder_spec.specs.Causes.{has_repeat}
use Rattle.builder_spec.specs.Holding.{AreBundles}

-- what is left at a place is its item and what is left after it
pub here : {A : Type 0} (xs : List A) (i : ℕ) (x : A) → i < length xs → x ≡ get_or xs i x → drop i xs ≡ x ∷ drop (i + 1) xs
here xs i x l is = drop_more xs i x l ∙ ap (λ y. y ∷ drop (i + 1) xs) (sym is)

one_back : (n : ℕ) → 0 < n → (n - 1) + 1 ≡ n
one_back n h = omega arith

pub back : {A : Type 0} (xs : List A) (n : ℕ) (x : A) → 0 < n → n ≤ length xs → x ≡ get_or xs (n - 1) x → drop (n - 1) xs ≡ x ∷ drop n xs
back xs n x h l is = here xs (n - 1) x (omega arith) is ∙ ap (λ k. x ∷ drop k xs) (one_back n h)

-- ---- sums

bundles_end : {A : Type 0} (w : A → Amounts) (xs : List A) (x : A) → AreBundles w xs → AllPositive (entries (w x)) → AreBundles w (xs ++ x ∷ [])
bundles_end w [] x h k = (k, tt)
bundles_end w (y ∷ xs) x h k = (h.0, bundles_end w xs x h.1 k)

one_more : (i : ℕ) → suc (i + 1) ≡ suc i + 1
one_more i = omega arith

pub up_to : {A : Type 0} (xs : List A) (i : ℕ) (x : A) → i < length xs → x ≡ get_or xs i x → take i xs ++ x ∷ [] ≡ take (i + 1) xs
up_to [] i x l is = absurd (omega (arith, l))
up_to (y ∷ xs) zero x l is = ap (λ z. z ∷ []) is
up_to (y ∷ xs) (suc i) x l is = ap (λ zs. y ∷ zs) (up_to xs i x (omega (arith, l)) is) ∙ ap (λ n. take n (y ∷ xs)) (one_more i)

pub bundles_more : {A : Type 0} (w : A → Amounts) (xs : List A) (i : ℕ) (x : A) → i < length xs → x ≡ get_or xs i x → AreBundles w (take i xs) → AllPositive (entries (w x)) → AreBundles w (take (i + 1) xs)
bundles_more w xs i x l is h k = subst (AreBundles w) (up_to xs i x l is) (bundles_end w (take i xs) x h k)

-- ---- references

or_right : (a b : Bool) → b ≡ true → a || b ≡ true
or_right true b h = refl
or_right false b h = h

pub repeat_drop : (i : ℕ) (rs : List OutputRef) → has_repeat (drop i rs) ≡ true → has_repeat rs ≡ true
repeat_drop zero rs h = h
repeat_drop (suc i) [] h = h
repeat_drop (suc i) (r ∷ rs) h = or_right (list_any (λ s. same_ref s r) rs) (has_repeat rs) (repeat_drop i rs h)

-- one that is among those that come later
pub repeat_here : (rs : List OutputRef) (n : ℕ) (r : OutputRef) → 0 < n → n ≤ length rs → r ≡ get_or rs (n - 1) r → list_any (λ s. same_ref s r) (drop n rs) ≡ true → has_repeat rs ≡ true
repeat_here rs n r h l is k =
    repeat_drop (n - 1) rs (subst (λ ss. has_repeat ss ≡ true) (sym (back rs n r h l is)) (or_left (list_any (λ s. same_ref s r) (drop n rs)) (has_repeat (drop n rs)) k))
  where
    or_left : (a b : Bool) → a ≡ true → a || b ≡ true
    or_left a b e = rw e refl

none_here : (a b : Bool) → a ≡ false → b ≡ false → a || b ≡ false
none_here a b h k = rw h k

pub once_here : (rs : List OutputRef) (n : ℕ) (r : OutputRef) → 0 < n → n ≤ length rs → r ≡ get_or rs (n - 1) r → list_any (λ s. same_ref s r) (drop n rs) ≡ false → has_repeat (drop n rs) ≡ false → has_repeat (drop (n - 1) rs) ≡ false
once_here rs n r h l is k o = subst (λ ss. has_repeat ss ≡ false) (sym (back rs n r h l is)) (none_here (list_any (λ s. same_ref s r) (drop n rs)) (has_repeat (drop n rs)) k o)

pub among_here : (rs : List OutputRef) (n : ℕ) (r q : OutputRef) → 0 < n → n ≤ length rs → r ≡ get_or rs (n - 1) r → (if same_ref r q then true else list_any (λ s. same_ref s q) (drop n rs)) ≡ list_any (λ s. same_ref s q) (drop (n - 1) rs)
among_here rs n r q h l is = either (same_ref r q) (list_any (λ s. same_ref s q) (drop n rs)) ∙ ap (list_any (λ s. same_ref s q)) (sym (back rs n r h l is))
  where
    either : (a b : Bool) → (if a then true else b) ≡ a || b
    either true b = refl
    either false b = refl

-- ---- sets of references

pub agree : (eq : OutputRef → OutputRef → Bool) → ((i j : ℕ) → eq (Genesis i) (Genesis j) ≡ (i == j)) → ((n m : List ℕ) (i j : ℕ) → eq (Made n i) (Made m j) ≡ same_bytes n m && (i == j)) →
    ((i j : ℕ) (m : List ℕ) → eq (Genesis i) (Made m j) ≡ false) → ((i j : ℕ) (n : List ℕ) → eq (Made n i) (Genesis j) ≡ false) → (a b : OutputRef) → eq a b ≡ same_ref a b
agree eq g m x y (Genesis i) (Genesis j) = g i j
agree eq g m x y (Made n i) (Made k j) = m n k i j
agree eq g m x y (Genesis i) (Made k j) = x i j k
agree eq g m x y (Made n i) (Genesis j) = y i j n

any_as : (p q : OutputRef → Bool) → ((a : OutputRef) → p a ≡ q a) → (rs : List OutputRef) → list_any p rs ≡ list_any q rs
any_as p q f [] = refl
any_as p q f (r ∷ rs) = ap (λ b. b || list_any p rs) (f r) ∙ ap (λ b. q r || b) (any_as p q f rs)

pub moved : (eq : OutputRef → OutputRef → Bool) → ((a b : OutputRef) → eq a b ≡ same_ref a b) → (new old : List OutputRef) (k r : OutputRef) →
    list_any (eq r) new ≡ (if eq k r then true else list_any (eq r) old) → list_any (same_ref r) new ≡ (if same_ref k r then true else list_any (same_ref r) old)
moved eq f new old k r h =
    sym (any_as (eq r) (same_ref r) (f r) new) ∙ h ∙ ap (λ b. if b then true else list_any (eq r) old) (f k r) ∙ ap (λ b. if same_ref k r then true else b) (any_as (eq r) (same_ref r) (f r) old)
