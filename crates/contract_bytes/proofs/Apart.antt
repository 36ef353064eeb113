-- Spellings that tell their values apart, and numbers, times, texts and lists among them.
use Rattle.std.proofs.Common.{◌≡◌, refl, sym, ◌∙◌, ap, ℕ, ℤ, zero, suc, ◌+◌, ◌*◌, ◌/◌, ◌%◌, ◌^◌, ◌<◌, false, eqb, List, [], ◌∷◌, ◌++◌, length, append_assoc, arith, of_z, to_z}
use Rattle.std.proofs.Math.Nat.{pow-suc, mod-eq_of_lt}
use Rattle.std.proofs.Math.Arith.{mod-mul}
use Rattle.std.proofs.Math.Facts.{to_z-of_z, Fits-of_z}
use Rattle.std.proofs.lemmas.List.{append-nil}
use Rattle.std.proofs.lemmas.List.Elements.{All-head, All-tail}
use Rattle.std.specs.Int.{w64, w128, bytes_high_first}
use Rattle.std.specs.List.{All, flat_map}
use Rattle.contract_bytes.specs.Numbers.{length_bytes, number_bytes, time_bytes, text_bytes, list_bytes, NumberFits, TimeFits, TextFits, ListFits}
use Rattle.contract_bytes.specs.Unambiguous.{ReadsOneWay, BeginsNoOther}

-- what begins with both a and b shows P, and goes on alike
pub record Tells (P : Type 0) (a b : List ℕ) : Type 0 where
  pub tells : (r q : List ℕ) → a ++ r ≡ b ++ q → P × (r ≡ q)

pub shows : {P Q : Type 0} {a b : List ℕ} → (P → Q) → Tells P a b → Tells Q a b
shows f h = record { tells = λ r q e. let both = h.tells r q e in (f both.0, both.1) }

pub nothing : {P : Type 0} → P → Tells P [] []
nothing p = record { tells = λ r q e. (p, e) }

pub then_if : {P Q : Type 0} {a b c d : List ℕ} → Tells P a b → (P → Tells Q c d) → Tells (P × Q) (a ++ c) (b ++ d)
then_if {a} {b} {c} {d} first second = record {
  tells = λ r q e.
      let one = first.tells (c ++ r) (d ++ q) (sym (append_assoc a c r) ∙ e ∙ append_assoc b d q) in
      let two = (second one.0).tells r q one.1 in
      ((one.0, two.0), two.1);
}

pub both : {P Q : Type 0} {a b c d : List ℕ} → Tells P a b → Tells Q c d → Tells (P × Q) (a ++ c) (b ++ d)
both first second = then_if first (λ p. second)

pub tagged : {P : Type 0} {a b : List ℕ} {t u : ℕ} → Tells P a b → Tells P (t ∷ a) (u ∷ b)
tagged {a} {b} {t} {u} h = record { tells = λ r q e. let tail : a ++ r ≡ b ++ q = cc in h.tells r q tail }

pub other : {P : Type 0} {a b : List ℕ} {t u : ℕ} → eqb t u ≡ false → Tells P (t ∷ a) (u ∷ b)
other {a} {b} {t} {u} h = record { tells = λ r q e. let head : t ≡ u = cc in absurd (grind (arith, h, head)) }

-- ---- numbers

base_pos : (k : ℕ) → 0 < 256 ^ k
base_pos zero = omega arith
base_pos (suc k) = rw (pow-suc 256 k) (omega (arith, base_pos k))

-- the lowest k + 2 bytes of m, and of n
more_digits : (k m n : ℕ) → m / 256 ^ suc k % 256 ≡ n / 256 ^ suc k % 256 → m % 256 ^ suc k ≡ n % 256 ^ suc k → m % 256 ^ suc (suc k) ≡ n % 256 ^ suc (suc k)
more_digits k m n high low =
    let whole : (j : ℕ) → j % 256 ^ suc (suc k) ≡ j / 256 ^ suc k % 256 * 256 ^ suc k + j % 256 ^ suc k = λ j. ap (λ p. j % p) (pow-suc 256 (suc k) ∙ omega arith) ∙ mod-mul j {m = 256} {c = 256 ^ suc k} (omega arith) (base_pos (suc k)) in
    whole m ∙ (λ i. high i * 256 ^ suc k + low i) ∙ sym (whole n)

pub word : (k m n : ℕ) → Tells (m % 256 ^ k ≡ n % 256 ^ k) (bytes_high_first k m) (bytes_high_first k n)
word zero m n = nothing (omega arith)
word (suc zero) m n = record { tells = λ r q e. let head : m % 256 ≡ n % 256 = cc in let tail : r ≡ q = cc in (head, tail) }
word (suc (suc k)) m n = record {
  tells = λ r q e.
      let head : m / 256 ^ suc k % 256 ≡ n / 256 ^ suc k % 256 = cc in
      let tail : bytes_high_first (suc k) m ++ r ≡ bytes_high_first (suc k) n ++ q = cc in
      let rest = (word (suc k) m n).tells r q tail in
      (more_digits k m n head rest.0, rest.1);
}

pub length_tells : (m n : ℕ) → m < 2 ^ 64 → n < 2 ^ 64 → Tells (m ≡ n) (length_bytes m) (length_bytes n)
unfolding length_bytes
length_tells m n f g = shows (λ e. sym (mod-eq_of_lt f) ∙ e ∙ mod-eq_of_lt g) (word 8 m n)

pub number_tells : (m n : ℤ) → NumberFits m → NumberFits n → Tells (m ≡ n) (number_bytes m) (number_bytes n)
unfolding number_bytes
number_tells m n f g = shows (λ e. sym (to_z-of_z f) ∙ ap (to_z w128) (sym (mod-eq_of_lt (Fits-of_z f).fits) ∙ e ∙ mod-eq_of_lt (Fits-of_z g).fits) ∙ to_z-of_z g) (word 16 (of_z w128 m) (of_z w128 n))

pub time_tells : (m n : ℤ) → TimeFits m → TimeFits n → Tells (m ≡ n) (time_bytes m) (time_bytes n)
unfolding time_bytes
time_tells m n f g = shows (λ e. sym (to_z-of_z f) ∙ ap (to_z w64) (sym (mod-eq_of_lt (Fits-of_z f).fits) ∙ e ∙ mod-eq_of_lt (Fits-of_z g).fits) ∙ to_z-of_z g) (word 8 (of_z w64 m) (of_z w64 n))

-- ---- texts and lists

pub of_one_length : (x y : List ℕ) → length x ≡ length y → Tells (x ≡ y) x y
of_one_length [] [] h = nothing refl
of_one_length [] (b ∷ y) h = absurd (omega (arith, h))
of_one_length (a ∷ x) [] h = absurd (omega (arith, h))
of_one_length (a ∷ x) (b ∷ y) h = record {
  tells = λ r q e.
      let head : a ≡ b = cc in
      let tail : x ++ r ≡ y ++ q = cc in
      let rest = (of_one_length x y (omega (arith, h))).tells r q tail in
      ((λ i. head i ∷ rest.0 i), rest.1);
}

pub text_tells : (x y : List ℕ) → TextFits x → TextFits y → Tells (x ≡ y) (text_bytes x) (text_bytes y)
text_tells x y f g = shows (λ p. p.1) (then_if (length_tells (length x) (length y) f g) (of_one_length x y))

each_tells : {X : Type 0} (Fits : X → Type 0) (spelling : X → List ℕ) → ((x y : X) → Fits x → Fits y → Tells (x ≡ y) (spelling x) (spelling y))
    → (xs ys : List X) → length xs ≡ length ys → All Fits xs → All Fits ys → Tells (xs ≡ ys) (flat_map spelling xs) (flat_map spelling ys)
each_tells Fits spelling one [] [] h f g = nothing refl
each_tells Fits spelling one [] (y ∷ ys) h f g = absurd (omega (arith, h))
each_tells Fits spelling one (x ∷ xs) [] h f g = absurd (omega (arith, h))
each_tells Fits spelling one (x ∷ xs) (y ∷ ys) h f g =
    shows (λ p. λ i. p.0 i ∷ p.1 i)
    (both (one x y (All-head Fits x xs f) (All-head Fits y ys g)) (each_tells Fits spelling one xs ys (omega (arith, h)) (All-tail Fits x xs f) (All-tail Fits y ys g)))

pub list_tells : {X : Type 0} (Fits : X → Type 0) (spelling : X → List ℕ) → ((x y : X) → Fits x → Fits y → Tells (x ≡ y) (spelling x) (spelling y))
    → (xs ys : List X) → ListFits Fits xs → ListFits Fits ys → Tells (xs ≡ ys) (list_bytes spelling xs) (list_bytes spelling ys)
list_tells Fits spelling one xs ys f g =
    shows (λ p. p.1) (then_if (length_tells (length xs) (length ys) f.0 g.0) (λ e. each_tells Fits spelling one xs ys e f.1 g.1))

-- ---- the law

pub reads_one_way : {X : Type 0} (Fits : X → Type 0) (spelling : X → List ℕ) → ((x y : X) → Fits x → Fits y → Tells (x ≡ y) (spelling x) (spelling y)) → ReadsOneWay Fits spelling
reads_one_way Fits spelling one x y f g r q e = (one x y f g).tells r q e

pub begins_no_other : {X : Type 0} (Fits : X → Type 0) (spelling : X → List ℕ) → ReadsOneWay Fits spelling → BeginsNoOther Fits spelling
begins_no_other Fits spelling one x y f g rest e = (one x y f g rest [] (e ∙ sym (append-nil (spelling y)))).0
