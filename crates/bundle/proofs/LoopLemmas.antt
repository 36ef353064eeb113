-- What the loops over another bundle's entries keep.
use Rattle.std.proofs.Common.{◌≡◌, ℤ, ◌+ℤ◌, ◌-ℤ◌, Bool, true, false, if◌then◌else◌, ◌||◌, List, ◌∷◌, Some, refl, sym, ◌∙◌, ap}
use Rattle.std.proofs.Math.Dec.{T}
use Rattle.std.specs.Prelude.{int_lt}
use Rattle.std.specs.FinMap.Entries.{is_sorted}
use Rattle.names.proofs.FromCollections.Places.{second, third}
use Rattle.names.specs.declared.token.Token.{Token}
use Rattle.names.specs.Orders.{token_cmp}
use Rattle.bundle.specs.Bundles.{Amounts, amount_of, with_amount, each, is_large, any_large, first_short, AllPositive}
use Rattle.bundle.proofs.CoverLaws.{AllCovered, covered_after, large_after}

-- what was changed so far, and what is left to change, make the whole
pub record IsAdding (held : Amounts) (all : List (Token × ℤ)) (sum : Amounts) (left : List (Token × ℤ)) : Type 0 where
  pub whole : each (λ m n. m +ℤ n) sum left ≡ each (λ m n. m +ℤ n) held all
  pub fits : any_large sum left ≡ false
  pub positive : AllPositive left
  pub sorted : T (is_sorted token_cmp left)

pub record IsTaking (held : Amounts) (all : List (Token × ℤ)) (rest : Amounts) (left : List (Token × ℤ)) : Type 0 where
  pub whole : each (λ m n. m -ℤ n) rest left ≡ each (λ m n. m -ℤ n) held all
  pub covered : AllCovered rest left
  pub positive : AllPositive left
  pub sorted : T (is_sorted token_cmp left)

none_of : (a b : Bool) → (a || b) ≡ false → (a ≡ false) × (b ≡ false)
none_of true b h = cc
none_of false b h = (refl, h)

pub now_fits : (held : Amounts) (all : List (Token × ℤ)) (sum : Amounts) (e : Token × ℤ) (es : List (Token × ℤ)) → IsAdding held all sum (e ∷ es) → is_large (amount_of sum e.0) e.1 ≡ false
now_fits held all sum e es h = (none_of _ _ h.fits).0

pub added : (held : Amounts) (all : List (Token × ℤ)) (sum : Amounts) (e : Token × ℤ) (es : List (Token × ℤ)) → IsAdding held all sum (e ∷ es) → IsAdding held all (with_amount sum e.0 (amount_of sum e.0 +ℤ e.1)) es
added held all sum e es h = record {
  whole = h.whole;
  fits = large_after sum e.0 (amount_of sum e.0 +ℤ e.1) es (second _ _ h.sorted) ∙ (none_of _ _ h.fits).1;
  positive = h.positive.1;
  sorted = third _ _ h.sorted;
}

pub taken : (held : Amounts) (all : List (Token × ℤ)) (rest : Amounts) (e : Token × ℤ) (es : List (Token × ℤ)) → IsTaking held all rest (e ∷ es) → IsTaking held all (with_amount rest e.0 (amount_of rest e.0 -ℤ e.1)) es
taken held all rest e es h = record {
  whole = h.whole;
  covered = covered_after rest e.0 (amount_of rest e.0 -ℤ e.1) es (second _ _ h.sorted) h.covered.1;
  positive = h.positive.1;
  sorted = third _ _ h.sorted;
}

-- what the first of the entries that are left decides
pub large_now : (m : Amounts) (e : Token × ℤ) (es : List (Token × ℤ)) → is_large (amount_of m e.0) e.1 ≡ true → any_large m (e ∷ es) ≡ true
large_now m e es h = ap (λ b. b || any_large m es) h

pub large_later : (m : Amounts) (e : Token × ℤ) (es : List (Token × ℤ)) → is_large (amount_of m e.0) e.1 ≡ false → any_large m es ≡ any_large m (e ∷ es)
large_later m e es h = sym (ap (λ b. b || any_large m es) h)

pub short_now : (m : Amounts) (e : Token × ℤ) (es : List (Token × ℤ)) → int_lt (amount_of m e.0) e.1 ≡ true → first_short m (e ∷ es) ≡ Some e.0
short_now m e es h = ap (λ b. if b then Some e.0 else first_short m es) h

pub short_later : (m : Amounts) (e : Token × ℤ) (es : List (Token × ℤ)) → int_lt (amount_of m e.0) e.1 ≡ false → first_short m es ≡ first_short m (e ∷ es)
short_later m e es h = sym (ap (λ b. if b then Some e.0 else first_short m es) h)
