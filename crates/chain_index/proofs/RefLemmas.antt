-- Equality of references, and lists of them.
use Rattle.std.proofs.Common.{◌≡◌, Bool, true, false, ◌&&◌, ◌||◌, List, [], ◌∷◌, ◌++◌, refl, sym, ◌∙◌, ap, subst}
use Rattle.std.specs.Prelude.{if◌then◌else◌}
use Rattle.std.proofs.lemmas.List.Folds.{list_any-append}
use Rattle.ledger_spec.specs.EutxoTypes.contracts.output_ref.OutputRefPartialEq.TheImpl.{ghosts}
use Rattle.ledger_spec.specs.EutxoTypes.declared.output_ref.OutputRef.{OutputRef}
use Rattle.ledger_spec.specs.EutxoTypes.declared.output_ref.OutputRef.TheVariants.{Genesis, Made}
use Rattle.ledger_spec.specs.EutxoTypes.Parts.{same_ref}
use Rattle.ledger_spec.proofs.FromLedgerLaws.ReferenceLaws.{same_ref_so, same_ref-refl}
use Rattle.chain_index.specs.Contents.{is_among}
use Rattle.chain_index.specs.HolesSupport.{with_key}

-- the code's equality is that of the rules
eq_is : (a b : OutputRef) → ghosts.eq a b ≡ same_ref a b
eq_is (Genesis i) (Genesis j) = refl
eq_is (Made n i) (Made k j) = refl
eq_is (Genesis i) (Made k j) = refl
eq_is (Made n i) (Genesis j) = refl

pub eq_same : ghosts.eq ≡ same_ref
eq_same = λ i a b. eq_is a b i

pub flips : (a b : OutputRef) → same_ref a b ≡ same_ref b a
flips a b = by (same_ref a b) (same_ref b a) refl refl
  where
    by : (x y : Bool) → same_ref a b ≡ x → same_ref b a ≡ y → x ≡ y
    by true true p q = refl
    by false false p q = refl
    by true false p q = sym (subst (λ (c : OutputRef). same_ref c a ≡ true) (same_ref_so a b p) (same_ref-refl a)) ∙ q
    by false true p q = sym p ∙ subst (λ (c : OutputRef). same_ref c b ≡ true) (same_ref_so b a q) (same_ref-refl b)

-- ---- tests

pub and_none : (b : Bool) → b && false ≡ false
and_none true = refl
and_none false = refl

pub and_one : (b : Bool) → b && true ≡ b
and_one true = refl
and_one false = refl

pub or_none : (b : Bool) → b || false ≡ b
or_none true = refl
or_none false = refl

pub flip_or : (a b : Bool) → a || b ≡ b || a
flip_or true true = refl
flip_or true false = refl
flip_or false true = refl
flip_or false false = refl

pub or_left : (a b : Bool) → a ≡ true → a || b ≡ true
or_left true b h = refl
or_left false b h = cc

pub or_elim : {R : Type 0} (a b : Bool) → a || b ≡ true → (a ≡ true → R) → (b ≡ true → R) → R
or_elim true b h f g = f refl
or_elim false b h f g = g h

-- ---- among references

pub among_more : (rs : List OutputRef) (r q : OutputRef) → is_among (rs ++ r ∷ []) q ≡ is_among rs q || same_ref r q
among_more rs r q = list_any-append (same_ref q) rs (r ∷ []) ∙ ap (λ (b : Bool). is_among rs q || b) (or_none (same_ref q r) ∙ flips q r)

-- with one more, unless it is there already
pub among_with : (rs : List OutputRef) (r q : OutputRef) → is_among (with_key rs r) q ≡ (same_ref r q || is_among rs q)
among_with rs r q = by (is_among rs r) refl
  where
    or_same : (a b : Bool) → (b ≡ true → a ≡ true) → a ≡ (b || a)
    or_same true true h = refl
    or_same true false h = refl
    or_same false true h = h refl
    or_same false false h = refl

    by : (b : Bool) → is_among rs r ≡ b → is_among (if b then rs else rs ++ r ∷ []) q ≡ (same_ref r q || is_among rs q)
    by true p = or_same (is_among rs q) (same_ref r q) (λ h. ap (is_among rs) (sym (same_ref_so r q h)) ∙ p)
    by false p = among_more rs r q ∙ flip_or (is_among rs q) (same_ref r q)

-- a new one goes last
pub with_new : (rs : List OutputRef) (r : OutputRef) → is_among rs r ≡ false → with_key rs r ≡ rs ++ r ∷ []
with_new rs r h = ap (λ (b : Bool). if b then rs else rs ++ r ∷ []) h
