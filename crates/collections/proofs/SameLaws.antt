-- The test `same_by` passes exactly for equal values, and is an equivalence.
use Rattle.std.proofs.Common.{◌≡◌, Bool, true, false, ◌&&◌, refl, sym, ap, subst}
use Rattle.std.specs.Bool.{Decides, one_answer}
use Rattle.std.specs.Cmp.{IsEquivalence, IsPartialEquivalence, partial_equiv_from_equiv, unsigned_Decides}
use base.Stored.{Coded, Gv, gnil, gnum, gcons}
use Rattle.collections.specs.Same.{same_code, same_by}

-- of two tests that pass together each passes
both : (a b : Bool) → (a && b) ≡ true → (a ≡ true) × (b ≡ true)
both true b h = (refl, h)
both false b h = cc

-- codes that pass are equal
pub same_code-so : (x y : Gv) → same_code x y ≡ true → x ≡ y
unfolding same_code
same_code-so gnil gnil h = refl
same_code-so (gnum m) (gnum n) h = ap gnum ((unsigned_Decides m n).0 h)
same_code-so (gcons a b) (gcons c d) h =
    let p = both _ _ h in
    let e = same_code-so a c p.0 in
    let f = same_code-so b d p.1 in cc
same_code-so gnil (gnum n) h = cc
same_code-so gnil (gcons c d) h = cc
same_code-so (gnum m) gnil h = cc
same_code-so (gnum m) (gcons c d) h = cc
same_code-so (gcons a b) gnil h = cc
same_code-so (gcons a b) (gnum n) h = cc

-- a code passes with itself
pub same_code-refl : (x : Gv) → same_code x x ≡ true
unfolding same_code
same_code-refl gnil = refl
same_code-refl (gnum m) = (unsigned_Decides m m).1 refl
same_code-refl (gcons a b) = rw (same_code-refl a, same_code-refl b) refl

-- `same_by` passes exactly for equal values
pub same_by_decides : {A : Type 0} (c : Coded A) (x y : A) → Decides (same_by c x y) (x ≡ y)
unfolding same_by
same_by_decides c x y = (
  λ h. c.inj x y (same_code-so (c.code x) (c.code y) h),
  λ e. subst (λ z. same_code (c.code x) (c.code z) ≡ true) e (same_code-refl (c.code x)),
)

-- `same_by` is an equivalence
pub same_by-equiv : {A : Type 0} (c : Coded A) → IsEquivalence (same_by c)
same_by-equiv c = record {
  refl = λ x. (same_by_decides c x x).1 refl;
  symm = λ x y. one_answer _ _ (same_by_decides c x y)
      ((λ h. sym ((same_by_decides c y x).0 h)), (λ e. (same_by_decides c y x).1 (sym e)));
  congr = λ x y z h. ap (λ v. same_by c v z) ((same_by_decides c x y).0 h);
}

-- `same_by` is a partial equivalence
pub same_by-partial : {A : Type 0} (c : Coded A) → IsPartialEquivalence (same_by c)
same_by-partial c = partial_equiv_from_equiv (same_by-equiv c)

-- a test that tells two values apart is `same_by`
pub same_by_from : {A : Type 0} (c : Coded A) (x y : A) (r : Bool) → Decides r (x ≡ y) → r ≡ same_by c x y
same_by_from c x y r d = one_answer r (same_by c x y) d (same_by_decides c x y)
