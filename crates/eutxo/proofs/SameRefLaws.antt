-- References are the same where the test says so.
use Rattle.std.proofs.Common.{◌≡◌, ℕ, Bool, true, false, ◌&&◌, List, ap, refl}
use Rattle.std.specs.Prelude.{◌==◌}
use Rattle.std.specs.Cmp.Lexicographic.{bytes_decides}
use Rattle.std.proofs.lemmas.Bool.{eqb-true, eq-eqb}
use Rattle.eutxo_types.specs.declared.output_ref.OutputRef.{OutputRef}
use Rattle.eutxo_types.specs.declared.output_ref.OutputRef.TheVariants.{Genesis, Made}
use Rattle.eutxo_types.specs.Parts.{same_bytes, same_ref}

both_true : (a b : Bool) → a && b ≡ true → (a ≡ true) × (b ≡ true)
both_true true b h = (refl, h)
both_true false b h = cc

both : (a b : Bool) → a ≡ true → b ≡ true → (a && b) ≡ true
both true b p q = q
both false b p q = cc

pub same_ref_so : (a b : OutputRef) → same_ref a b ≡ true → a ≡ b
same_ref_so (Genesis i) (Genesis j) h = ap (λ (k : ℕ). Genesis k) (eqb-true i j h)
same_ref_so (Made n i) (Made k j) h =
    let p = both_true (same_bytes n k) (i == j) h in
    let e : n ≡ k = (bytes_decides n k).0 p.0 in
    let f : i ≡ j = eqb-true i j p.1 in
    cc
same_ref_so (Genesis i) (Made k j) h = cc
same_ref_so (Made n i) (Genesis j) h = cc

pub same_ref-refl : (a : OutputRef) → same_ref a a ≡ true
same_ref-refl (Genesis i) = eq-eqb i i refl
same_ref-refl (Made n i) = both (same_bytes n n) (i == i) ((bytes_decides n n).1 refl) (eq-eqb i i refl)
