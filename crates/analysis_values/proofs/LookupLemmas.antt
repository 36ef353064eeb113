-- Entries by their keys.
use Rattle.std.proofs.Common.{◌≡◌, ℕ, zero, suc, ◌<◌, true, false, cond, List, [], ◌∷◌, drop, length, get_or, refl, sym, ap, arith, Some, None}
use Rattle.std.specs.declared.cmp.Ordering.{Ordering}
use Rattle.std.specs.Ordering.{eq_by_cmp}
use Rattle.std.specs.FinMap.Entries.{find}
use Rattle.linear.specs.Linear.{Linear}

module _ {K : Type 0} (R : K → K → Ordering) (x : K) where
  pub skips : (es : List (K × Linear)) (i : ℕ) (d : K × Linear) → i < length es → eq_by_cmp R x (get_or es i d).0 ≡ false → find R x (drop (suc i) es) ≡ find R x (drop i es)
  skips [] i d h e = absurd (omega arith)
  skips (y ∷ es) zero d h e = sym (ap (λ b. cond b (Some y.1) (find R x es)) e)
  skips (y ∷ es) (suc i) d h e = skips es i d (omega arith) e

  pub hits : (es : List (K × Linear)) (i : ℕ) (d : K × Linear) → i < length es → eq_by_cmp R x (get_or es i d).0 ≡ true → find R x (drop i es) ≡ Some (get_or es i d).1
  hits [] i d h e = absurd (omega arith)
  hits (y ∷ es) zero d h e = ap (λ b. cond b (Some y.1) (find R x es)) e
  hits (y ∷ es) (suc i) d h e = hits es i d (omega arith) e

  pub ends : (es : List (K × Linear)) (i : ℕ) → i ≡ length es → find R x (drop i es) ≡ None
  ends [] zero e = refl
  ends [] (suc i) e = absurd (omega arith)
  ends (y ∷ es) zero e = absurd (omega arith)
  ends (y ∷ es) (suc i) e = ends es i (omega arith)
