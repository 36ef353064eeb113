-- Bundles with the same amounts are the same.
use Rattle.std.proofs.Common.{◌≡◌, ℤ, pos, ◌<ℤ◌, Option, Some, None, refl, ap, sym, subst, arith}
use Rattle.std.proofs.lemmas.Int.{ints}
use Rattle.std.specs.Option.{unwrap_or}
use Rattle.std.specs.FinMap.{entries, get, get-entries, same_map}
use Rattle.names.specs.Totals.{token_total}
use Rattle.names.proofs.Exact.{token_exact}
use Rattle.bundle.specs.Laws.{AmountsTellApart}
use Rattle.bundle.proofs.PositiveLaws.{FoundPositive, AllPositive-find}

not_zero : (n : ℤ) → pos 0 <ℤ n → pos 0 ≡ n → ⊥
not_zero n h e = omega (arith, ints, h, e)

same_found : (o p : Option ℤ) → FoundPositive o → FoundPositive p → unwrap_or o (pos 0) ≡ unwrap_or p (pos 0) → o ≡ p
same_found None None h k e = refl
same_found None (Some n) h k e = absurd (not_zero n k e)
same_found (Some n) None h k e = absurd (not_zero n h (sym e))
same_found (Some n) (Some m) h k e = ap Some e

pub amounts_tell_apart : AmountsTellApart
amounts_tell_apart a b p q h = same_map token_total token_exact a b (λ t.
    same_found (get a t) (get b t)
    (subst FoundPositive (sym (get-entries a t)) (AllPositive-find t (entries a) p))
    (subst FoundPositive (sym (get-entries b t)) (AllPositive-find t (entries b) q))
    (h t))
