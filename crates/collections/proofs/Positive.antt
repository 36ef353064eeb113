-- Edits that keep each amount above 0, and what is found where each is.
use Rattle.std.proofs.Common.{ℤ, pos, ◌<ℤ◌, ◌≤ℤ◌, Bool, true, false, cond, List, [], ◌∷◌, Some, arith}
use Rattle.std.proofs.lemmas.Int.{ints}
use Rattle.std.specs.Option.{unwrap_or}
use Rattle.std.specs.Ordering.{is_eq}
use Rattle.std.specs.declared.cmp.Ordering.{Ordering}
use Rattle.std.specs.declared.cmp.Ordering.TheVariants.{Less, Equal, Greater}
use Rattle.std.specs.FinMap.Entries.{find, put, by_order, where_key}
use Rattle.collections.specs.Positive.{AllPositive}

at_least : (n : ℤ) → pos 0 <ℤ n → pos 0 ≤ℤ n
at_least n h = omega (arith, ints)

none_held : pos 0 ≤ℤ pos 0
none_held = omega (arith, ints)

module _ {K : Type 0} (R : K → K → Ordering) where
  -- an amount above 0 is put in its place
  pub AllPositive-put : (k : K) (v : ℤ) (es : List (K × ℤ)) → pos 0 <ℤ v → AllPositive es → AllPositive (put R k v es)
  AllPositive-put k v [] p h = (p, tt)
  AllPositive-put k v (e ∷ es) p h =
      elim (R k e.0) as (λ o. AllPositive (by_order o ((k, v) ∷ e ∷ es) ((e.0, v) ∷ es) (e ∷ put R k v es))) [
        | Less ↦ (p, h)
        | Equal ↦ (p, h.1)
        | Greater ↦ (h.0, AllPositive-put k v es p h.1)
      ]

  -- some of the entries
  pub AllPositive-where_key : (p : K → Bool) (es : List (K × ℤ)) → AllPositive es → AllPositive (where_key R p es)
  AllPositive-where_key p [] h = tt
  AllPositive-where_key p (e ∷ es) h =
      let rest = AllPositive-where_key p es h.1 in
      elim (p e.0) as (λ b. AllPositive (cond b (e ∷ where_key R p es) (where_key R p es))) [ true ↦ (h.0, rest) | false ↦ rest ]

  -- what is found, or 0
  pub AllPositive-find : (k : K) (es : List (K × ℤ)) → AllPositive es → pos 0 ≤ℤ unwrap_or (find R k es) (pos 0)
  AllPositive-find k [] h = none_held
  AllPositive-find k (e ∷ es) h =
      elim (is_eq (R k e.0)) as (λ b. pos 0 ≤ℤ unwrap_or (cond b (Some e.1) (find R k es)) (pos 0)) [ true ↦ at_least e.1 h.0 | false ↦ AllPositive-find k es h.1 ]
