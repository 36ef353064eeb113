-- Edits that keep each amount above 0, and what is found where each is.
use Rattle.std.proofs.Common.{ℤ, pos, ◌<ℤ◌, ◌≤ℤ◌, Bool, true, false, cond, List, [], ◌∷◌, Option, Some, None, sym, subst, arith}
use Rattle.std.proofs.lemmas.Int.{ints}
use Rattle.std.specs.Option.{unwrap_or}
use Rattle.std.specs.Ordering.{is_eq}
use Rattle.std.specs.declared.cmp.Ordering.TheVariants.{Less, Equal, Greater}
use Rattle.std.specs.FinMap.{entries, get-entries}
use Rattle.std.specs.FinMap.Entries.{find, put, by_order, where_key}
use Rattle.names.specs.declared.token.Token.{Token}
use Rattle.names.specs.Orders.{token_cmp}
use Rattle.bundle.specs.Bundles.{Amounts, amount_of, AllPositive}

pub AllPositive-put : (k : Token) (v : ℤ) (es : List (Token × ℤ)) → pos 0 <ℤ v → AllPositive es → AllPositive (put token_cmp k v es)
AllPositive-put k v [] p h = (p, tt)
AllPositive-put k v (e ∷ es) p h =
    elim (token_cmp k e.0) as (λ o. AllPositive (by_order o ((k, v) ∷ e ∷ es) ((e.0, v) ∷ es) (e ∷ put token_cmp k v es))) [
      | Less ↦ (p, h)
      | Equal ↦ (p, h.1)
      | Greater ↦ (h.0, AllPositive-put k v es p h.1)
    ]

pub AllPositive-where_key : (p : Token → Bool) (es : List (Token × ℤ)) → AllPositive es → AllPositive (where_key token_cmp p es)
AllPositive-where_key p [] h = tt
AllPositive-where_key p (e ∷ es) h =
    let rest = AllPositive-where_key p es h.1 in
    elim (p e.0) as (λ b. AllPositive (cond b (e ∷ where_key token_cmp p es) (where_key token_cmp p es))) [ true ↦ (h.0, rest) | false ↦ rest ]

-- an amount that is found is above 0
abbrev pub FoundPositive : Option ℤ → Type 0
FoundPositive None = Unit {0}
FoundPositive (Some n) = pos 0 <ℤ n

pub AllPositive-find : (k : Token) (es : List (Token × ℤ)) → AllPositive es → FoundPositive (find token_cmp k es)
AllPositive-find k [] h = tt
AllPositive-find k (e ∷ es) h =
    elim (is_eq (token_cmp k e.0)) as (λ b. FoundPositive (cond b (Some e.1) (find token_cmp k es))) [ true ↦ h.0 | false ↦ AllPositive-find k es h.1 ]

at_least : (n : ℤ) → pos 0 <ℤ n → pos 0 ≤ℤ n
at_least n h = omega (arith, ints)

none_held : pos 0 ≤ℤ pos 0
none_held = omega (arith, ints)

pub natural : (o : Option ℤ) → FoundPositive o → pos 0 ≤ℤ unwrap_or o (pos 0)
natural None h = none_held
natural (Some n) h = at_least n h

-- what a bundle has of a token is 0 or more
pub amount_of-natural : (m : Amounts) (t : Token) → AllPositive (entries m) → pos 0 ≤ℤ amount_of m t
amount_of-natural m t h = natural _ (subst FoundPositive (sym (get-entries m t)) (AllPositive-find t (entries m) h))
