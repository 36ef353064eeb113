-- The orders of holders and of holdings are total, and what they tie is of one holder and one token.
use Rattle.std.proofs.Common.{◌≡◌, ℕ, List, refl, ap, ◌∙◌, arith}
use Rattle.std.proofs.lemmas.Bool.Decides.{nat_tests}
use Rattle.std.proofs.lemmas.Map.Lookups.{CmpEqualImpliesEq}
use Rattle.std.specs.Cmp.{IsTotalOrder, on_total, then_total, nat_cmp_total}
use Rattle.std.specs.Ordering.{nat_cmp, ordering_then}
use Rattle.std.specs.declared.cmp.Ordering.{Ordering}
use Rattle.std.specs.declared.cmp.Ordering.TheVariants.{Less, Equal, Greater}
use Rattle.eutxo.specs.Names.Orders.{bytes_cmp, token_cmp}
use Rattle.eutxo.specs.Names.Totals.{bytes_total, token_total}
use Rattle.eutxo.proofs.FromNames.Exact.{bytes_exact, token_exact}
use Rattle.play_holdings.specs.declared.holder.Holder.{Holder}
use Rattle.play_holdings.specs.declared.holder.Holder.TheVariants.{Address, Payout, Thread, Elsewhere}
use Rattle.play_holdings.specs.declared.holding.Holding.{Holding}
use Rattle.play_holdings.specs.Holders.{kind_of, currency_of, name_of, place_of, holder_cmp, holding_cmp}

holder_total : IsTotalOrder holder_cmp
holder_total = then_total (then_total (then_total (on_total kind_of nat_cmp_total) (on_total currency_of bytes_total)) (on_total name_of bytes_total)) (on_total place_of nat_cmp_total)

pub holding_total : IsTotalOrder holding_cmp
holding_total = then_total (on_total (λ (h : Holding). h.holder) holder_total) (on_total (λ (h : Holding). h.token) token_total)

both_equal : (x y : Ordering) → ordering_then x y ≡ Equal → (x ≡ Equal) × (y ≡ Equal)
both_equal Less y h = cc
both_equal Equal y h = (refl, h)
both_equal Greater y h = cc

record AreTied (a b : Holder) : Type 0 where
  pub kind : nat_cmp (kind_of a) (kind_of b) ≡ Equal
  pub currency : currency_of a ≡ currency_of b
  pub name : name_of a ≡ name_of b
  pub place : place_of a ≡ place_of b

same_number : (n m : ℕ) → nat_cmp n m ≡ Equal → n ≡ m
same_number n m h = grind (arith, nat_tests)

tied : (a b : Holder) → holder_cmp a b ≡ Equal → AreTied a b
tied a b h =
    let k = nat_cmp (kind_of a) (kind_of b) in
    let c = bytes_cmp (currency_of a) (currency_of b) in
    let n = bytes_cmp (name_of a) (name_of b) in
    let x = both_equal (ordering_then (ordering_then k c) n) (nat_cmp (place_of a) (place_of b)) h in
    let y = both_equal (ordering_then k c) n x.0 in
    let z = both_equal k c y.0 in
    record { kind = z.0; currency = bytes_exact _ _ z.1; name = bytes_exact _ _ y.1; place = same_number _ _ x.1 }

same_payout : (c d r s : List ℕ) → c ≡ d → r ≡ s → Payout c r ≡ Payout d s
same_payout c d r s e f = cc

same_holder : (a b : Holder) → AreTied a b → a ≡ b
same_holder (Address a) (Address b) h = ap Address h.name
same_holder (Payout c r) (Payout d s) h = same_payout c d r s h.currency h.name
same_holder (Thread n) (Thread m) h = ap Thread h.place
same_holder Elsewhere Elsewhere h = refl
same_holder (Address a) (Payout d s) h = let k : Less ≡ Equal = h.kind in cc
same_holder (Address a) (Thread m) h = let k : Less ≡ Equal = h.kind in cc
same_holder (Address a) Elsewhere h = let k : Less ≡ Equal = h.kind in cc
same_holder (Payout c r) (Address b) h = let k : Greater ≡ Equal = h.kind in cc
same_holder (Payout c r) (Thread m) h = let k : Less ≡ Equal = h.kind in cc
same_holder (Payout c r) Elsewhere h = let k : Less ≡ Equal = h.kind in cc
same_holder (Thread n) (Address b) h = let k : Greater ≡ Equal = h.kind in cc
same_holder (Thread n) (Payout d s) h = let k : Greater ≡ Equal = h.kind in cc
same_holder (Thread n) Elsewhere h = let k : Less ≡ Equal = h.kind in cc
same_holder Elsewhere (Address b) h = let k : Greater ≡ Equal = h.kind in cc
same_holder Elsewhere (Payout d s) h = let k : Greater ≡ Equal = h.kind in cc
same_holder Elsewhere (Thread m) h = let k : Greater ≡ Equal = h.kind in cc

-- what is tied is of one holder and one token
pub same_parts : (a b : Holding) → holding_cmp a b ≡ Equal → (a.holder ≡ b.holder) × (a.token ≡ b.token)
same_parts a b h =
    let p = both_equal (holder_cmp a.holder b.holder) (token_cmp a.token b.token) h in
    (same_holder a.holder b.holder (tied a.holder b.holder p.0), token_exact a.token b.token p.1)
