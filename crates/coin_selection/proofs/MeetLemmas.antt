-- What a bundle's entries leave of a need.
use Rattle.std.proofs.Common.{◌≡◌, ℤ, pos, ◌-ℤ◌, ◌<ℤ◌, int_lt, Bool, true, false, cond, if◌then◌else◌, List, [], ◌∷◌, Option, Some, None, refl, sym, ◌∙◌, ap, arith}
use Rattle.std.proofs.Math.Dec.{T}
use Rattle.std.proofs.lemmas.Int.{ints}
use Rattle.std.specs.Cmp.{eq_by_cmp_equiv}
use Rattle.std.specs.FinMap.{entries, entries_sorted, get-entries}
use Rattle.std.specs.FinMap.Entries.{find, is_sorted, below_all}
use Rattle.std.specs.Option.{unwrap_or, IfSome}
use Rattle.std.specs.Ordering.{eq_by_cmp, is_eq}
use Rattle.std.specs.declared.cmp.Ordering.TheVariants.{Less, Equal, Greater}
use Rattle.contract.proofs.FromCollections.Places.{second, third, below_head, below_tail, below_equal}
use Rattle.contract.specs.Names.declared.token.Token.{Token}
use Rattle.contract.specs.Names.Orders.{token_cmp}
use Rattle.contract.specs.Names.Totals.{token_total}
use Rattle.builder_spec.specs.Bundle.Bundles.{Amounts, amount_of}
use Rattle.coin_selection.specs.MissingSupport.{left, InRange}
use Rattle.coin_selection.specs.MeetSupport.{left_after}

turned : (a t : Token) (b : Bool) → eq_by_cmp token_cmp t a ≡ b → eq_by_cmp token_cmp a t ≡ b
turned a t b h = (eq_by_cmp_equiv token_total).symm a t ∙ h

skip : (o : Option ℤ) (t : Token) (e : Token × ℤ) (es : List (Token × ℤ)) → eq_by_cmp token_cmp t e.0 ≡ false → left_after o t (e ∷ es) ≡ left_after o t es
skip o t e es h = ap (λ b. left_after (if b then left o e.1 else o) t es) (turned e.0 t false h)

-- entries of later tokens leave it as it is
later : (o : Option ℤ) (t : Token) (es : List (Token × ℤ)) → T (below_all token_cmp t es) → left_after o t es ≡ o
later o t [] h = refl
later o t (e ∷ es) h = skip o t e es (ap is_eq (below_head token_cmp t e es h)) ∙ later o t es (below_tail token_cmp t e es h)

positive : (m : ℤ) → pos 0 <ℤ m → int_lt (pos 0) m ≡ true
positive m h = grind (arith, ints, h)

none_less : (m : ℤ) → m -ℤ pos 0 ≡ m
none_less m = omega (arith, ints)

-- nothing leaves it as it is
left_all : (o : Option ℤ) → IfSome o InRange → left o (pos 0) ≡ o
left_all None h = refl
left_all (Some m) h = ap (λ b. if b then Some (m -ℤ pos 0) else None) (positive m h.0) ∙ ap Some (none_less m)

after_sorted : (o : Option ℤ) (t : Token) (es : List (Token × ℤ)) → IfSome o InRange → T (is_sorted token_cmp es) → left_after o t es ≡ left o (unwrap_or (find token_cmp t es) (pos 0))
after_sorted o t [] h s = sym (left_all o h)
after_sorted o t (e ∷ es) h s =
    elim (token_cmp t e.0) as (λ r. token_cmp t e.0 ≡ r → left_after o t (e ∷ es) ≡ left o (unwrap_or (cond (is_eq r) (Some e.1) (find token_cmp t es)) (pos 0))) [
      | Less ↦ λ p. skip o t e es (ap is_eq p) ∙ after_sorted o t es h (third _ _ s)
      | Equal ↦ λ p. ap (λ b. left_after (if b then left o e.1 else o) t es) (turned e.0 t true (ap is_eq p)) ∙ later (left o e.1) t es (below_equal token_cmp t token_total e.0 es p (second _ _ s))
      | Greater ↦ λ p. skip o t e es (ap is_eq p) ∙ after_sorted o t es h (third _ _ s)
    ] refl

-- all of a bundle's entries together
pub after_all : (o : Option ℤ) (t : Token) (m : Amounts) → IfSome o InRange → left_after o t (entries m) ≡ left o (amount_of m t)
after_all o t m h = after_sorted o t (entries m) h (entries_sorted m) ∙ ap (λ p. left o (unwrap_or p (pos 0))) (sym (get-entries m t))
