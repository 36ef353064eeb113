-- Each test of sameness passes exactly for equal values.
use Rattle.std.proofs.Common.{◌≡◌, true, refl, ap, sym, ◌∙◌}
use Rattle.std.specs.Bool.{Decides}
use Rattle.std.specs.declared.cmp.Ordering.{Ordering}
use Rattle.std.specs.declared.cmp.Ordering.TheVariants.{Less, Equal, Greater}
use Rattle.std.specs.Ordering.{is_eq, eq_by_cmp}
use Rattle.std.specs.Cmp.{IsTotalOrder, tied_itself}
use Rattle.std.proofs.lemmas.Map.Lookups.{CmpEqualImpliesEq}
use Rattle.std.proofs.lemmas.Slice.Eq.{bytes_eq-Decides}
use Rattle.names.specs.declared.token.Token.{Token}
use Rattle.names.specs.Equal.{same_bytes, same_text, same_party, same_token, same_choice_id, ada, is_ada}
use Rattle.names.specs.Laws.{TellsApart}
use Rattle.names.specs.Orders.{token_cmp}
use Rattle.names.specs.Totals.{party_total, token_total, choice_id_total}
use Rattle.names.proofs.Exact.{party_exact, token_exact, choice_id_exact}

-- the answer that passes is the tie
tied : (o : Ordering) → is_eq o ≡ true → o ≡ Equal
tied Less h = cc
tied Equal h = refl
tied Greater h = cc

-- a total order that ties equal values alone tells values apart
pub order_decides : {K : Type 0} (R : K → K → Ordering) → IsTotalOrder R → CmpEqualImpliesEq R → TellsApart (eq_by_cmp R)
order_decides R o exact x y = (λ h. exact x y (tied (R x y) h), λ e. ap (λ z. is_eq (R x z)) (sym e) ∙ ap is_eq (tied_itself o x))

pub same_bytes_decides : TellsApart same_bytes
same_bytes_decides = bytes_eq-Decides

pub same_text_decides : TellsApart same_text
same_text_decides = bytes_eq-Decides

pub same_party_decides : TellsApart same_party
same_party_decides = order_decides _ party_total party_exact

pub same_token_decides : TellsApart same_token
same_token_decides = order_decides token_cmp token_total token_exact

pub same_choice_id_decides : TellsApart same_choice_id
same_choice_id_decides = order_decides _ choice_id_total choice_id_exact

pub is_ada_decides : (t : Token) → Decides (is_ada t) (t ≡ ada)
is_ada_decides t = same_token_decides t ada
