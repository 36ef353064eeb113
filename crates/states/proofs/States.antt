-- The laws of states.
use Rattle.std.proofs.Common.{◌≡◌, ◌≢◌, true, false, cond, List, [], ◌∷◌, Some, refl, ap, ◌∙◌, subst, All}
use Rattle.std.proofs.Math.Dec.{T}
use Rattle.std.specs.declared.cmp.Ordering.{Ordering}
use Rattle.std.specs.declared.cmp.Ordering.TheVariants.{Less, Equal, Greater}
use Rattle.std.specs.Ordering.{is_eq, eq_by_cmp}
use Rattle.std.specs.Cmp.{IsTotalOrder, tied_itself}
use Rattle.std.specs.FinMap.{FinMap, entries_sorted, get, insert, get-insert}
use Rattle.std.specs.FinMap.Entries.{below_all, is_sorted}
use Rattle.std.proofs.lemmas.List.Elements.{All-nil, All-cons}
use Rattle.std.proofs.lemmas.Map.Lookups.{CmpEqualImpliesEq}
use Rattle.names.proofs.FromCollections.Places.{second, below_head, below_tail}
use Rattle.names.specs.Orders.{account_cmp}
use Rattle.names.specs.Totals.{account_total, choice_id_total, bytes_total}
use Rattle.names.proofs.Exact.{account_exact, choice_id_exact, bytes_exact}
use Rattle.states.specs.States.{money_of}
use Rattle.states.specs.Laws.{MoneyIsFound, OtherMoneyStays, ChoiceIsFound, OtherChoicesStay, BoundValueIsFound, OtherBoundValuesStay, FirstAccountIsLeast, OthersAreLeft, TotalFollowsSet}
use Rattle.states.proofs.Accounts.{money_of-with_money, total_of-with_money, entries-refund}

module _ {K : Type 0} {R : K → K → Ordering} (o : IsTotalOrder R) where
  itself : (k : K) → eq_by_cmp R k k ≡ true
  itself k = ap is_eq (tied_itself o k)

  others : CmpEqualImpliesEq R → (a b : K) → a ≢ b → eq_by_cmp R a b ≡ false
  others exact a b ne = elim (R a b) as (λ r. R a b ≡ r → is_eq r ≡ false) [
    | Less ↦ λ e. refl
    | Equal ↦ λ e. absurd (ne (exact a b e))
    | Greater ↦ λ e. refl
  ] refl

  found : {X : Type 0} (m : FinMap R X) (k : K) (v : X) → get (insert m k v) k ≡ Some v
  found m k v = get-insert o m k v k ∙ ap (λ b. cond b (Some v) (get m k)) (itself k)

  stays : {X : Type 0} → CmpEqualImpliesEq R → (m : FinMap R X) (k : K) (v : X) (q : K) → q ≢ k → get (insert m k v) q ≡ get m q
  stays exact m k v q ne = get-insert o m k v q ∙ ap (λ b. cond b (Some v) (get m q)) (others exact q k ne)

pub money_is_found : MoneyIsFound
money_is_found s a v = money_of-with_money s a v a ∙ ap (λ b. cond b v (money_of s a)) (itself account_total a)

pub other_money_stays : OtherMoneyStays
other_money_stays s a v b ne = money_of-with_money s a v b ∙ ap (λ c. cond c v (money_of s b)) (others account_total account_exact b a ne)

pub choice_is_found : ChoiceIsFound
choice_is_found s id n = found choice_id_total s.choices id n

pub other_choices_stay : OtherChoicesStay
other_choices_stay s id n other ne = stays choice_id_total choice_id_exact s.choices id n other ne

pub bound_value_is_found : BoundValueIsFound
bound_value_is_found s name v = found bytes_total s.bound_values name v

pub other_bound_values_stay : OtherBoundValuesStay
other_bound_values_stay s name v other ne = stays bytes_total bytes_exact s.bound_values name v other ne

below : {K X : Type 0} (R : K → K → Ordering) (k : K) (es : List (K × X)) → T (below_all R k es) → All (λ e. R k e.0 ≡ Less) es
below R k [] h = All-nil _
below R k (e ∷ es) h = All-cons (λ x. R k x.0 ≡ Less) e es (below_head R k e es h) (below R k es (below_tail R k e es h))

pub first_account_is_least : FirstAccountIsLeast
first_account_is_least s e es is = below account_cmp e.0 es (second _ _ (subst (λ xs. T (is_sorted account_cmp xs)) is (entries_sorted s.accounts)))

pub others_are_left : OthersAreLeft
others_are_left s e es is = entries-refund s e es is

pub total_follows_set : TotalFollowsSet
total_follows_set t s a v = total_of-with_money t s a v
