-- Ways and lanes.
use Rattle.std.proofs.Common.{◌≡◌, Bool, true, false, ◌&&◌, refl, sym, ap, ◌∙◌}
use Rattle.std.specs.declared.cmp.Ordering.{Ordering}
use Rattle.std.specs.declared.cmp.Ordering.TheVariants.{Less, Equal, Greater}
use Rattle.std.specs.Ordering.{is_eq, eq_by_cmp, ordering_then, ordering_reverse}
use Rattle.std.specs.Cmp.{Equal-is, tied_itself}
use Rattle.contract.specs.Names.Equal.{same_choice_id}
use Rattle.contract.specs.Names.declared.party.Party.{Party}
use Rattle.contract.specs.Names.declared.token.Token.{Token}
use Rattle.contract.specs.Names.declared.choice_id.ChoiceId.{ChoiceId}
use Rattle.contract.specs.Names.Orders.{party_cmp, token_cmp, choice_id_cmp}
use Rattle.semantics.specs.Applying.{agrees}
use Rattle.claims.specs.Claims.{IsLane}
use Rattle.next_inputs.specs.declared.lane.Lane.{Lane}
use Rattle.next_inputs.specs.Lanes.{Way, deposits, chooses, notifies, way, way_cmp, way_total, lane_cmp}
use Rattle.next_inputs.specs.Claiming.{is_way}

pub then_equal : (x : Ordering) → ordering_then x Equal ≡ x
then_equal Less = refl
then_equal Equal = refl
then_equal Greater = refl

eq_then : (x y : Ordering) → is_eq (ordering_then x y) ≡ is_eq x && is_eq y
eq_then Less y = refl
eq_then Equal y = refl
eq_then Greater y = refl

pub same_deposit : (a p : Party) (t : Token) (b q : Party) (u : Token) → eq_by_cmp way_cmp (deposits a p t) (deposits b q u) ≡ agrees a p t b q u
same_deposit a p t b q u =
    eq_then (party_cmp a b) (ordering_then (party_cmp p q) (token_cmp t u)) ∙ ap (λ z. is_eq (party_cmp a b) && z) (eq_then (party_cmp p q) (token_cmp t u))

and_true : (b : Bool) → b && true ≡ b
and_true true = refl
and_true false = refl

pub same_choice : (id jd : ChoiceId) → eq_by_cmp way_cmp (chooses id) (chooses jd) ≡ same_choice_id id jd
same_choice id jd = eq_then (choice_id_cmp id jd) Equal ∙ and_true (is_eq (choice_id_cmp id jd))

pub way_itself : (w : Way) → eq_by_cmp way_cmp w w ≡ true
way_itself w = ap is_eq (tied_itself way_total w)

tied : (v w : Way) → eq_by_cmp way_cmp v w ≡ true → way_cmp v w ≡ Equal
tied v w h = (Equal-is (way_cmp v w)).0 h

-- ways that the order takes for one are tested alike
pub tested_alike : (v w z : Way) → way_cmp w z ≡ Equal → eq_by_cmp way_cmp v w ≡ eq_by_cmp way_cmp v z
tested_alike v w z h =
    ap is_eq (way_total.antisymm v w ∙ (ap ordering_reverse (way_total.congr w z v h) ∙ sym (way_total.antisymm v z)))

pub both_tied : (v w z : Way) → eq_by_cmp way_cmp v w ≡ true → eq_by_cmp way_cmp v z ≡ true → way_cmp w z ≡ Equal
both_tied v w z h k = sym (way_total.congr v w z (tied v w h)) ∙ tied v z k

pub tested_back : (v w : Way) → eq_by_cmp way_cmp v w ≡ true → eq_by_cmp way_cmp w v ≡ true
tested_back v w h = ap is_eq (way_total.antisymm w v ∙ ap ordering_reverse (tied v w h))

-- a way that is tied to one is tested as it is
pub tested_for : (v w z : Way) → eq_by_cmp way_cmp v w ≡ true → eq_by_cmp way_cmp v z ≡ eq_by_cmp way_cmp w z
tested_for v w z h = ap is_eq (way_total.congr v w z (tied v w h))

pub way_lane : (w : Way) → IsLane lane_cmp (is_way w)
way_lane w = record { one = λ a b h k. both_tied w (way a) (way b) h k; whole = λ a b h. tested_alike w (way a) (way b) h }
