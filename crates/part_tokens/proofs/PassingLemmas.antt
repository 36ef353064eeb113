-- Values that are passed over, one after another.
use Rattle.std.proofs.Common.{◌≡◌, ℕ, zero, suc, ◌+◌, ◌-◌, ◌<◌, ◌≤◌, List, [], ◌∷◌, get_or, drop, length, Option, Some, None, refl, sym, ap, ◌∙◌, arith}
use Rattle.std.specs.Prelude.{option_and_then}
use Rattle.std.proofs.lemmas.List.{drop_more, drop_all}
use Rattle.json.specs.Token.{Token}
use Rattle.json.specs.Json.{skip_value}
use Rattle.part_tokens.specs.PartTokens.{behind_items, behind_key, behind_member, behind_members, tokens_inside, tokens_from}

one_left : (n i : ℕ) → i < n → n - i ≡ suc (n - (i + 1))
one_left n i l = omega arith

-- ---- items

pub item_passed : (depth n i : ℕ) (all old new : List Token) → i < n → behind_items depth n all ≡ behind_items depth (n - i) old → skip_value depth old ≡ Some new
    → behind_items depth n all ≡ behind_items depth (n - (i + 1)) new
item_passed depth n i all old new l so e = so ∙ ap (λ k. behind_items depth k old) (one_left n i l) ∙ ap (option_and_then (behind_items depth (n - (i + 1)))) e

pub item_refused : (depth n i : ℕ) (all old : List Token) → i < n → behind_items depth n all ≡ behind_items depth (n - i) old → skip_value depth old ≡ None → behind_items depth n all ≡ None
item_refused depth n i all old l so e = so ∙ ap (λ k. behind_items depth k old) (one_left n i l) ∙ ap (option_and_then (behind_items depth (n - (i + 1)))) e

pub items_passed : (depth n i : ℕ) (all old : List Token) → i ≡ n → behind_items depth n all ≡ behind_items depth (n - i) old → behind_items depth n all ≡ Some old
items_passed depth n i all old e so = let none : n - i ≡ 0 = omega arith in so ∙ ap (λ k. behind_items depth k old) none

-- ---- members

pub member_passed : (depth n i : ℕ) (all old new : List Token) → i < n → behind_members depth n all ≡ behind_members depth (n - i) old → behind_member depth old ≡ Some new
    → behind_members depth n all ≡ behind_members depth (n - (i + 1)) new
member_passed depth n i all old new l so e = so ∙ ap (λ m. behind_members depth m old) (one_left n i l) ∙ ap (option_and_then (behind_members depth (n - (i + 1)))) e

pub member_refused : (depth n i : ℕ) (all old : List Token) → i < n → behind_members depth n all ≡ behind_members depth (n - i) old → behind_member depth old ≡ None → behind_members depth n all ≡ None
member_refused depth n i all old l so e = so ∙ ap (λ m. behind_members depth m old) (one_left n i l) ∙ ap (option_and_then (behind_members depth (n - (i + 1)))) e

pub members_passed : (depth n i : ℕ) (all old : List Token) → i ≡ n → behind_members depth n all ≡ behind_members depth (n - i) old → behind_members depth n all ≡ behind_key old
members_passed depth n i all old e so = let none : n - i ≡ 0 = omega arith in so ∙ ap (λ m. behind_members depth m old) none

-- ---- steps of a path

pub step_taken : (depth : ℕ) (path : List ℕ) (i : ℕ) (all old new : List Token) → i < length path → tokens_from depth path all ≡ tokens_from depth (drop i path) old → tokens_inside depth (get_or path i 0) old ≡ Some new
    → tokens_from depth path all ≡ tokens_from depth (drop (i + 1) path) new
step_taken depth path i all old new l so e =
    so ∙ ap (λ p. tokens_from depth p old) (drop_more path i 0 l) ∙ ap (option_and_then (tokens_from depth (drop (i + 1) path))) e

pub step_refused : (depth : ℕ) (path : List ℕ) (i : ℕ) (all old : List Token) → i < length path → tokens_from depth path all ≡ tokens_from depth (drop i path) old → tokens_inside depth (get_or path i 0) old ≡ None
    → tokens_from depth path all ≡ None
step_refused depth path i all old l so e = so ∙ ap (λ p. tokens_from depth p old) (drop_more path i 0 l) ∙ ap (option_and_then (tokens_from depth (drop (i + 1) path))) e

pub all_taken : (depth : ℕ) (path : List ℕ) (i : ℕ) (all old : List Token) → length path ≤ i → tokens_from depth path all ≡ tokens_from depth (drop i path) old → tokens_from depth path all ≡ Some old
all_taken depth path i all old l so = so ∙ ap (λ p. tokens_from depth p old) (drop_all i path l)
