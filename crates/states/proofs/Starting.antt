-- How the accounts of a start become a map.
use Rattle.std.proofs.Common.{◌≡◌, ℤ, pos, ◌<ℤ◌, List, [], ◌∷◌, Bool, true, false, ◌&&◌, refl, sym, ◌∙◌, All, subst}
use Rattle.std.proofs.Math.Dec.{T}
use mathlib.Core.Bool.{false≢true}
use Rattle.std.specs.Int.Signed.{lt_z_yes}
use Rattle.std.specs.List.{list_all}
use Rattle.std.specs.List.Sorted.{IsPermutation}
use Rattle.std.specs.FinMap.{from_sorted, from_entries, same_map, get-from_sorted, get-from_entries}
use Rattle.std.specs.FinMap.Entries.{find, is_sorted}
use Rattle.std.proofs.lemmas.List.Elements.{All-nil, All-cons, All-head, All-tail}
use Rattle.std.proofs.lemmas.List.Sorted.{All-permutation}
use Rattle.names.specs.declared.account.Account.{Account}
use Rattle.names.specs.Orders.{account_cmp}
use Rattle.names.specs.Totals.{account_total}
use Rattle.names.proofs.Exact.{account_exact}
use Rattle.states.specs.Start.{is_positive}
use Rattle.states.specs.States.{AllPositive}

-- an entry above 0
abbrev IsPositive : Account × ℤ → Type 0
IsPositive e = pos 0 <ℤ e.1

left_of : (a b : Bool) → (a && b) ≡ true → a ≡ true
left_of true b h = refl
left_of false b h = h

right_of : (a b : Bool) → (a && b) ≡ true → b ≡ true
right_of true b h = h
right_of false b h = absurd (false≢true h)

all_positive : (es : List (Account × ℤ)) → list_all is_positive es ≡ true → All IsPositive es
all_positive [] h = All-nil _
all_positive (e ∷ es) h = All-cons IsPositive e es (lt_z_yes (subst T (sym (left_of _ _ h)) tt)) (all_positive es (right_of _ _ h))

positive_all : (es : List (Account × ℤ)) → All IsPositive es → AllPositive es
positive_all [] h = tt
positive_all (e ∷ es) h = (All-head IsPositive e es h, positive_all es (All-tail IsPositive e es h))

-- the sorted entries are above 0, as those given are
pub sorted_positive : (es m : List (Account × ℤ)) → list_all is_positive es ≡ true → IsPermutation es m → AllPositive m
sorted_positive es m h moved = positive_all m (All-permutation IsPositive es m moved (all_positive es h))

-- the sorted entries are the map of those given
pub sorted_map : (es m : List (Account × ℤ)) → T (is_sorted account_cmp m) → ((k : Account) → find account_cmp k m ≡ find account_cmp k es)
    → from_sorted {R = account_cmp} m ≡ from_entries es
sorted_map es m sorted found = same_map account_total account_exact _ _ (λ q.
    get-from_sorted account_cmp m q sorted ∙ found q ∙ sym (get-from_entries account_total es q))
