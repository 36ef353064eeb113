-- The worked rows.
use Rattle.std.proofs.Common.{◌≡◌, ℤ, pos, Option, Some, [], ◌∷◌, refl, ap}
use Rattle.std.specs.Option.{unwrap_or}
use Rattle.std.specs.FinMap.{get, insert, empty, get-insert, get-from_sorted}
use Rattle.contract.specs.Names.Equal.{ada}
use Rattle.contract.specs.Names.Totals.{bytes_total}
use Rattle.contract.specs.Names.Orders.{account_cmp, bytes_cmp}
use Rattle.semantics.specs.Evaluation.Numbers.{fits}
use Rattle.semantics.specs.Reduction.{account_of, balance}
use Rattle.semantics.specs.Computed.{applied, one_input, from_start, computed}
use Rattle.semantics.specs.Rows.{a_has_three, party_a, name_x}
use Rattle.next_inputs.specs.Rows.{EqualDepositsTakeTheFirst, LeavingStops, OtherAccountIsTaken, EarlierBoundsTake, OtherOwnerIsTaken, InvertedTakesNothing, TrueNotifyTakes, StartIsTrimmed, AmountIsReadLater, WaitsUntilNinetyNine, FollowingIsAmbiguous, SumLeaves}

pub equal_deposits_take_the_first : EqualDepositsTakeTheFirst
unfolding fits
equal_deposits_take_the_first = (refl, refl)

pub leaving_stops : LeavingStops
unfolding fits
leaving_stops = (refl, refl, refl)

pub other_account_is_taken : OtherAccountIsTaken
unfolding fits
other_account_is_taken = refl

pub earlier_bounds_take : EarlierBoundsTake
earlier_bounds_take = (refl, refl)

pub other_owner_is_taken : OtherOwnerIsTaken
other_owner_is_taken = refl

pub inverted_takes_nothing : InvertedTakesNothing
inverted_takes_nothing = refl

pub true_notify_takes : TrueNotifyTakes
unfolding fits
true_notify_takes = (refl, refl, refl)

pub start_is_trimmed : StartIsTrimmed
unfolding fits
start_is_trimmed = refl

found : get (insert (empty {X = ℤ} {R = bytes_cmp}) name_x (pos 7)) name_x ≡ Some (pos 7)
found = get-insert bytes_total empty name_x (pos 7) name_x

pub amount_is_read_later : AmountIsReadLater
unfolding fits
amount_is_read_later = rw found refl

pub waits_until_ninety_nine : WaitsUntilNinetyNine
waits_until_ninety_nine = refl

pub following_is_ambiguous : FollowingIsAmbiguous
unfolding computed from_start one_input applied fits
following_is_ambiguous = (refl, refl)

has_three : balance a_has_three party_a ada ≡ pos 3
has_three = ap (λ o. unwrap_or o (pos 0)) (get-from_sorted account_cmp ((account_of party_a ada, pos 3) ∷ []) (account_of party_a ada) tt)

pub sum_leaves : SumLeaves
unfolding computed from_start one_input applied fits
sum_leaves = (refl, rw has_three refl)
