-- The worked rows.
use Rattle.std.proofs.Common.{refl}
use Rattle.std.specs.Fmt.{digits}
use Rattle.json.proofs.OnLiterals.{json_on_literals}
use Rattle.hex.proofs.OnLiterals.{hex_on_literals}
use Rattle.next_lines.specs.Rows.{DepositsAreTold, ChoicesAndNotifiesAreTold, TheWayIsTold, ClosingIsTold, AllIsToldInOrder, TheFirstAreTold, DepositsAreWritten, ChoicesAreWritten, AllIsWritten}

pub deposits_are_told : DepositsAreTold
unfolding digits json_on_literals hex_on_literals
deposits_are_told = (refl, refl, refl, refl)

pub choices_and_notifies_are_told : ChoicesAndNotifiesAreTold
unfolding digits json_on_literals hex_on_literals
choices_and_notifies_are_told = (refl, refl, refl)

pub the_way_is_told : TheWayIsTold
unfolding digits json_on_literals hex_on_literals
the_way_is_told = (refl, refl, refl)

pub closing_is_told : ClosingIsTold
unfolding digits json_on_literals hex_on_literals
closing_is_told = (refl, refl, refl)

pub all_is_told_in_order : AllIsToldInOrder
unfolding digits json_on_literals hex_on_literals
all_is_told_in_order = refl

pub the_first_are_told : TheFirstAreTold
unfolding digits json_on_literals hex_on_literals
the_first_are_told = (refl, refl, refl, refl, refl)

pub deposits_are_written : DepositsAreWritten
unfolding digits json_on_literals hex_on_literals
deposits_are_written = refl

pub choices_are_written : ChoicesAreWritten
unfolding digits json_on_literals hex_on_literals
choices_are_written = refl

pub all_is_written : AllIsWritten
unfolding digits json_on_literals hex_on_literals
all_is_written = refl
