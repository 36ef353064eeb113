-- The worked rows.
use Rattle.std.proofs.Common.{refl}
use Rattle.std.specs.Fmt.{digits}
use Rattle.std.specs.Str.{chars}
use lib.Utf8.{encode}
use Rattle.json.proofs.OnLiterals.{json_on_literals}
use Rattle.json_forms.specs.Spelling.{one_apart, two_apart}
use Rattle.json_forms.specs.Lacking.{met, nearest}
use Rattle.told_parts.specs.Rows.{MisspelledKeysAreTold, WordsAreTold, NumbersAreTold, BadStatesAreTold, MisspelledKeysAreMembers, QuotedNumbersAreMembers, QuotedNumbersStandAlone, RepeatedEntriesAreMembers, NamesAreMembers}

pub misspelled_keys_are_told : MisspelledKeysAreTold
unfolding digits chars encode json_on_literals met nearest one_apart two_apart
misspelled_keys_are_told = refl

pub words_are_told : WordsAreTold
unfolding digits chars encode json_on_literals met nearest
words_are_told = refl

pub numbers_are_told : NumbersAreTold
unfolding digits chars encode json_on_literals
numbers_are_told = (refl, refl)

pub bad_states_are_told : BadStatesAreTold
unfolding digits chars encode json_on_literals
bad_states_are_told = (refl, refl)

pub misspelled_keys_are_members : MisspelledKeysAreMembers
unfolding digits chars encode json_on_literals met nearest one_apart two_apart
misspelled_keys_are_members = refl

pub quoted_numbers_are_members : QuotedNumbersAreMembers
unfolding digits chars encode json_on_literals met nearest
quoted_numbers_are_members = refl

pub quoted_numbers_stand_alone : QuotedNumbersStandAlone
unfolding digits chars encode json_on_literals met nearest
quoted_numbers_stand_alone = refl

pub repeated_entries_are_members : RepeatedEntriesAreMembers
unfolding digits chars encode json_on_literals met nearest
repeated_entries_are_members = refl

pub names_are_members : NamesAreMembers
unfolding digits chars encode json_on_literals met nearest
names_are_members = refl
