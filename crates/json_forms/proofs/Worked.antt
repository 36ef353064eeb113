-- The worked rows.
use Rattle.std.proofs.Common.{refl}
use Rattle.json_forms.specs.Spelling.{one_apart, two_apart}
use Rattle.json_forms.specs.Lacking.{nearest, met}
use Rattle.json_forms.specs.Rows.{LettersAreCounted, MisspelledKeysAreFound, NoFormIsMeant, FewestLack}

pub letters_are_counted : LettersAreCounted
unfolding one_apart two_apart
letters_are_counted = (refl, refl, refl, refl, refl, refl, refl, refl, refl, refl, refl)

pub misspelled_keys_are_found : MisspelledKeysAreFound
unfolding one_apart two_apart nearest met
misspelled_keys_are_found = ((refl, refl, refl), (refl, refl, refl), (refl, refl, refl), (refl, refl, refl), (refl, refl, refl), (refl, refl, refl))

pub no_form_is_meant : NoFormIsMeant
unfolding one_apart two_apart nearest met
no_form_is_meant = (refl, refl, refl, refl)

pub fewest_lack : FewestLack
unfolding one_apart two_apart nearest met
fewest_lack = ((refl, refl, refl), (refl, refl, refl))
