-- The worked rows.
use Rattle.std.proofs.Common.{refl}
use Rattle.std.specs.Fmt.{digits}
use Rattle.std.specs.Str.{chars}
use lib.Utf8.{encode}
use Rattle.json.proofs.OnLiterals.{json_on_literals}
use Rattle.refusal_reasons.specs.JsonForms.Lacking.{met, nearest}
use Rattle.refusal_reasons.specs.JsonReadNames.Forms.{contract_form}
use Rattle.request_reasons.specs.Rows.{NamesAreNoParts, NumbersAreFound, QuotedTimesAreTold}

pub names_are_no_parts : NamesAreNoParts
unfolding contract_form
names_are_no_parts = (refl, refl)

pub numbers_are_found : NumbersAreFound
numbers_are_found = (refl, refl)

pub quoted_times_are_told : QuotedTimesAreTold
unfolding digits chars encode json_on_literals met nearest
quoted_times_are_told = refl
