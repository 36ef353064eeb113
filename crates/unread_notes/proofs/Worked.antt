-- The worked rows compute.
use Rattle.std.proofs.Common.{refl}
use Rattle.std.specs.Fmt.{digits}
use Rattle.std.specs.Str.{chars}
use lib.Utf8.{encode}
use Rattle.json.specs.Print.{escape_byte}
use Rattle.unread_notes.specs.Rows.{LinesAreTold, AHundredAreTold}

pub lines_are_told : LinesAreTold
unfolding digits chars encode escape_byte
lines_are_told = (refl, refl)

pub a_hundred_are_told : AHundredAreTold
a_hundred_are_told = (refl, refl)
