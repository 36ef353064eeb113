-- The worked rows compute.
use Rattle.std.proofs.Common.{refl}
use Rattle.json.proofs.OnLiterals.{json_on_literals}
use Rattle.file_parts.specs.Rows.{FilesAreNamed, FilesAreInPlace}

pub files_are_named : FilesAreNamed
unfolding json_on_literals
files_are_named = (refl, refl, refl, refl, refl)

pub files_are_in_place : FilesAreInPlace
unfolding json_on_literals
files_are_in_place = refl
