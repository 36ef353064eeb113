-- The definition of the lines, worked out.
use Rattle.std.proofs.Common.{refl}
use Rattle.std.specs.Fmt.{digits}
use Rattle.play_lines.specs.PlayLines.{played_lines}
use Rattle.play_lines.specs.Worked.{NothingCalled, OneOfEach, NoneTaken}

pub nothing_called : NothingCalled
unfolding played_lines digits
nothing_called = refl

pub one_of_each : OneOfEach
unfolding played_lines digits
one_of_each submit round = refl

pub none_taken : NoneTaken
unfolding played_lines digits
none_taken round = refl
