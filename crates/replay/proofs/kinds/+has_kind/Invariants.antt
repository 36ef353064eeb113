use Rattle.std.proofs.Common.{length}
use Rattle.replay.proofs.kinds.+has_kind.Given as goal

abbrev pub decreases-has_kind : goal.decreases-has_kind
decreases-has_kind l = length l.warnings.now
