use Rattle.std.proofs.Common.{length}
use Rattle.unread_keys.proofs.sorts.+one_lacks.Given as goal

abbrev pub decreases-one_lacks : goal.decreases-one_lacks
decreases-one_lacks l = length l.fields.now
