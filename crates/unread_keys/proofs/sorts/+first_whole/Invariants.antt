use Rattle.std.proofs.Common.{length}
use Rattle.unread_keys.proofs.sorts.+first_whole.Given as goal

abbrev pub decreases-first_whole : goal.decreases-first_whole
decreases-first_whole l = length l.forms.now
