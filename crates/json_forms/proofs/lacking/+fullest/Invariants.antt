use Rattle.std.proofs.Common.{length}
use Rattle.json_forms.proofs.lacking.+fullest.Given as goal

abbrev pub decreases-fullest : goal.decreases-fullest
decreases-fullest l = length l.forms.now
