use Rattle.std.proofs.Common.{length}
use Rattle.json_forms.proofs.spelling.+common_prefix_len.Given as goal

abbrev pub decreases-common_prefix_len : goal.decreases-common_prefix_len
decreases-common_prefix_len l = length l.a.now
