use Rattle.std.proofs.Common.{arith}
use Rattle.std.proofs.lemmas.Grind.{common_steps}
use Rattle.json_read_names.proofs.Pairs.{pair-fewer, pair-more}
use Rattle.json_read_names.proofs.look.pair.Goals as goal
use Rattle.json_read_names.proofs.look.pair.Goals.{in_default-via-then-items-lt2, in_default-via-else-items-lt2+else-items-lt3}

pub returns-in_default : goal.returns-in_default
returns-in_default g c =
    elim c.in_default.branch [
      | in_default-via-then-items-lt2 w ↦ grind (arith, common_steps, pair-fewer g.J.JsonValue.json)
      | in_default-via-else-items-lt2+else-items-lt3 w ↦ grind (arith, common_steps, pair-more g.J.JsonValue.json)
    ]
