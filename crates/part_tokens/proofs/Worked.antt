-- The worked rows.
use Rattle.std.proofs.Common.{refl}
use Rattle.json.proofs.OnLiterals.{json_on_literals}
use Rattle.json.specs.Json.{items, members, value}
use Rattle.part_tokens.specs.Rows.{PartsBeginWithTheirTokens, NothingIsThere}

pub parts_begin_with_their_tokens : PartsBeginWithTheirTokens
unfolding json_on_literals
parts_begin_with_their_tokens = (refl, refl, refl, refl, refl)

pub nothing_is_there : NothingIsThere
unfolding json_on_literals
nothing_is_there = (refl, refl, refl)
