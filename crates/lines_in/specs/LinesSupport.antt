-- Where a line ends.
use Rattle.std.specs.Prelude.{ℕ, suc, List, [], ◌∷◌, ◌==◌, Option, Some, None, option_map, if◌then◌else◌}

-- the place of the first line feed, from 0
abbrev pub first_feed : List ℕ → Option ℕ
first_feed [] = None
first_feed (b ∷ bs) = if b == 10 then Some 0 else option_map suc (first_feed bs)
