-- What a writer leaves that was refused memory.
use Rattle.std.specs.Prelude.{◌≡◌, List, ◌++◌}

-- behind what stood there it has appended a front of what it writes, and nothing else
pub record AppendsFront {X : Type 0} (items old new : List X) : Type 0 where
  pub front : List X
  pub rest : List X
  pub split : items ≡ front ++ rest
  pub appended : new ≡ old ++ front
