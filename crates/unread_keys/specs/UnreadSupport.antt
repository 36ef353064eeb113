-- No reader needs this file: it serves the proofs of this crate.
-- What a walk gains.
use Rattle.std.specs.Prelude.{◌≡◌, ℕ, ◌≤◌, List, ◌++◌, length, map, take}
use Rattle.std.specs.Borrow.{Bor}
use Rattle.std.specs.declared.alloc.Global.{Global}
use Rattle.json.specs.declared.value.Value.{Value}
use Rattle.unread_keys.specs.declared.walk.Found.{Found}
use Rattle.unread_keys.specs.Unread.{Note, note_of}

abbrev pub Tree : Type 0
Tree = Value Global

abbrev pub Entry : Type 0
Entry = Bor (List ℕ) × Tree

-- so many at most are kept, the first ones
pub record Gains (old new : Found) (more : List Note) : Type 0 where
  pub same_most : new.most ≡ old.most
  pub same_path : new.path.items ≡ old.path.items
  pub gained : length old.keys.items ≤ old.most → map note_of new.keys.items ≡ take old.most (map note_of old.keys.items ++ more)

-- what is gained from a point on is, behind what was gained before, all
pub record Goes (start now : Found) (rest all : List Note) : Type 0 where
  pub path : now.path.items ≡ start.path.items
  pub on : (end : Found) → Gains now end rest → Gains start end all
