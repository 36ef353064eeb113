-- What is read of a source, and what a sink has where writing ended early.
use Rattle.std.specs.Prelude.{ℕ, ◌<◌, List, length, take}
use Rattle.std.specs.Io.KnownBytes.{Appends}
use Rattle.std.specs.declared.option.Option.{Option}

-- one byte more than a text may have, which is enough to know that it is too long
abbrev pub longest : ℕ
longest = 1048577

-- what is loaded of the bytes that there are
abbrev pub loaded : List ℕ → List ℕ
loaded bytes = take longest bytes

-- known bytes grew by a beginning of a text that is not all of it
abbrev pub AppendsBeginning : Option (List ℕ) → Option (List ℕ) → List ℕ → Type 0
AppendsBeginning old new text = (n : ℕ) × (n < length text) × Appends old new (take n text)
