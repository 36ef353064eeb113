-- What one opening made, by which its seats and receipts are told from those of others.
use Rattle.std.specs.Prelude.{ℕ, ℤ, List}
use Rattle.logbook.specs.Pages.{Book}
use Rattle.eutxo_types.specs.declared.output.Output.{Output}

pub record Opened : Type 0 where
  -- how many seats there are
  pub seats : ℕ
  -- the name of the book that counts the answered calls
  pub shares : ℕ
  -- the book and the first key of the journal
  pub book : Book
  pub first : ℕ
  -- what the chain began with
  pub genesis : List Output
  pub first_tick : ℤ
