-- What is held of a stream, and the lines that come of it.
use Rattle.std.specs.Prelude.{ℕ, List, [], ◌∷◌, ◌++◌, Bool, true, false}
use Rattle.lines_in.specs.Lines.{Line, text, too_long, lines}
use Rattle.lines_in.specs.declared.parts.Step.{Step}
use Rattle.lines_in.specs.declared.parts.Step.TheVariants as steps

-- the line so far, where the one before it may still stand as it was given
abbrev pub so_far : Bool → List ℕ → List ℕ
so_far true line = []
so_far false line = line

-- the line so far, unless it is too long; what is read and stands behind it; and whether nothing more can be read
pub record Held : Type 0 where
  pub is_long : Bool
  pub line : List ℕ
  pub piece : List ℕ
  pub has_ended : Bool
  -- the line that was given last, until more is read
  pub given : List ℕ

-- the lines that are to come, where these bytes are still to be read
abbrev pub come : Held → List ℕ → List Line
come held rest = lines held.is_long held.line (held.piece ++ rest)

-- the line that is given at a step, where this one stands then
abbrev pub told : Step → List ℕ → List Line
told steps.Line given = text given ∷ []
told steps.TooLong given = too_long ∷ []
told steps.More given = []
told steps.End given = []
