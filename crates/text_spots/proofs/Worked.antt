-- The worked rows.
use Rattle.std.proofs.Common.{refl}
use Rattle.text_spots.specs.Rows.{LinesEndAtLineFeeds, ColumnsAreScalarValues, MarksAreNone, NothingIsHidden, SixtyAreShown, PathsAreCut}

pub lines_end_at_line_feeds : LinesEndAtLineFeeds
lines_end_at_line_feeds = (refl, refl, refl, refl, refl, refl, refl)

pub columns_are_scalar_values : ColumnsAreScalarValues
columns_are_scalar_values = (refl, refl, refl)

pub marks_are_none : MarksAreNone
marks_are_none = (refl, refl, refl)

pub nothing_is_hidden : NothingIsHidden
nothing_is_hidden = (refl, refl, refl, refl)

pub sixty_are_shown : SixtyAreShown
sixty_are_shown = (refl, refl)

pub paths_are_cut : PathsAreCut
paths_are_cut = (refl, refl, refl)
