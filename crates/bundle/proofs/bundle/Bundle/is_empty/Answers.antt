use Rattle.std.proofs.Common.{◌≡◌, [], sym, ◌∙◌, ap}
use Rattle.std.specs.FinMap.{entries, empty, from_sorted, entries-from_sorted}
use Rattle.names.specs.Orders.{token_cmp}
use Rattle.names.proofs.FromCollections.Maps.{no_entries}
use Rattle.bundle.proofs.bundle.Bundle.is_empty.Goals as goal

pub returns : goal.returns
returns c =
    let none : entries (empty {R = token_cmp}) ≡ [] = ap entries (sym (no_entries token_cmp)) ∙ entries-from_sorted token_cmp [] tt in (
      λ yes. sym c.list.ensures.makes ∙ ap (from_sorted {R = token_cmp}) (c.are_none.ensures.0 yes) ∙ no_entries token_cmp,
      λ e. c.are_none.ensures.1 (c.list.ensures.all ∙ ap entries e ∙ none),
    )
