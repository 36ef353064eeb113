use Rattle.std.proofs.Common.{◌≡◌, true, sym, ◌∙◌, ap}
use Rattle.std.proofs.Math.Facts.{to_z-of_z}
use Rattle.std.specs.List.{list_all}
use Rattle.std.specs.FinMap.{from_sorted, from_entries}
use Rattle.names.specs.Orders.{account_cmp, choice_id_cmp, bytes_cmp}
use Rattle.names.proofs.FromCollections.Maps.{no_entries}
use Rattle.states.specs.Start.{is_positive, entries_of}
use Rattle.states.proofs.Starting.{sorted_positive, sorted_map}
use Rattle.states.proofs.state.State.start.Goals as goal

pub from_entries-requires : goal.from_entries-requires
from_entries-requires c =
    let all : list_all is_positive c.in-Ok.entries.items ≡ true = ap (list_all is_positive) c.in-Ok.ensures ∙ sym c.all_positive.ensures ∙ c.if-not-all_positive.false in
    sorted_positive c.in-Ok.entries.items c.in-Some.accounts all c.in-Some.ensures.same_entries

pub returns-clause-value : goal.returns-clause-value
returns-clause-value c =
    let time = to_z-of_z c.ranges.min_time in
    let accounts : from_sorted {R = account_cmp} c.in-Some.accounts ≡ from_entries (entries_of c.args.accounts.now) =
    sorted_map c.in-Ok.entries.items c.in-Some.accounts c.in-Some.ensures.sorted c.in-Some.ensures.found ∙ ap (from_entries {R = account_cmp}) c.in-Ok.ensures in
    rw (c.from_entries.ensures, accounts, c.new.ensures, c.new-2.ensures, no_entries choice_id_cmp, no_entries bytes_cmp, time)
