-- A script that is put among scripts in the order of their ids.
use Rattle.std.proofs.Common.{◌≡◌, ℕ, List, Result, Ok, Err, OnOk, sym, ◌∙◌, ap}
use Rattle.std.proofs.Math.Dec.{T}
use Rattle.std.specs.FinMap.{from_sorted, insert, entries-from_sorted, entries-insert, same_entries_map}
use Rattle.std.specs.FinMap.Entries.{put, is_sorted, is_sorted-put}
use Rattle.contract.specs.Names.Orders.{bytes_cmp}
use Rattle.contract.specs.Names.Totals.{bytes_total}

module _ {X : Type 0} (k : List ℕ) (v : X) (es : List (List ℕ × X)) (s : T (is_sorted bytes_cmp es)) where
  pub sorted_put : T (is_sorted bytes_cmp (put bytes_cmp k v es))
  sorted_put = is_sorted-put bytes_cmp bytes_total k v es s

  pub map_put : from_sorted {R = bytes_cmp} (put bytes_cmp k v es) ≡ insert (from_sorted es) k v
  map_put =
      same_entries_map _ _
      (entries-from_sorted bytes_cmp (put bytes_cmp k v es) sorted_put
      ∙ sym (entries-insert bytes_total (from_sorted es) k v ∙ ap (put bytes_cmp k v) (entries-from_sorted bytes_cmp es s)))

pub on_ok : {A E P Q : Type 0} (r : Result A E) → (P → Q) → OnOk r P → OnOk r Q
on_ok (Ok a) f h = f h
on_ok (Err e) f h = h
