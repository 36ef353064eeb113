-- No reader needs this file: what a look shows of entries.
use Rattle.std.specs.Prelude.{ℕ, Bool, false, not, ◌&&◌, List, [], ◌∷◌, map, filter, slice_get, Option, Some, None}
use Rattle.std.specs.List.{list_any, flat_map}
use Rattle.std.specs.Ordering.{nat_cmp}
use Rattle.std.specs.BTreeMap.{is_at}
use Rattle.ledger_spec.specs.EutxoTypes.declared.lock.Lock.{Lock}
use Rattle.ledger_spec.specs.EutxoTypes.declared.output.Output.{Output}
use Rattle.ledger_spec.specs.EutxoTypes.declared.output_ref.OutputRef.{OutputRef}
use Rattle.ledger_spec.specs.Ledger.declared.look.Unspent.{Unspent}
use Rattle.ledger_spec.specs.Views.{unspent_of}
use Rattle.chain_index.specs.Contents.{is_among}
use Rattle.chain_index.specs.HolesSupport.{live, staying}

-- of these entries, those that neither are holes nor leave and are asked for
abbrev pub under : (Lock → Bool) → List OutputRef → List (OutputRef × Option Output) → List Unspent
under asked leaving es = map unspent_of (filter (λ e. asked e.1.lock) (staying leaving (live es)))

-- ---- which places they have

abbrev pub is_asked : (Lock → Bool) → Option Output → Bool
is_asked asked None = false
is_asked asked (Some o) = asked o.lock

-- whether an entry is one of them
abbrev pub is_shown : (Lock → Bool) → List OutputRef → OutputRef × Option Output → Bool
is_shown asked leaving e = is_asked asked e.1 && not (is_among leaving e.0)

abbrev pub passes : (OutputRef × Option Output → Bool) → Option (OutputRef × Option Output) → Bool
passes test None = false
passes test (Some e) = test e

-- whether there is an entry at a place, and passes the test
abbrev pub passes_at : (OutputRef × Option Output → Bool) → List (OutputRef × Option Output) → ℕ → Bool
passes_at test es i = passes test (slice_get es i)

-- whether a place is this one, and is among these
abbrev pub is_place : Option ℕ → ℕ → Bool
is_place None i = false
is_place (Some j) i = is_at (nat_cmp j) i

abbrev pub has_place : List ℕ → ℕ → Bool
has_place ks i = list_any (is_at (nat_cmp i)) ks

-- ---- the outputs at places

abbrev pub row_with : OutputRef → Option Output → List Unspent
row_with r None = []
row_with r (Some o) = unspent_of (r, o) ∷ []

abbrev pub row : Option (OutputRef × Option Output) → List Unspent
row None = []
row (Some e) = row_with e.0 e.1

abbrev pub rows_at : List (OutputRef × Option Output) → List ℕ → List Unspent
rows_at es ks = flat_map (λ k. row (slice_get es k)) ks
