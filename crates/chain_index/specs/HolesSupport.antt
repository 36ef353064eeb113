-- No reader needs this file: entries by reference, in order, with holes where some were taken out.
use Rattle.std.specs.Prelude.{◌≡◌, true, not, if◌then◌else◌, List, [], ◌∷◌, ◌++◌, filter, Option, Some, None}
use Rattle.std.specs.Map.{keys_of}
use Rattle.ledger_spec.specs.EutxoTypes.declared.output_ref.OutputRef.{OutputRef}
use Rattle.chain_index.specs.Contents.{is_among}

abbrev pub with_live : {V : Type 0} → OutputRef → Option V → List (OutputRef × V) → List (OutputRef × V)
with_live r None es = es
with_live r (Some v) es = (r, v) ∷ es

-- the entries that are no holes
abbrev pub live : {V : Type 0} → List (OutputRef × Option V) → List (OutputRef × V)
live [] = []
live (e ∷ es) = with_live e.0 e.1 (live es)

-- without those that leave
abbrev pub staying : {V : Type 0} → List OutputRef → List (OutputRef × V) → List (OutputRef × V)
staying rs es = filter (λ e. not (is_among rs e.0)) es

-- with one more, unless it is there already
abbrev pub with_key : List OutputRef → OutputRef → List OutputRef
with_key rs r = if is_among rs r then rs else rs ++ r ∷ []

-- the references, holes among them
abbrev pub known : {V : Type 0} → List (OutputRef × Option V) → List OutputRef
known es = keys_of es

-- each of these is among those
abbrev pub AreAmong : List OutputRef → List OutputRef → Type 0
AreAmong rs qs = (r : OutputRef) → is_among rs r ≡ true → is_among qs r ≡ true
