-- What a list of accepted transactions creates, spends and leaves unspent (The Extended UTXO Model, "Basic UTXO Ledger", where
-- an output is unspent if no transaction of the ledger names it).
use Rattle.std.specs.List.{list_any}
use Rattle.std.specs.Prelude.{ℕ, ◌+◌, Bool, not, List, [], ◌∷◌, ◌++◌, filter, take, Option}
use Rattle.std.specs.Map.{lookup}
use Rattle.roles.specs.EutxoTypes.declared.output.Output.{Output}
use Rattle.roles.specs.EutxoTypes.declared.output_ref.OutputRef.{OutputRef}
use Rattle.roles.specs.EutxoTypes.declared.output_ref.OutputRef.TheVariants.{Genesis, Made}
use Rattle.roles.specs.EutxoTypes.declared.tx.Tx.{Tx}
use Rattle.roles.specs.EutxoTypes.Ids.{id_of}
use Rattle.roles.specs.EutxoTypes.Parts.{same_bytes, same_ref}

-- the outputs that there were at first, and what was accepted, in order
pub record Past : Type 0 where
  pub genesis : List Output
  pub accepted : List Tx

-- the past before its n-th transaction
abbrev pub before : Past → ℕ → Past
before past n = record past { accepted = take n past.accepted }

-- the past after one transaction more
abbrev pub after : Past → Tx → Past
after past tx = record past { accepted = past.accepted ++ tx ∷ [] }

-- outputs with their references, the first at place i
abbrev pub with_references : (ℕ → OutputRef) → ℕ → List Output → List (OutputRef × Output)
with_references name i [] = []
with_references name i (o ∷ os) = (name i, o) ∷ with_references name (i + 1) os

abbrev pub created_by : Tx → List (OutputRef × Output)
created_by tx = with_references (λ j. Made (id_of tx) j) 0 tx.outputs

abbrev pub created_by_all : List Tx → List (OutputRef × Output)
created_by_all [] = []
created_by_all (tx ∷ txs) = created_by tx ++ created_by_all txs

-- all outputs that there ever were, in order of creation
abbrev pub created : Past → List (OutputRef × Output)
created past = with_references (λ j. Genesis j) 0 past.genesis ++ created_by_all past.accepted

-- the output that a reference names, also where it is spent
abbrev pub created_at : Past → OutputRef → Option Output
created_at past r = lookup (same_ref r) (created past)

-- whether an input of the transaction names the output
abbrev pub is_input_of : OutputRef → Tx → Bool
is_input_of r tx = list_any (λ x. same_ref x.reference r) tx.inputs

-- whether one of these transactions spends it
abbrev pub is_spent : List Tx → OutputRef → Bool
is_spent txs r = list_any (is_input_of r) txs

-- the outputs that were created and not spent
abbrev pub unspent : Past → List (OutputRef × Output)
unspent past = filter (λ e. not (is_spent past.accepted e.0)) (created past)

-- the output that a reference names, where it is unspent
abbrev pub unspent_at : Past → OutputRef → Option Output
unspent_at past r = lookup (same_ref r) (unspent past)

-- whether a transaction has this id
abbrev pub has_id : List ℕ → Tx → Bool
has_id id tx = same_bytes id (id_of tx)

abbrev pub is_used : List Tx → List ℕ → Bool
is_used txs id = list_any (has_id id) txs
