-- What is indexed of a ledger.
use Rattle.std.specs.Prelude.{◌≡◌, ℕ, ℤ, Bool, true, false, not, List, [], ◌∷◌, ◌++◌, map, filter, length, Option, None, is_some, if◌then◌else◌}
use Rattle.std.specs.List.{list_any, IsDistinct}
use Rattle.std.specs.Map.{lookup, keys_of}
use Rattle.ledger_spec.specs.Machine.declared.datum.Datum.{Datum}
use Rattle.ledger_spec.specs.EutxoTypes.declared.lock.Lock.{Lock}
use Rattle.ledger_spec.specs.EutxoTypes.declared.output.Output.{Output}
use Rattle.ledger_spec.specs.EutxoTypes.declared.output_ref.OutputRef.{OutputRef}
use Rattle.ledger_spec.specs.EutxoTypes.declared.output_ref.OutputRef.TheVariants.{Made}
use Rattle.ledger_spec.specs.EutxoTypes.declared.tx.Tx.{Tx}
use Rattle.ledger_spec.specs.EutxoTypes.Ids.{id_of}
use Rattle.ledger_spec.specs.EutxoTypes.Parts.{same_bytes, same_ref}
use Rattle.ledger_spec.specs.Eutxo.Blocks.{Block, blocks_on, places_in}
use Rattle.ledger_spec.specs.Eutxo.Found.{with_outputs}
use Rattle.ledger_spec.specs.Eutxo.Judgement.{Moment}
use Rattle.ledger_spec.specs.Roles.declared.published.Published.{Published}
use Rattle.ledger_spec.specs.Roles.Steps.{marlowe}
use Rattle.ledger_spec.specs.Ledger.declared.look.Unspent.{Unspent}
use Rattle.ledger_spec.specs.LedgerLaws.Past.{Past, created_by, is_input_of, unspent}
use Rattle.ledger_spec.specs.LedgerLaws.Threads.{next_of}
use Rattle.ledger_spec.specs.Replay.{published_at}
use Rattle.ledger_spec.specs.Views.{unspent_of}
use Rattle.chain_index.specs.declared.moves.Move.{Move}
use Rattle.chain_index.specs.Moves.{Next, moves_to, moves_from, leads, starts_by, starts_of}
use Rattle.chain_index.specs.Data.{data_by, unspent_data}

pub record Contents : Type 0 where
  -- the unspent outputs, in order of creation
  pub unspent : List (OutputRef × Output)
  -- the ids of the accepted transactions, in order
  pub used : List (List ℕ)
  -- what was published, in order
  pub published : List Published
  -- the contract outputs that were spent, in order, each with the step that spent it
  pub moves : List (OutputRef × Move)
  -- the outputs that start threads, in order of creation
  pub starts : List OutputRef
  -- the unspent contract outputs, in order of creation, each with the datum that the transaction that made it brought for it
  pub datums : List (OutputRef × Datum)

-- where threads go on after a past, where this was published
abbrev pub next_after : Past → List Published → Next
next_after past ps = next_of marlowe (published_at ps) past

-- what is indexed of a past, where this was published
abbrev pub contents_of : Past → List Published → Contents
contents_of past ps =
    record { unspent = unspent past; used = map id_of past.accepted; published = ps; moves = moves_from (next_after past ps) 0 past.accepted; starts = starts_of past.accepted; datums = unspent_data past }

-- before anything was accepted and published
abbrev pub first_contents : List Output → Contents
first_contents genesis = contents_of (record { genesis = genesis; accepted = [] }) []

-- without the outputs that a transaction spends
abbrev pub without : {V : Type 0} → Tx → List (OutputRef × V) → List (OutputRef × V)
without tx es = filter (λ e. not (is_input_of e.0 tx)) es

-- the blocks of a transaction that spends unspent outputs
abbrev pub blocks_in : Contents → Tx → List Block
blocks_in c tx = blocks_on marlowe (published_at c.published) tx (with_outputs tx.inputs (map (λ x. lookup (same_ref x.reference) c.unspent) tx.inputs))

-- after one accepted transaction more
abbrev pub accepting : Contents → Tx → Contents
accepting c tx =
    record c {
      unspent = without tx c.unspent ++ created_by tx;
      used = c.used ++ id_of tx ∷ [];
      moves = c.moves ++ moves_to (length c.used) tx tx.inputs (places_in (blocks_in c tx));
      starts = c.starts ++ starts_by tx;
      datums = without tx c.datums ++ data_by tx;
    }

-- after one publication more
abbrev pub publishing : Contents → Published → Contents
publishing c p = record c { published = c.published ++ p ∷ [] }

-- whether an id is among these
abbrev pub is_used : List (List ℕ) → List ℕ → Bool
is_used ids id = list_any (same_bytes id) ids

-- whether one of these references names the output
abbrev pub is_among : List OutputRef → OutputRef → Bool
is_among rs r = list_any (same_ref r) rs

-- where the thread from a start output ends; of another output, nowhere
abbrev pub end_in : Contents → OutputRef → Option OutputRef
end_in c r = if is_among c.starts r then leads r c.moves else None

-- the unspent outputs under the locks that are asked for, in order of creation
abbrev pub under_locks_in : (Lock → Bool) → Contents → List Unspent
under_locks_in asked c = map unspent_of (filter (λ e. asked e.1.lock) c.unspent)

-- what the rules read of it, at a tick
abbrev pub moment_at : Contents → ℤ → Moment Published
moment_at c tick = record { unspent = λ r. lookup (same_ref r) c.unspent; published = published_at c.published; is_used = is_used c.used; tick = tick }

-- a transaction can be added: its id is new, and with it its outputs; what it spends is unspent, each named once and by no step before
pub record CanBeAdded (c : Contents) (tx : Tx) : Type 0 where
  pub unused : is_used c.used (id_of tx) ≡ false
  pub there : (r : OutputRef) → is_input_of r tx ≡ true → is_some (lookup (same_ref r) c.unspent) ≡ true
  pub once : IsDistinct same_ref (map (λ x. x.reference) tx.inputs)
  pub unmoved : (r : OutputRef) → is_input_of r tx ≡ true → is_among (keys_of c.moves) r ≡ false
  pub unstarted : (i : ℕ) → is_among c.starts (Made (id_of tx) i) ≡ false

-- an index: what there was when it was last settled, and what there is now
pub record Indexed : Type 0 where
  pub settled : Contents
  pub present : Contents

-- an index of these outputs alone
abbrev pub beginning : List Output → Indexed
beginning genesis = record { settled = first_contents genesis; present = first_contents genesis }
