-- What is indexed of a past, and what the past is.
use Rattle.std.specs.Prelude.{◌≡◌, ℕ, ℤ, List, [], ◌∷◌, ◌++◌, map, slice_get, Option, Some, None}
use Rattle.std.specs.List.{list_any}
use Rattle.std.specs.Map.{lookup}
use Rattle.std.specs.Option.{option_map}
use Rattle.ledger_spec.specs.EutxoTypes.declared.output.Output.{Output}
use Rattle.ledger_spec.specs.EutxoTypes.declared.output_ref.OutputRef.{OutputRef}
use Rattle.ledger_spec.specs.EutxoTypes.declared.tx.Tx.{Tx}
use Rattle.ledger_spec.specs.EutxoTypes.Parts.{Instance, same_ref}
use Rattle.ledger_spec.specs.Eutxo.Asked.{Judges}
use Rattle.ledger_spec.specs.Eutxo.Blocks.{places_in}
use Rattle.ledger_spec.specs.Eutxo.Judgement.{found, judge}
use Rattle.ledger_spec.specs.Eutxo.Local.{places_of}
use Rattle.ledger_spec.specs.Roles.declared.published.Published.{Published}
use Rattle.ledger_spec.specs.Roles.Steps.{marlowe}
use Rattle.ledger_spec.specs.LedgerLaws.Past.{Past, after, unspent_at}
use Rattle.ledger_spec.specs.LedgerLaws.Sound.{moment, IsSound}
use Rattle.ledger_spec.specs.LedgerLaws.Threads.{next_of, Link, IsMade, thread, thread_end}
use Rattle.ledger_spec.specs.Replay.{published_at}
use Rattle.ledger_spec.specs.Views.{starts_in, end_of, made_datum}
use Rattle.chain_index.specs.declared.moves.StepPlace.{StepPlace}
use Rattle.chain_index.specs.Contents.{contents_of, blocks_in, accepting, publishing, moment_at, is_among, end_in, CanBeAdded}
use Rattle.chain_index.specs.Moves.{moves_from, along, leads, starts_of}

-- READ ALIKE: the rules read the same of what is indexed of a past as of the past
abbrev pub ReadsAlike : Type 0
ReadsAlike = (ps : List Published) (past : Past) (tick : ℤ) → moment_at (contents_of past ps) tick ≡ moment (published_at ps) past tick

-- ACCEPTED ALIKE: what is indexed after a transaction that no rule refuses is what is indexed of the past after it
abbrev pub AcceptsAlike : Type 0
AcceptsAlike =
    (ps : List Published) (past : Past) (tick : ℤ) (tx : Tx) → IsSound marlowe (published_at ps) past → judge marlowe (moment (published_at ps) past tick) tx ≡ None →
    accepting (contents_of past ps) tx ≡ contents_of (after past tx) ps

-- and what is found of it by what is indexed tells in which places its contracts go on by its blocks
abbrev pub PlacesAlike : Type 0
PlacesAlike =
    (ps : List Published) (past : Past) (tick : ℤ) (tx : Tx) → IsSound marlowe (published_at ps) past → judge marlowe (moment (published_at ps) past tick) tx ≡ None →
    places_of marlowe tx (found (moment_at (contents_of past ps) tick) tx) ≡ places_in (blocks_in (contents_of past ps) tx)

-- PUBLISHED ALIKE: what is indexed after a publication under a new id is what is indexed of the past where more is published
abbrev pub PublishesAlike : Type 0
PublishesAlike =
    (ps : List Published) (past : Past) (p : Published) → IsSound marlowe (published_at ps) past → published_at ps p.id ≡ None →
    publishing (contents_of past ps) p ≡ contents_of past (ps ++ p ∷ [])

-- and such a transaction can be added
abbrev pub JudgedCanBeAdded : Judges Published → Type 0
JudgedCanBeAdded j =
    (published : List ℕ → Option Published) (ps : List Published) (past : Past) (tick : ℤ) (tx : Tx) → judge j (moment published past tick) tx ≡ None → CanBeAdded (contents_of past ps) tx

-- the transaction at a place, with the thread's output that it spends
abbrev pub link_at : List Tx → StepPlace → Option Link
link_at txs x = option_map (λ tx. let l : Link = record { spends = x.spends; tx = tx } in l) (slice_get txs x.number)

-- THREADS ALIKE: from a contract output the moves lead along its thread, transaction by transaction, to its end
pub record TellsThread (named : List ℕ → Option Published) (past : Past) (r : OutputRef) : Type 0 where
  pub steps : map (link_at past.accepted) (along r (moves_from (next_of marlowe named past) 0 past.accepted)) ≡ map (λ l. Some l) (thread marlowe named past r)
  pub end : leads r (moves_from (next_of marlowe named past) 0 past.accepted) ≡ thread_end marlowe named past r

abbrev pub ThreadsAlike : Type 0
ThreadsAlike = (published : List ℕ → Option Published) (past : Past) → IsSound marlowe published past → (r : OutputRef) (c : Instance) → IsMade past r c → TellsThread published past r

-- and of each output they tell the end that a look follows its thread to, where it starts one
abbrev pub EndsAlike : Type 0
EndsAlike =
    (ps : List Published) (past : Past) → IsSound marlowe (published_at ps) past → (r : OutputRef) → end_in (contents_of past ps) r ≡ end_of (published_at ps) past r

-- and the outputs that start threads are told
abbrev pub StartsAlike : Type 0
StartsAlike = (past : Past) (r : OutputRef) → is_among (starts_of past.accepted) r ≡ list_any (starts_in r) past.accepted

-- DATA ALIKE: of an unspent output the datum is told that its maker brought for it, where it is a contract's
abbrev pub DataAlike : Type 0
DataAlike = (ps : List Published) (past : Past) (r : OutputRef) (o : Output) → unspent_at past r ≡ Some o → lookup (same_ref r) (contents_of past ps).datums ≡ made_datum past r
