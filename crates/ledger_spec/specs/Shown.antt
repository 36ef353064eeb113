-- Told in order: a look shows what was made before it.
use Rattle.std.specs.Prelude.{◌≡◌, ℕ, ◌+◌, ◌<◌, true, false, List, drop, length, slice_get, Option, Some}
use Rattle.std.specs.List.{Contains}
use Rattle.builder_spec.specs.EutxoTypes.declared.output.Output.{Output}
use Rattle.builder_spec.specs.EutxoTypes.declared.output_ref.OutputRef.{OutputRef}
use Rattle.builder_spec.specs.EutxoTypes.declared.output_ref.OutputRef.TheVariants.{Made}
use Rattle.builder_spec.specs.EutxoTypes.declared.tx.Tx.{Tx}
use Rattle.builder_spec.specs.EutxoTypes.Ids.{id_of}
use Rattle.builder_spec.specs.EutxoTypes.Parts.{Instance}
use Rattle.builder_spec.specs.Roles.declared.published.Published.{Published}
use Rattle.builder_spec.specs.Ledger.declared.ask.Ask.{Ask}
use Rattle.builder_spec.specs.Ledger.declared.call.Call.TheVariants as on
use Rattle.builder_spec.specs.Ledger.declared.call.Entry.{Entry}
use Rattle.builder_spec.specs.Ledger.declared.call.Reply.TheVariants as answer
use Rattle.builder_spec.specs.Ledger.declared.look.Look.{Look}
use Rattle.builder_spec.specs.Ledger.declared.look.ThreadOutput.{ThreadOutput}
use Rattle.builder_spec.specs.Ledger.declared.look.Unspent.{Unspent}
use Rattle.ledger_laws.specs.Past.{Past, is_spent}
use Rattle.ledger_laws.specs.Threads.{IsMade}
use Rattle.ledger_spec.specs.Legal.{before_entry}
use Rattle.ledger_spec.specs.Replay.{Course, published_at, world, past_of}
use Rattle.ledger_spec.specs.Views.{is_key_of, is_payout_of, end_of}

-- what the entries from the n-th on, up to the m-th, accepted
abbrev pub accepted_between : Course → ℕ → ℕ → List Tx
accepted_between c n m = drop (length (world (before_entry c n)).replay.accepted) (world (before_entry c m)).replay.accepted

-- a look shows an output whose lock it asks for; and where it asks for a thread that ended there after this past, as that thread's, with the
-- datum that its maker brought
pub record ShowsOutput (named : List ℕ → Option Published) (past : Past) (ask : Ask) (l : Look) (u : Unspent) : Type 0 where
  pub key : is_key_of ask.keys u.output.lock ≡ true → Contains l.keys u
  pub payout : is_payout_of ask.payouts u.output.lock ≡ true → Contains l.payouts u
  pub thread : (r : OutputRef) → ask.thread ≡ Some r → end_of named past r ≡ Some u.reference →
      (i : Instance) × IsMade past u.reference i × (p : Published) × (let t : ThreadOutput = record { reference = u.reference; output = u.output; datum = i.datum; published = p } in l.thread ≡ Some t)

-- WHAT WAS MADE IS SHOWN: where a Submit was accepted and a Look comes after it, the look shows each output of that transaction that it
-- asks for, unless what was accepted between the two spent it
abbrev pub ShowsWhatWasMade : Course → Type 0
ShowsWhatWasMade c =
    (n m i : ℕ) (e f : Entry) (tx : Tx) (ask : Ask) (l : Look) (o : Output) → n < m →
    slice_get c.entries n ≡ Some e → e.call ≡ on.Submit tx → e.reply ≡ answer.Accepted (id_of tx) →
    slice_get c.entries m ≡ Some f → f.call ≡ on.Look ask → f.reply ≡ answer.Look l →
    slice_get tx.outputs i ≡ Some o → is_spent (accepted_between c (n + 1) m) (Made (id_of tx) i) ≡ false →
    ShowsOutput (published_at (world (before_entry c (n + 1))).published) (past_of (world (before_entry c (n + 1)))) ask l (record { reference = Made (id_of tx) i; output = o })
