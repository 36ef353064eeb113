-- A thread that a look shows is closed by anyone, and what is built so is accepted.
use Rattle.std.proofs.Common.{◌≡◌, ℕ, true, List, refl, sym, ◌∙◌, ap, subst, Option, Some, None, inl, inr, All}
use Rattle.std.specs.List.{slice_get}
use Rattle.std.proofs.lemmas.List.Elements.{All-get_or}
use Rattle.std.proofs.lemmas.Option.{slice_get_within, get_or_from_slice_get}
use Rattle.ledger_views.specs.EutxoTypes.declared.output.Output.{Output}
use Rattle.ledger_views.specs.EutxoTypes.declared.output_ref.OutputRef.{OutputRef}
use Rattle.ledger_views.specs.EutxoTypes.Fitting.{OutputFits, TxFits}
use Rattle.ledger_views.specs.EutxoTypes.Parts.{is_contract}
use Rattle.ledger_views.specs.Roles.declared.published.Published.{Published}
use Rattle.ledger_views.specs.Ledger.declared.ask.Ask.{Ask}
use Rattle.ledger_views.specs.Ledger.declared.look.ThreadOutput.{ThreadOutput}
use Rattle.ledger_views.specs.LedgerLaws.Past.{Past, unspent_at}
use Rattle.ledger_views.specs.LedgerLaws.Sound.{AreKeys}
use Rattle.ledger_views.proofs.FromLedgerLaws.AcceptedLaws.{no_contract_first}
use Rattle.ledger_views.proofs.FromLedgerLaws.PartLaws.{is_contract_so}
use Rattle.ledger_views.proofs.FromLedgerLaws.PlainLaws.{same_some}
use Rattle.ledger_views.proofs.FromLedgerLaws.ReferenceLaws.{maker, unspent_so}
use Rattle.ledger_views.specs.BuilderSpec.Closings.{closing}
use Rattle.ledger_views.specs.BuilderSpec.Steps.{Thread, thread_of, look_thread}
use Rattle.builder_laws.specs.AfterLast.{AnyoneCloses}
use Rattle.builder_laws.specs.ShownThreads.{IsShown, ShownThreadsAreCurrent}
use Rattle.ledger_views.specs.LedgerSpec.AcceptedAt.{Accepts, IsOpenAfter}
use Rattle.ledger_views.specs.LedgerSpec.ThreadsShown.{AnyoneClosesShown}
use Rattle.ledger_views.specs.LedgerSpec.Headline.{AcceptsBuilt}
use Rattle.ledger_views.specs.LedgerSpec.Replay.{Course, world, past_of, published, published_at}
use Rattle.ledger_views.specs.LedgerSpec.Views.{thread_shown, look}
use Rattle.ledger_views.proofs.FromLedgerSpec.PublishingLaws.{found_under}
use Rattle.ledger_views.proofs.FromLedgerSpec.StepLaws.{step_accepted}
use Rattle.chain.proofs.HeadlineLemmas.{IsSoundCourse, shown_so}

all_at : {A : Type 0} (P : A → Type 0) (xs : List A) (n : ℕ) (x : A) → All P xs → slice_get xs n ≡ Some x → P x
all_at P xs n x h at = subst P (get_or_from_slice_get xs n x x at) (All-get_or P xs n x (slice_get_within xs n x at) h)

-- an unspent contract output fits its spelling: an accepted transaction made it
output_fits : (past : Past) → AreKeys past.genesis → All TxFits past.accepted → (q : OutputRef) (o : Output) → unspent_at past q ≡ Some o → is_contract o.lock ≡ true → OutputFits o
output_fits past keys fits q o h is =
    elim (maker past q o (unspent_so past q o h).1) [
      | inl g ↦ absurd (no_contract_first past.genesis keys g.0 o g.1 is)
      | inr m ↦ all_at OutputFits m.tx.outputs m.index o (all_at TxFits past.accepted m.number m.tx fits m.accepted).1.1 m.made
    ]

module _ (current : ShownThreadsAreCurrent) (c : Course) (kept : IsSoundCourse c) where
  abbrev known : List ℕ → Option Published
  known = published_at (published c.entries)

  abbrev past : Past
  past = past_of (world c)

  -- the thread of a look is an unspent contract output, with what is published under its script
  look_shows : (ask : Ask) (e : Thread) → look_thread (look (world c) ask) ≡ Some e → IsShown known past e.shown
  look_shows ask e h = by (thread_shown (world c) ask.thread) refl h
    where
      by : (z : Option ThreadOutput) → thread_shown (world c) ask.thread ≡ z → thread_of z ≡ Some e → IsShown known past e.shown
      by None k m = cc
      by (Some t) k m =
          let s = shown_so (world c) ask.thread t k in
          let x : Thread = record { shown = t; datum = t.datum } in
          let same : x ≡ e = same_some x e (sym (current known past (look (world c) ask) t kept.tables (found_under (published c.entries)) kept.sound k s) ∙ h) in
          subst (λ (y : Thread). IsShown known past y.shown) same s

  pub closes_shown : AnyoneCloses → AcceptsBuilt (published_at (world c).published) (IsOpenAfter c) (Accepts c) → AnyoneClosesShown c
  closes_shown law built ask e i signers change shown reached order late =
      let s = look_shows ask e shown in
      let is : is_contract e.shown.output.lock ≡ true = is_contract_so e.shown.output.lock _ s.contract in
      let named : known e.shown.published.id ≡ Some e.shown.published = ap known (found_under (published c.entries) s.lock.script e.shown.published s.named) ∙ s.named in
      record {
        outcome = law (look (world c) ask) e i signers change shown (output_fits past kept.sound.keys kept.fits e.shown.reference e.shown.output s.unspent is) reached order late;
        accepted = λ clear free. step_accepted built (look (world c) ask) (closing i signers change) e shown clear named free;
      }
