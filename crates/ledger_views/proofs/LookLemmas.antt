-- What is read off an index of what stands is what a look shows of it.
use Rattle.std.proofs.Common.{◌≡◌, refl, ◌∙◌, ap, Option, Some, None}
use Rattle.std.specs.Map.{lookup}
use Rattle.ledger_kept.specs.EutxoTypes.declared.output.Output.{Output}
use Rattle.ledger_kept.specs.EutxoTypes.declared.output_ref.OutputRef.{OutputRef}
use Rattle.ledger_kept.specs.EutxoTypes.Parts.{same_ref}
use Rattle.ledger_kept.specs.LedgerLaws.Past.{unspent_at}
use Rattle.ledger_kept.specs.Ledger.declared.ask.Ask.{Ask}
use Rattle.ledger_kept.specs.LedgerSpec.Replay.{World, past_of}
use Rattle.ledger_kept.specs.LedgerSpec.Views.{made_datum, thread_output_in, thread_output_at, thread_shown, look}
use Rattle.ledger_kept.specs.ChainIndex.Contents.{Contents, contents_of}
use Rattle.ledger_kept.specs.ChainIndex.Laws.{EndsAlike, DataAlike}
use Rattle.ledger_kept.specs.Kept.{IsIndexOf}
use Rattle.ledger_views.specs.ViewsSupport.{output_shown_in, thread_shown_in, look_in}

-- where an output is unspent, its datum is told
same_output : DataAlike → (w : World) (at : Option OutputRef) → output_shown_in (contents_of (past_of w) w.published) at ≡ thread_output_at w at
same_output told w None = refl
same_output told w (Some q) = by (unspent_at (past_of w) q) refl
  where
    by : (o : Option Output) → unspent_at (past_of w) q ≡ o →
        thread_output_in w.published q o (lookup (same_ref q) (contents_of (past_of w) w.published).datums) ≡ thread_output_in w.published q o (made_datum (past_of w) q)
    by None h = refl
    by (Some o) h = ap (thread_output_in w.published q (Some o)) (told w.published (past_of w) q o h)

module _ (ends : EndsAlike) (told : DataAlike) (present : Contents) (w : World) (tied : IsIndexOf present w) where
  same_thread : (asked : Option OutputRef) → thread_shown_in (contents_of (past_of w) w.published) asked ≡ thread_shown w asked
  same_thread None = refl
  same_thread (Some r) =
      ap (output_shown_in (contents_of (past_of w) w.published)) (ends w.published (past_of w) tied.sound r)
      ∙ same_output told w _

  pub same_look : (ask : Ask) → look_in present w.replay.tick ask ≡ look w ask
  same_look ask =
      ap (λ (c : Contents). look_in c w.replay.tick ask) tied.contents
      ∙ (λ i. record (look w ask) { thread = same_thread ask.thread i })
