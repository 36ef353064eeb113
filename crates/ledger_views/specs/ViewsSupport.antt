-- No reader needs this file: what a look shows, as it is read off an index.
use Rattle.std.specs.Prelude.{ℤ, Option, Some, None}
use Rattle.std.specs.Map.{lookup}
use Rattle.ledger_kept.specs.EutxoTypes.Parts.{same_ref}
use Rattle.ledger_kept.specs.EutxoTypes.declared.output_ref.OutputRef.{OutputRef}
use Rattle.ledger_kept.specs.Ledger.declared.ask.Ask.{Ask}
use Rattle.ledger_kept.specs.Ledger.declared.look.Look.{Look}
use Rattle.ledger_kept.specs.Ledger.declared.look.ThreadOutput.{ThreadOutput}
use Rattle.ledger_kept.specs.LedgerSpec.Views.{is_key_of, is_payout_of, thread_output_in}
use Rattle.ledger_kept.specs.ChainIndex.Contents.{Contents, end_in, under_locks_in}

-- the unspent output of a thread, with its datum and what is published under its script
abbrev pub output_shown_in : Contents → Option OutputRef → Option ThreadOutput
output_shown_in c None = None
output_shown_in c (Some q) = thread_output_in c.published q (lookup (same_ref q) c.unspent) (lookup (same_ref q) c.datums)

abbrev pub thread_shown_in : Contents → Option OutputRef → Option ThreadOutput
thread_shown_in c None = None
thread_shown_in c (Some r) = output_shown_in c (end_in c r)

abbrev pub look_in : Contents → ℤ → Ask → Look
look_in c tick ask = record { tick = tick; thread = thread_shown_in c ask.thread; keys = under_locks_in (is_key_of ask.keys) c; payouts = under_locks_in (is_payout_of ask.payouts) c }
