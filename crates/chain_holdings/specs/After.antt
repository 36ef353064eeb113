-- WHO HOLDS WHAT after a history: what stands unspent, summed by holder and token.
use Rattle.std.specs.Prelude.{◌≡◌, ℤ, List, map, Option, Some, None}
use Rattle.std.specs.List.{flat_map}
use Rattle.contract.specs.Names.declared.token.Token.{Token}
use Rattle.ledger_kept.specs.Bundle.Totals.{total_of}
use Rattle.ledger_kept.specs.EutxoTypes.declared.output.Output.{Output}
use Rattle.ledger_kept.specs.EutxoTypes.declared.output_ref.OutputRef.{OutputRef}
use Rattle.ledger_kept.specs.Ledger.declared.call.Entry.{Entry}
use Rattle.ledger_kept.specs.Ledger.declared.look.ThreadOutput.{ThreadOutput}
use Rattle.ledger_kept.specs.LedgerLaws.Past.{unspent}
use Rattle.ledger_kept.specs.LedgerSpec.Replay.{Course, World, world, past_of}
use Rattle.ledger_kept.specs.LedgerSpec.Views.{thread_shown}
use Rattle.play_holdings.specs.declared.holding.Holding.{Holding}
use Rattle.play_holdings.specs.Holdings.{held_in, AreSums, come_to, of_token}

-- a history by its parts
abbrev pub course : List Output → ℤ → List Entry → Course
course first tick entries = record { genesis = first; first_tick = tick; entries = entries }

-- the output that is shown, if one is
abbrev pub output_shown : Option ThreadOutput → Option OutputRef
output_shown None = None
output_shown (Some t) = Some t.reference

-- where a look shows the thread that starts at an output: nowhere, once it is over
abbrev pub shown_at : World → OutputRef → Option OutputRef
shown_at w start = output_shown (thread_shown w (Some start))

-- HOLDINGS: what each unspent output holds, summed; a contract's under the place of the first of these threads that a look shows there
abbrev pub AreHoldings : Course → List OutputRef → List Holding → Type 0
AreHoldings c starts hs = AreSums (flat_map (held_in (map (shown_at (world c)) starts)) (unspent (past_of (world c)))) hs

-- TOGETHER, token by token, they are what the ledger began with
abbrev pub AreWhatThereWas : Course → List Holding → Type 0
AreWhatThereWas c hs = (t : Token) → come_to (of_token t) hs ≡ total_of (λ (o : Output). o.amount) t c.genesis
