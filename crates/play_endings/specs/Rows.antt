-- Worked rows, computed on the definitions, whatever was called and shown.
use Rattle.std.specs.Prelude.{◌≡◌, ℕ, List, true, false, [], ◌∷◌, map, Some, codes, pos}
use Rattle.contract.specs.declared.interval.Interval.{Interval}
use Rattle.ledger.specs.EutxoTypes.declared.fault.TxFault.TheVariants.{NotUnspent, OutsideInterval}
use Rattle.ledger.specs.EutxoTypes.declared.verdict.Verdict.TheVariants as verdicts
use Rattle.ledger.specs.declared.call.Call.{Call}
use Rattle.ledger.specs.declared.call.Entry.{Entry}
use Rattle.ledger.specs.declared.call.Reply.{Reply}
use Rattle.ledger.specs.declared.call.Reply.TheVariants as replies
use Rattle.ledger.specs.declared.look.Look.{Look}
use Rattle.play_objects.specs.Plans.declared.intent.Intent.{Intent}
use Rattle.play_objects.specs.Plans.declared.intent.Intent.TheVariants as intents
use Rattle.play_endings.specs.declared.ending.Ending.{Ending}
use Rattle.play_endings.specs.declared.ending.Ending.TheVariants as ends
use Rattle.play_endings.specs.declared.ending.LeftIntent.{LeftIntent}
use Rattle.play_endings.specs.Endings.{EndedAt, endings, entries_of, handed, taken_in}
use Rattle.play_endings.specs.EndingLines.{ending_line, ending_object}

abbrev pub answered : Call → ℕ → Reply → Entry
answered call seat reply = record { seat = seat; number = 0; call = call; reply = reply }

-- how the intents of the plan with seat 1 ended
abbrev pub ended : List (Intent ℕ ℕ) → List LeftIntent → List Entry → List Ending
ended xs ls es = map (λ (e : EndedAt). e.ending) (endings (taken_in 0 es) 0 xs ls (entries_of 1 0 es))

abbrev pub a_step : Interval → Intent ℕ ℕ
a_step i = intents.Step 0 [] i false

-- a step whose first transaction comes too late is accepted at its second turn; a claim that is shown no payout claims nothing; and then the plan stops
abbrev pub TurnsAreOneIntent : Type 0
TurnsAreOneIntent =
    (call : Call) (look : Look) (id role : List ℕ) (i : Interval) →
    ended (a_step i ∷ intents.Claim 0 role i ∷ intents.Advance (pos 9) ∷ []) (record { intent = 1; last_look = Some 5; no_thread = true } ∷ [])
    (answered call 1 (replies.Look look)
    ∷ answered call 1 (replies.Refused (NotUnspent 0))
    ∷ answered call 1 (replies.Look look)
    ∷ answered call 1 (replies.Accepted id)
    ∷ answered call 2 (replies.Look look)
    ∷ answered call 1 (replies.Look look)
    ∷ [])
    ≡ ends.Done 3 ∷ ends.NothingToClaim ∷ ends.Stopped ∷ []

-- of four steps that were enqueued the pool had no room for the last; a round takes two, and refuses the second
abbrev pub RoundsEndWhatWasPooled : Type 0
RoundsEndWhatWasPooled =
    (call : Call) (look : Look) (i : Interval) →
    ended (a_step i ∷ a_step i ∷ a_step i ∷ a_step i ∷ intents.Round 2 1 ∷ []) []
    (answered call 1 (replies.Look look)
    ∷ answered call 1 (replies.Ticket 0)
    ∷ answered call 1 (replies.Look look)
    ∷ answered call 1 (replies.Ticket 1)
    ∷ answered call 1 (replies.Look look)
    ∷ answered call 1 (replies.Ticket 2)
    ∷ answered call 1 (replies.Look look)
    ∷ answered call 1 replies.Full
    ∷ answered call 1 (replies.Round (record { ticket = 0; verdict = verdicts.Accepted } ∷ record { ticket = 1; verdict = verdicts.Refused OutsideInterval } ∷ []))
    ∷ [])
    ≡ ends.Done 8 ∷ ends.RefusedInRound 8 1 ∷ ends.Pooled 2 ∷ ends.PoolFull 7 ∷ ends.Done 8 ∷ []

-- where no try is left, it is given up; and a rule's refusal ends it at once
abbrev pub RefusalsEndIt : Type 0
RefusalsEndIt =
    (call : Call) (look : Look) →
    ((handed 0 [] (record { place = 4; entry = answered call 1 (replies.Look look) }
    ∷ record { place = 6; entry = answered call 1 (replies.Refused (NotUnspent 1)) } ∷ [])).ending ≡ ends.GivenUp 6)
    × ((handed 9 [] (record { place = 6; entry = answered call 1 (replies.Refused OutsideInterval) } ∷ [])).ending ≡ ends.Refused 6)

abbrev pub EndingsAreTold : Type 0
EndingsAreTold =
    (ending_line (codes "\"ann\"") [] [] (intents.Advance (pos 3)) (ends.Backward 5) ≡ codes "plan \"ann\" advance 3: backward at 5\n")
    × (ending_line (codes "\"ann\"") [] [] (intents.Round 2 1) (ends.RefusedInRound 8 1) ≡ codes "plan \"ann\" round 2: refused in round at 8, ticket 1\n")
    × (ending_object (codes "\"ann\"") [] [] 4 (intents.Round 2 1) (ends.RefusedInRound 8 1)
    ≡ codes "{\"plan\":\"ann\",\"place\":4,\"intent\":{\"round\":2},\"ended\":\"refused in round\",\"entry\":8,\"ticket\":1}\n")
