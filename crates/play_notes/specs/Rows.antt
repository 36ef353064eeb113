-- Worked rows, computed on the definitions, whatever was called.
use Rattle.std.specs.Prelude.{◌≡◌, true, [], ◌∷◌, codes}
use Rattle.builder_spec.specs.EutxoTypes.declared.fault.TxFault.TheVariants.{NotUnspent, OutsideInterval}
use Rattle.builder_spec.specs.EutxoTypes.declared.verdict.Verdict.TheVariants.{Accepted, Refused}
use Rattle.builder_spec.specs.Ledger.declared.call.Call.{Call}
use Rattle.builder_spec.specs.Ledger.declared.call.Reply.TheVariants as replies
use Rattle.play_lines.specs.PlayLines.{played_lines}
use Rattle.play_notes.specs.Notes.{notes_of, put_behind, noted_lines}

-- behind a refused submit stands its rule; behind a round each place that was refused; and a note that was put behind an entry stands behind those of its
-- reply
abbrev pub RefusalsAreTold : Type 0
RefusalsAreTold =
    (submit round : Call) →
    (let entries = record { seat = 1; number = 0; call = submit; reply = replies.Refused (NotUnspent 3) }
    ∷ record {
      seat = 2;
      number = 4;
      call = round;
      reply = replies.Round (record { ticket = 7; verdict = Accepted } ∷ record { ticket = 8; verdict = Refused OutsideInterval } ∷ []);
    } ∷ [] in
    noted_lines (put_behind 1 (codes "    so it is\n") (notes_of entries)) entries (record { name = codes "deal"; steps = 2; closed = true } ∷ []))
    ≡ codes "0 1.0 submit refused NotUnspent 3\n    rule 4: what input 3 spends was spent before, or never was\n1 2.4 round 7 accepted, 8 refused OutsideInterval\n    ticket 8: rule 6: the ledger's tick isn't in the interval\n    so it is\nthread deal steps 2 closed\nentries 2\n"

-- without notes they are the plain lines
abbrev pub NoNotesArePlain : Type 0
NoNotesArePlain =
    (enqueue : Call) →
    (let entries = record { seat = 0; number = 0; call = enqueue; reply = replies.Ticket 0 } ∷ [] in
    noted_lines (notes_of entries) entries [] ≡ played_lines entries [])
