-- The definition of the lines on small histories, whatever was called.
use Rattle.std.specs.Prelude.{◌≡◌, true, false, [], ◌∷◌, codes}
use Rattle.builder_spec.specs.EutxoTypes.declared.fault.TxFault.TheVariants.{NotUnspent, OutsideInterval}
use Rattle.builder_spec.specs.EutxoTypes.declared.verdict.Verdict.TheVariants.{Accepted, Refused}
use Rattle.builder_spec.specs.Ledger.declared.call.Call.{Call}
use Rattle.builder_spec.specs.Ledger.declared.call.Reply.TheVariants as replies
use Rattle.play_lines.specs.PlayLines.{played_lines}

-- nothing was called
abbrev pub NothingCalled : Type 0
NothingCalled = played_lines [] [] ≡ codes "entries 0\n"

-- a submit was refused, a round took two from the pool, and a thread is closed
abbrev pub OneOfEach : Type 0
OneOfEach =
    (submit round : Call) →
    played_lines
    (record { seat = 1; number = 0; call = submit; reply = replies.Refused (NotUnspent 3) }
    ∷ record {
      seat = 2;
      number = 4;
      call = round;
      reply = replies.Round (record { ticket = 7; verdict = Accepted } ∷ record { ticket = 8; verdict = Refused OutsideInterval } ∷ []);
    } ∷ [])
    (record { name = codes "deal"; steps = 2; closed = true } ∷ [])
    ≡ codes "0 1.0 submit refused NotUnspent 3\n1 2.4 round 7 accepted, 8 refused OutsideInterval\nthread deal steps 2 closed\nentries 2\n"

-- a round took none, and a thread was never stepped
abbrev pub NoneTaken : Type 0
NoneTaken =
    (round : Call) →
    played_lines (record { seat = 0; number = 0; call = round; reply = replies.Round [] } ∷ [])
    (record { name = codes "a"; steps = 0; closed = false } ∷ [])
    ≡ codes "0 0.0 round none\nthread a steps 0 open\nentries 1\n"
