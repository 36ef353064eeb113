-- Entries after the entries of a history.
use Rattle.std.proofs.Common.{◌≡◌, List, [], ◌∷◌, ◌++◌, refl}
use Rattle.builder_spec.specs.Ledger.declared.call.Entry.{Entry}
use Rattle.ledger_spec.specs.Replay.{Replay, after_call, replay_from}

pub replay_after : (s : Replay) (es : List Entry) (e : Entry) → replay_from s (es ++ e ∷ []) ≡ after_call (replay_from s es) e.call e.reply
replay_after s [] e = refl
replay_after s (x ∷ es) e = replay_after (after_call s x.call x.reply) es e

-- what stands after some entries and then others
pub replay_two : (s : Replay) (es fs : List Entry) → replay_from s (es ++ fs) ≡ replay_from (replay_from s es) fs
replay_two s [] fs = refl
replay_two s (e ∷ es) fs = replay_two (after_call s e.call e.reply) es fs
