-- No reader needs this file: what a look leaves as it was.
use Rattle.std.specs.Prelude.{◌≡◌}
use Rattle.ledger_kept.specs.LedgerSpec.Replay.{Course, published, past_of, world}

abbrev pub IsStill : Course → Course → Type 0
IsStill c d = (published d.entries ≡ published c.entries) × (past_of (world d) ≡ past_of (world c))
