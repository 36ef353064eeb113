-- No reader needs this file: what a chain keeps, the invariant behind the clauses.
use Rattle.std.specs.Prelude.{◌≡◌}
use Rattle.ledger_views.specs.LedgerSpec.Replay.{Course, world}
use Rattle.ledger_views.specs.LedgerSpec.Legal.{IsLegal}
use Rattle.ledger_views.specs.LedgerSpec.Genesis.{SumsFit}
use Rattle.ledger_views.specs.ChainIndex.Contents.{Indexed}
use Rattle.ledger_views.specs.LedgerKept.Kept.{Tally, IsTally, IsIndexOf}

-- a tally of a legal history, and an index of what stands, all of which is settled
pub record IsKept (t : Tally) (index : Indexed) (c : Course) : Type 0 where
  pub tally : IsTally t c
  pub present : IsIndexOf index.present (world c)
  pub settled : index.settled ≡ index.present
  pub legal : IsLegal c
  pub sums : SumsFit c.genesis
