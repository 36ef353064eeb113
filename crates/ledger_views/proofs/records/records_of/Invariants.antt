use Rattle.std.proofs.Common.{◌≡◌, ℕ, true, List, Option, drop, length}
use Rattle.std.specs.List.{All}
use Rattle.ledger_kept.specs.Roles.declared.published.Published.{Published}
use Rattle.ledger_kept.specs.Roles.Steps.{marlowe}
use Rattle.ledger_kept.specs.Roles.Terms.{terms_of}
use Rattle.ledger_kept.specs.LedgerLaws.Past.{Past}
use Rattle.ledger_kept.specs.LedgerLaws.Threads.{Member, next_of, Carries}
use Rattle.ledger_kept.specs.LedgerSpec.Records.{HoldNumbers}
use Rattle.ledger_views.specs.RecordsSupport.{Leads, Goes}
use Rattle.ledger_views.proofs.records.records_of.Given as goal

abbrev pub invariant-loop-i : goal.invariant-loop-i
invariant-loop-i l = record {
  goes : (named : List ℕ → Option Published) (past : Past) (run : List Member) → Leads (next_of marlowe named past) l.links l.end →
      Carries named past (terms_of l.published) l.start.script l.links run → Goes named past (terms_of l.published) l.start.script l.links l.records (drop l.i l.links);
  numbers : All (λ x. (terms_of l.published).has x.number ≡ true) l.records;
  count : length l.records ≡ l.i;
  held : (named : List ℕ → Option Published) (past : Past) → Leads (next_of marlowe named past) l.links l.end → HoldNumbers named past l.links l.records;
}
