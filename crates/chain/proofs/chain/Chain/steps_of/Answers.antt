use Rattle.std.proofs.Common.{sym, subst, ◌∙◌}
use Rattle.ledger_views.specs.LedgerLaws.Laws.{AreTables}
use Rattle.ledger_views.specs.LedgerSpec.Replay.{Course, world, published_at}
use Rattle.chain.proofs.chain.Chain.steps_of.Goals as goal

pub steps_of-requires-clause-tables : goal.steps_of-requires-clause-tables
steps_of-requires-clause-tables c =
    let s = c.self.inside in
    let course : Course = record { genesis = s.genesis; first_tick = s.first_tick; entries = s.entries.items } in
    let tables : AreTables (published_at (world course).published) = λ script p h. (c.publications_are_entries.ensures.published course c.self.invariant.legal script p h).table in
    subst (λ (v : Course). AreTables (published_at (world v).published)) (c.self.view_is ∙ sym c.kept.ensures) tables
