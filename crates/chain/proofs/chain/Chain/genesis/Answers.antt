use Rattle.std.proofs.Common.{rules, ◌≡◌, ◌∙◌, ap, ℤ, [], to_z, of_z, w64}
use Rattle.ledger_views.specs.LedgerSpec.Replay.{Course}
use Rattle.chain.proofs.chain.Chain.genesis.Goals as goal

pub returns-clause-ok : goal.returns-clause-ok
returns-clause-ok c =
    let same : to_z w64 (of_z w64 c.args.tick) ≡ c.args.tick = search rules in
    (c.in_ok-chain.ensures ∙ ap (λ (t : ℤ). let v : Course = record { genesis = c.args.outputs; first_tick = t; entries = [] } in v) same, search rules, search rules)
