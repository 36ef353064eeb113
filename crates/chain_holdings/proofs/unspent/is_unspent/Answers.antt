use Rattle.std.proofs.Common.{◌∙◌, ap}
use Rattle.ledger_kept.specs.Eutxo.declared.resolved.Resolved.{Resolved}
use Rattle.ledger_kept.specs.Roles.declared.published.Published.{Published}
use Rattle.ledger_kept.specs.LedgerSpec.Replay.{past_of, world}
use Rattle.chain_holdings.specs.CreatedSupport.{first_there}
use Rattle.chain_holdings.proofs.CreatedLemmas.{one_found}
use Rattle.chain_holdings.proofs.unspent.is_unspent.Goals as goal

pub returns : goal.returns
returns c =
    c.first_there.ensures ∙ ap first_there c.as_slice.ensures
    ∙ one_found (past_of (world c.args.chain.now)) c.args.reference c.in_ok-tx.tx.inputs c.in_ok-found.found.outputs c.in_ok-tx.ensures (ap (λ (x : Resolved Published). x.outputs) c.in_ok-found.ensures)
