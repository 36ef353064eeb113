use Rattle.std.proofs.Common.{◌∙◌}
use Rattle.ledger_spec.specs.Views.{is_payout_of}
use Rattle.chain_index.proofs.ShownLemmas.{rows_shown}
use Rattle.chain_index.proofs.under_locks.payouts_shown.Goals as goal

pub returns : goal.returns
returns c =
    c.in_ok-shown.ensures.rows ∙ rows_shown (is_payout_of c.args.payouts.now) c.args.leaving.now.keys c.args.outputs.now c.in_ok-places.places.keys c.show_all.ensures.ordered c.in_ok-places.ensures
