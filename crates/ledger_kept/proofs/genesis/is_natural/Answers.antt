use Rattle.chain_index.proofs.FromBundle.PositiveLaws.{amount_of-natural}
use Rattle.ledger_kept.proofs.genesis.is_natural.Goals as goal

pub returns : goal.returns
returns c t = amount_of-natural c.args.output.now.amount t c.entries.ensures.positive
