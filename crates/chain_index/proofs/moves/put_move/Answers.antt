use Rattle.std.proofs.Common.{◌∙◌}
use Rattle.ledger_spec.specs.EutxoTypes.contracts.output_ref.OutputRefPartialEq.TheImpl.{ghosts}
use Rattle.indexmap.proofs.CallerLemmas.{insert_entry-new}
use Rattle.chain_index.proofs.MoveLemmas.{new_there}
use Rattle.chain_index.proofs.moves.put_move.Goals as goal

pub returns-in-Ok-clause-ok : goal.returns-in-Ok-clause-ok
returns-in-Ok-clause-ok c =
    c.in-Ok.ensures.entries ∙ insert_entry-new ghosts.eq c.args.moves.now c.args.spends c.args.step (new_there c.args.spends c.args.moves.now.entries c.requires)
