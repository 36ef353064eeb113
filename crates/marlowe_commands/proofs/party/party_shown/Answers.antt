use Rattle.marlowe_commands.proofs.ShownLemmas.{party_shows}
use Rattle.marlowe_commands.proofs.party.party_shown.Goals as goal

pub returns : goal.returns
returns c = party_shows _ _ _ _ c.in_ok-printed.ensures
