use Rattle.ledger_laws.proofs.SoundLemmas.{start_is_sound}
use Rattle.ledger_laws.proofs.ledger.starting_is_sound.Goals as goal

pub returns : goal.returns
returns g c = start_is_sound g.V.Validator.judges
