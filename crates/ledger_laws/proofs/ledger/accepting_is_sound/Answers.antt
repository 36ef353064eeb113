use Rattle.ledger_laws.proofs.SoundLemmas.{after_is_sound}
use Rattle.ledger_laws.proofs.ledger.accepting_is_sound.Goals as goal

pub returns : goal.returns
returns g c = after_is_sound g.V.Validator.judges
