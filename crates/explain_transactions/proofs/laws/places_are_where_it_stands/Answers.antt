use Rattle.explain_transactions.proofs.PlacesLemmas.{places_stand}
use Rattle.explain_transactions.proofs.RefusedLemmas.{places_are_led}
use Rattle.explain_transactions.proofs.laws.places_are_where_it_stands.Goals as goal

pub returns : goal.returns
returns c = record { stands = places_stand; led = places_are_led }
