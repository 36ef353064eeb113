use Rattle.unread_laws.proofs.FormLaws.{readers_take_these_forms}
use Rattle.unread_laws.proofs.laws.readers_take_these_forms.Goals as goal

pub returns : goal.returns
returns c = readers_take_these_forms
