use Rattle.coin_selection.proofs.MissingLemmas.{nothing, first_is_least, no_first}
use Rattle.coin_selection.proofs.missing.Missing.least.Goals as goal

pub returns-in-None : goal.returns-in-None
returns-in-None c = (nothing c.self.inside.left.entries c.args.self.now c.self.view_is).0 (no_first c.first_key_value.result _ c.in-None.is c.first_key_value.ensures.variant)

pub returns-in-Some : goal.returns-in-Some
returns-in-Some c = first_is_least c.self.inside.left.entries c.args.self.now c.in-Some.token.now c.in-Some.field-0-1.now c.self.view_is c.in-Some.ensures.value c.in-Some.ensures.least
