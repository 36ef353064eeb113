use Rattle.std.proofs.Common.{sym, ◌∙◌, ap}
use Rattle.std.specs.Prelude.{is_some}
use Rattle.coin_selection.proofs.MissingLemmas.{known}
use Rattle.coin_selection.proofs.missing.Missing.lacks.Goals as goal

pub returns : goal.returns
returns c = c.contains_key.ensures ∙ ap is_some (sym (known c.self.inside.left.entries c.args.self.now c.self.view_is c.args.token.now))
