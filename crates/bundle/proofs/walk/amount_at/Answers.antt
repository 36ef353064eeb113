use Rattle.std.proofs.Common.{sym, ◌∙◌, ap}
use mir.Syntax.{w128}
use Rattle.std.proofs.Math.Facts.{to_z-of_z}
use Rattle.bundle.proofs.WalkLemmas.{is_at, amount_there, amount_nowhere}
use Rattle.bundle.proofs.walk.amount_at.Goals as goal

pub returns-then-is_at : goal.returns-then-is_at
returns-then-is_at c =
    to_z-of_z {w = w128} (record { sfits = c.number_of.type_inv }) ∙ c.number_of.ensures ∙ ap (λ (e : _). e.1) c.index-entries-at.is
    ∙ sym (amount_there c.args.token.now c.args.entries.now c.args.at c.index-entries-at.result (is_at c.args.token.now c.args.entries.now c.args.at c.requires.before (sym c.is_at.ensures ∙ c.if-is_at.true)))

pub returns-else-is_at : goal.returns-else-is_at
returns-else-is_at c = sym (amount_nowhere c.args.token.now c.args.entries.now c.args.at c.requires.sorted c.requires.before c.requires.next (sym c.is_at.ensures ∙ c.if-is_at.false))
