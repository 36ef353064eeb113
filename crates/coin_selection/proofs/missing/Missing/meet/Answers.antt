use Rattle.std.proofs.Common.{◌≡◌, ◌∙◌, sym, ap, subst, None, rules}
use Rattle.std.specs.FinMap.{get}
use Rattle.std.specs.Option.{IfSome}
use Rattle.builder_spec.specs.Bundle.Bundles.{Amounts, amount_of}
use Rattle.coin_selection.specs.MissingSupport.{left, InRange}
use Rattle.coin_selection.specs.MeetSupport.{left_after}
use Rattle.coin_selection.proofs.MeetLemmas.{after_all}
use Rattle.coin_selection.proofs.MissingLemmas.{nothing}
use Rattle.coin_selection.proofs.missing.Missing.meet.Goals as goal

pub returns-then-not-is_empty : goal.returns-then-not-is_empty
returns-then-not-is_empty c t =
    c.take_all.ensures t
    ∙ ap (left_after (get c.args.self.now t) t) c.entries.ensures.all
    ∙ after_all (get c.args.self.now t) t c.args.bundle.now (subst (λ (v : Amounts). IfSome (get v t) InRange) c.self.view_is (c.self.invariant t))

pub returns-else-not-is_empty : goal.returns-else-not-is_empty
returns-else-not-is_empty c t =
    let none : get c.args.self.now t ≡ None = (nothing c.self.inside.left.entries c.args.self.now c.self.view_is).0 (c.is_empty.ensures.0 (search rules)) t in
    none ∙ sym (ap (λ o. left o (amount_of c.args.bundle.now t)) none)
