use Rattle.std.proofs.Common.{ℤ, sym, ap, ◌∙◌, subst, Option, IfSome}
use Rattle.loss_walk.specs.Floors.{least_of, IsTurned}
use Rattle.loss_walk.proofs.FloorLemmas.{tells_none, tells_one}
use Rattle.loss_walk.proofs.losing.put_row.Goals as goal

pub returns-then-quiet : goal.returns-then-quiet
returns-then-quiet c =
    tells_none c.args.rows.now c.args.account.now c.args.all.now
    (sym (c.least_of-least.ensures ∙ ap least_of c.get-row.ensures.value) ∙ c.is_quiet-quiet.ensures c.if-quiet.true)

pub returns : goal.returns
returns c =
    tells_one c.args.rows.now c.args.account.now _ c.args.all.now c.push.new.self c.in_ok-push.ensures.added c.in_ok-try_clone.ensures c.in_ok-try_clone-2.ensures
    (subst (λ (o : Option ℤ). IfSome c.turned.result (IsTurned o)) (c.least_of-least.ensures ∙ ap least_of c.get-row.ensures.value) c.turned.ensures)
