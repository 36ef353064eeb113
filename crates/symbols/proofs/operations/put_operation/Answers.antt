use Rattle.std.proofs.Common.{◌≡◌, List, [], ◌∷◌, ◌++◌, ap, subst, ◌∙◌}
use Rattle.linear.specs.Linear.{Linear}
use Rattle.symbols.specs.declared.named.Named.{Named}
use Rattle.symbols.specs.Held.{IsNewest}
use Rattle.symbols.proofs.ResultLemmas.{put_operation_held}
use Rattle.symbols.proofs.operations.put_operation.Goals as goal

pub returns : goal.returns
returns c = λ fs ds cs.
    let j : c.push-2.new.self ≡ c.make_room.new.list ++ (record { divides = c.args.divides; left = c.args.first.now; right = c.args.second.now; symbol = c.len-symbol.result }) ∷ [] =
    c.in_ok-push-2.ensures.added
    ∙ ap (λ (x : Linear). c.make_room.new.list ++ (record { divides = c.args.divides; left = x; right = c.in_ok-right.right; symbol = c.len-symbol.result }) ∷ []) c.in_ok-left.ensures
    ∙ ap (λ (x : Linear). c.make_room.new.list ++ (record { divides = c.args.divides; left = c.args.first.now; right = x; symbol = c.len-symbol.result }) ∷ []) c.in_ok-right.ensures in
    put_operation_held c.args.bounds.now c.push.new.self c.args.range fs ds cs c.args.operations.now c.make_room.new.list c.in_ok-shared.shared c.args.divides c.args.first.now c.args.second.now c.in_ok-e.e
    c.len-symbol.result (subst (λ (x : List Named). IsNewest x c.make_room.new.list) c.in_ok-list.ensures c.in_ok-make_room.ensures) c.in_ok-push.ensures c.len-symbol.ensures
    c.in_ok-e.ensures (c.in_ok-shared.ensures ∙ j)
