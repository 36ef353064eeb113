use Rattle.std.proofs.Common.{◌≡◌, ◌++◌, ap, ◌∙◌}
use Rattle.symbols.proofs.branches.keep_taken.Goals as goal

pub returns : goal.returns
returns c =
    let f : c.append.new.list ≡ c.args.condition.now.facts ++ c.args.branch.now.facts =
    c.in_ok-append.ensures ∙ ap (λ xs. xs ++ c.as_slice.result.now) c.in_ok-facts.ensures ∙ ap (λ xs. c.args.condition.now.facts ++ xs) c.as_slice.ensures in
    let d : c.append-2.new.list ≡ c.args.condition.now.apart ++ c.args.branch.now.apart =
    c.in_ok-append-2.ensures ∙ ap (λ xs. xs ++ c.as_slice-2.result.now) c.in_ok-apart.ensures ∙ ap (λ xs. c.args.condition.now.apart ++ xs) c.as_slice-2.ensures in
    rw (← f, ← d, ← c.in_ok-number.ensures) c.in_ok-keep.ensures
