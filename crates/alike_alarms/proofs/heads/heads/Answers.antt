use Rattle.std.proofs.Common.{◌≡◌, Option, ℕ, List, [], ◌∷◌, ◌++◌, map, length, sym, ap, ◌∙◌, arith}
use Rattle.std.specs.List.{range_with_len}
use Rattle.std.proofs.lemmas.List.FromFn.{map-range_with_len_more}
use Rattle.alike_alarms.specs.Alike.{head_at}
use Rattle.alike_alarms.proofs.heads.heads.Goals as goal

pub loop-index-preserved : goal.loop-index-preserved
loop-index-preserved c =
    let ts = c.args.tellers.now in
    let i = c.loop-index.index in
    c.in_ok-push.ensures.items
    ∙ ap (λ (xs : List (Option ℕ)). xs ++ c.head_at.result ∷ []) c.loop-index.invariant
    ∙ ap (λ (o : Option ℕ). map (head_at ts) (range_with_len 0 i) ++ o ∷ []) c.head_at.ensures
    ∙ sym (map-range_with_len_more (head_at ts) 0 i i (omega arith))

pub returns : goal.returns
returns c =
    let n : c.loop-index.index ≡ length c.args.tellers.now = omega (arith, c.loop-index-test.false) in
    c.loop-index.invariant ∙ ap (λ k. map (head_at c.args.tellers.now) (range_with_len 0 k)) n
