use Rattle.std.proofs.Common.{rules, ◌≡◌, true, ℤ, ◌+ℤ◌, to_z, of_z, Bool, cond, List, ◌++◌, ◌∷◌, [], ◌∙◌, ap, sym}
use Rattle.std.specs.Int.{w128}
use Rattle.play_holdings.specs.declared.holding.Holding.{Holding}
use Rattle.play_holdings.specs.SumsSupport.{is_same, joined, with_amount}
use Rattle.play_holdings.proofs.sums.put_behind.Goals as goal

pub returns-in_ok-push : goal.returns-in_ok-push
returns-in_ok-push c =
    let same : is_same c.args.last c.args.next ≡ true = sym c.is_same.ensures ∙ c.if-is_same.true in
    let a : to_z w128 (of_z w128 c.args.last.amount) ≡ c.args.last.amount = search rules in
    let b : to_z w128 (of_z w128 c.args.next.amount) ≡ c.args.next.amount = search rules in
    let s : to_z w128 (of_z w128 c.sum-amount.result) ≡ c.sum-amount.result = search rules in
    let n = s ∙ c.sum-amount.ensures ∙ ap (λ (x : ℤ). x +ℤ to_z w128 (of_z w128 c.args.next.amount)) a ∙ ap (λ (y : ℤ). c.args.last.amount +ℤ y) b in
    let one : c.with_amount.result ≡ joined c.args.last c.args.next = c.with_amount.ensures ∙ ap (with_amount c.args.last) n in
    c.in_ok-push.ensures.items ∙ ap (λ (h : Holding). c.args.sums.now.items ++ h ∷ []) one
    ∙ ap (λ (b : Bool). c.args.sums.now.items ++ cond b (joined c.args.last c.args.next ∷ []) (c.args.last ∷ c.args.next ∷ [])) (sym same)
