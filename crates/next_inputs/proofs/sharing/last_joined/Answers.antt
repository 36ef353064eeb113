use Rattle.std.proofs.Common.{[], ◌∷◌, ◌++◌, ◌∙◌, ap, sym}
use Rattle.next_inputs.specs.Claiming.{put}
use Rattle.next_inputs.proofs.Putting.{put_touch, put_gap}
use Rattle.next_inputs.proofs.sharing.last_joined.Goals as goal

pub returns-then-touches : goal.returns-then-touches
returns-then-touches c =
    let r = c.args.range in
    ap (λ z. put z r.from r.to) c.in-Some.ensures.items
    ∙ (put_touch c.pop.new.self.items c.in-Some.last r.from r.to (sym c.touches.ensures ∙ c.if-touches.true) ∙ ap (λ z. c.pop.new.self.items ++ z ∷ []) (sym c.from_to-both.ensures))

pub returns : goal.returns
returns c =
    let r = c.args.range in
    ap (λ z. put z r.from r.to) c.in-Some.ensures.items
    ∙ (put_gap c.pop.new.self.items c.in-Some.last r.from r.to (sym c.touches.ensures ∙ c.if-touches.false) ∙ ap (λ z. z ++ r ∷ []) (sym c.in_ok-push.ensures.items))
