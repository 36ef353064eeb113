use Rattle.std.proofs.Common.{◌∙◌, ◌++◌, drop, ap, sym, arith}
use Rattle.claims.proofs.Joining.{joins_none, step_left, step_right, step_drop, step_cut, still_within, ends_left, ends_right}
use Rattle.claims.proofs.settled.joined.Goals as goal
use Rattle.claims.proofs.settled.joined.Goals.{then-loop-i-test+else-j-right, else-loop-i-test}

pub loop-i-preserved-then-is_before : goal.loop-i-preserved-then-is_before
loop-i-preserved-then-is_before g c =
    let v = c.loop-i.invariant in
    record {
      left_in = omega arith;
      right_in = v.right_in;
      joins = step_left g.K.Ord.cmp g.met.K.Ord.total (c.args.left.now ++ c.args.right.now) c.loop-i.all.items c.args.left.now c.loop-i.right c.push.new.self.items c.loop-i.i c.loop-i.j c.index-left-i.result c.index-right-j.result
          (omega arith) (omega arith) c.index-left-i.is c.index-right-j.is (sym c.is_before.ensures ∙ c.if-is_before.true) c.in_ok-push.ensures.items v.joins;
    }

pub loop-i-preserved-then-is_before-2 : goal.loop-i-preserved-then-is_before-2
loop-i-preserved-then-is_before-2 g c =
    let v = c.loop-i.invariant in
    record {
      left_in = v.left_in;
      right_in = omega arith;
      joins = step_right g.K.Ord.cmp g.met.K.Ord.total (c.args.left.now ++ c.args.right.now) c.loop-i.all.items c.args.left.now c.loop-i.right c.push-then-is_before-2.new.self.items c.loop-i.i c.loop-i.j c.index-left-i.result
          c.index-right-j.result (omega arith) (omega arith) c.index-left-i.is c.index-right-j.is (sym c.is_before-else-is_before.ensures ∙ c.if-is_before-2.true) c.in_ok-push-2.ensures.items v.joins;
    }

pub loop-i-preserved-then-ends_before : goal.loop-i-preserved-then-ends_before
loop-i-preserved-then-ends_before g c =
    let v = c.loop-i.invariant in
    record {
      left_in = omega arith;
      right_in = still_within g.K.Ord.cmp g.met.K.Ord.total c.loop-i.right c.loop-i.j c.above.result c.loop-i.j v.right_in;
      joins = step_cut g.K.Ord.cmp g.met.K.Ord.total (c.args.left.now ++ c.args.right.now) c.loop-i.all.items c.args.left.now c.loop-i.right c.push_front.new.all.items c.push-then-ends_before.new.self.items c.loop-i.i c.loop-i.j
          c.index-left-i.result c.index-right-j.result c.above.result (omega arith) (omega arith) c.index-left-i.is c.index-right-j.is (sym c.is_before.ensures ∙ c.if-is_before.false)
          (sym c.is_before-else-is_before.ensures ∙ c.if-is_before-2.false) (sym c.ends_before.ensures ∙ c.if-ends_before.true) c.in_ok-push_front.ensures c.in_ok-push-3.ensures.items (c.above.ensures (sym c.ends_before.ensures ∙ c.if-ends_before.true)) v.joins;
    }

pub loop-i-preserved : goal.loop-i-preserved
loop-i-preserved g c =
    let v = c.loop-i.invariant in
    record {
      left_in = v.left_in;
      right_in = omega arith;
      joins = step_drop g.K.Ord.cmp g.met.K.Ord.total (c.args.left.now ++ c.args.right.now) c.loop-i.all.items c.args.left.now c.loop-i.right c.push_front.new.all.items c.loop-i.i c.loop-i.j c.index-left-i.result
          c.index-right-j.result (omega arith) (omega arith) c.index-left-i.is c.index-right-j.is (sym c.is_before.ensures ∙ c.if-is_before.false) (sym c.is_before-else-is_before.ensures ∙ c.if-is_before-2.false)
          (sym c.ends_before.ensures ∙ c.if-ends_before.false) c.in_ok-push_front.ensures v.joins;
    }

pub returns-clause-apart : goal.returns-clause-apart
returns-clause-apart g c =
    let v = c.loop-i.invariant in
    let e = c.in_ok-push_from-2.ensures ∙ ap (λ z. z ++ drop c.loop-i.j c.loop-i.right) c.in_ok-push_from.ensures in
    elim c.loop-i-test.branch [
      | then-loop-i-test+else-j-right w ↦ (ends_right g.K.Ord.cmp g.met.K.Ord.total _ _ c.args.left.now c.loop-i.right _ c.loop-i.i c.loop-i.j (omega arith) e v.joins).0
      | else-loop-i-test w ↦ (ends_left g.K.Ord.cmp g.met.K.Ord.total _ _ c.args.left.now c.loop-i.right _ c.loop-i.i c.loop-i.j (omega arith) e v.joins).0
    ]

pub returns-clause-owners : goal.returns-clause-owners
returns-clause-owners g c =
    let v = c.loop-i.invariant in
    let e = c.in_ok-push_from-2.ensures ∙ ap (λ z. z ++ drop c.loop-i.j c.loop-i.right) c.in_ok-push_from.ensures in
    elim c.loop-i-test.branch [
      | then-loop-i-test+else-j-right w ↦ (ends_right g.K.Ord.cmp g.met.K.Ord.total _ _ c.args.left.now c.loop-i.right _ c.loop-i.i c.loop-i.j (omega arith) e v.joins).1
      | else-loop-i-test w ↦ (ends_left g.K.Ord.cmp g.met.K.Ord.total _ _ c.args.left.now c.loop-i.right _ c.loop-i.i c.loop-i.j (omega arith) e v.joins).1
    ]
