use Rattle.std.proofs.Common.{◌≡◌, Option, Some, true, false, length, get_or, sym, ap, ◌∙◌, add-one, arith}
use Rattle.std.specs.Ordering.{eq_by_cmp}
use Rattle.linear.specs.Linear.{Linear}
use Rattle.analysis_values.proofs.LookupLemmas.{skips, hits, ends}
use Rattle.analysis_values.proofs.lookup.found.Goals as goal

pub loop-entry-preserved : goal.loop-entry-preserved
loop-entry-preserved g c =
    let R = g.K.Ord.cmp in
    let x = g.Q.Probe.sought c.args.key.now in
    let es = c.args.entries.now in
    let i = c.loop-entry.entry-index in
    let d = c.entry-item.result in
    let e : eq_by_cmp R x (get_or es i d).0 ≡ false = ap (λ z. eq_by_cmp R x z.0) (sym c.entry-item.is) ∙ sym c.is_key-same.ensures ∙ c.if-same.false in
    rw (add-one i) (skips R x es i d c.loop-entry-test.true e ∙ c.loop-entry.invariant)

pub returns-then-same : goal.returns-then-same
returns-then-same g c =
    let R = g.K.Ord.cmp in
    let x = g.Q.Probe.sought c.args.key.now in
    let es = c.args.entries.now in
    let i = c.loop-entry.entry-index in
    let d = c.entry-item.result in
    let e : eq_by_cmp R x (get_or es i d).0 ≡ true = ap (λ z. eq_by_cmp R x z.0) (sym c.entry-item.is) ∙ sym c.is_key-same.ensures ∙ c.if-same.true in
    ap (λ z. let o : Option Linear = Some z in o) (c.in_ok-value.ensures ∙ ap (λ z. z.1) c.entry-item.is) ∙ sym (hits R x es i d c.loop-entry-test.true e) ∙ c.loop-entry.invariant

pub returns : goal.returns
returns g c =
    let R = g.K.Ord.cmp in
    let x = g.Q.Probe.sought c.args.key.now in
    let es = c.args.entries.now in
    let i = c.loop-entry.entry-index in
    let e : c.loop-entry.entry-index ≡ length es = omega arith in
    sym (ends R x es i e) ∙ c.loop-entry.invariant
