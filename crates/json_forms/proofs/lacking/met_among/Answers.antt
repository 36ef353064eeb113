use Rattle.std.proofs.Common.{map, cond, ap, ◌∙◌, arith}
use Rattle.json_forms.specs.Lacking.{is_met}
use Rattle.json_forms.proofs.KeyLemmas.{counted_more}
use Rattle.json_forms.proofs.lacking.met_among.Goals as goal

pub loop-field-preserved : goal.loop-field-preserved
loop-field-preserved c = record {
  counted =
      counted_more (is_met (map (λ key. key.now) c.args.keys.now) c.args.form) c.args.fields.now _ c.loop-field.field-index c.loop-field.count c.as_count-count.result c.loop-field-test.true
      c.loop-field.invariant.counted (c.as_count-count.ensures.value ∙ ap (λ b. cond b 1 0) c.is_met.ensures);
  few = omega arith;
}
