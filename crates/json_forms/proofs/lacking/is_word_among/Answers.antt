use Rattle.std.proofs.Common.{sym, ap, ◌∙◌}
use Rattle.names.specs.Equal.{same_text}
use Rattle.json_forms.specs.Forms.{Field, key_word}
use Rattle.json_forms.proofs.KeyLemmas.{any_here, any_past, any_none}
use Rattle.json_forms.proofs.lacking.is_word_among.Goals as goal

pub returns-then-same : goal.returns-then-same
returns-then-same c =
    any_here (λ (f : Field). key_word f.0) c.args.fields.now (λ word. same_text word c.args.key.now) _ c.loop-field.field-index c.loop-field-test.true c.loop-field.invariant
    (ap (λ w. same_text w c.args.key.now) (sym c.key_word.ensures) ∙ sym c.eq-same.ensures ∙ c.if-same.true)

pub loop-field-preserved : goal.loop-field-preserved
loop-field-preserved c =
    any_past (λ (f : Field). key_word f.0) c.args.fields.now (λ word. same_text word c.args.key.now) _ c.loop-field.field-index c.loop-field-test.true c.loop-field.invariant
    (ap (λ w. same_text w c.args.key.now) (sym c.key_word.ensures) ∙ sym c.eq-same.ensures ∙ c.if-same.false)

pub returns : goal.returns
returns c = any_none (λ (f : Field). key_word f.0) c.args.fields.now (λ word. same_text word c.args.key.now) c.loop-field.field-index c.loop-field-test.false c.loop-field.invariant
