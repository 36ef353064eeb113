use Rattle.std.proofs.Common.{not, map, sym, ap, ◌∙◌}
use Rattle.json_forms.specs.Forms.{Field, key_word}
use Rattle.json_forms.specs.Lacking.{is_there}
use Rattle.json_forms.proofs.KeyLemmas.{found_here, found_past, found_none}
use Rattle.json_forms.proofs.lacking.first_lacking.Goals as goal

pub returns-then-not-there : goal.returns-then-not-there
returns-then-not-there c =
    found_here (λ (f : Field). not (is_there (map (λ key. key.now) c.args.keys.now) (key_word f.0))) c.args.fields.now _ c.loop-field.field-index c.loop-field-test.true c.loop-field.invariant
    (ap (λ w. not (is_there (map (λ key. key.now) c.args.keys.now) w)) (sym c.key_word.ensures) ∙ ap not (sym c.is_there-there.ensures ∙ c.if-not-there.true))

pub loop-field-preserved : goal.loop-field-preserved
loop-field-preserved c =
    found_past (λ (f : Field). not (is_there (map (λ key. key.now) c.args.keys.now) (key_word f.0))) c.args.fields.now _ c.loop-field.field-index c.loop-field-test.true c.loop-field.invariant
    (ap (λ w. not (is_there (map (λ key. key.now) c.args.keys.now) w)) (sym c.key_word.ensures) ∙ ap not (sym c.is_there-there.ensures ∙ c.if-not-there.false))

pub returns : goal.returns
returns c = found_none (λ (f : Field). not (is_there (map (λ key. key.now) c.args.keys.now) (key_word f.0))) c.args.fields.now c.loop-field.field-index c.loop-field-test.false c.loop-field.invariant
