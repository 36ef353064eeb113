use Rattle.std.proofs.Common.{◌&&◌, sym, ◌∙◌}
use Rattle.json_forms.specs.Spelling.{one_apart}
use Rattle.json_forms.specs.Lacking.{is_free}
use Rattle.json_forms.proofs.KeyLemmas.{find_here, find_past, find_none}
use Rattle.json_forms.proofs.lacking.first_one_apart.Goals as goal

pub returns-then-fits : goal.returns-then-fits
returns-then-fits c =
    find_here (λ key. key.now) c.args.keys.now (λ key. is_free c.args.form key && one_apart c.args.word.now key) _ c.loop-key.key-index c.loop-key-test.true c.loop-key.invariant
    (sym c.is_free_and_one_apart-fits.ensures ∙ c.if-fits.true)

pub loop-key-preserved : goal.loop-key-preserved
loop-key-preserved c =
    find_past (λ key. key.now) c.args.keys.now (λ key. is_free c.args.form key && one_apart c.args.word.now key) _ c.loop-key.key-index c.loop-key-test.true c.loop-key.invariant
    (sym c.is_free_and_one_apart-fits.ensures ∙ c.if-fits.false)

pub returns : goal.returns
returns c = find_none (λ key. key.now) c.args.keys.now (λ key. is_free c.args.form key && one_apart c.args.word.now key) c.loop-key.key-index c.loop-key-test.false c.loop-key.invariant
