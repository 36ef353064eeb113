use Rattle.std.proofs.Common.{map, option_map}
use Rattle.json_forms.specs.Forms.{key_word}
use Rattle.json_forms.proofs.KeyLemmas.{nearest_none}
use Rattle.json_forms.proofs.lacking.nearest_key.Goals as goal

pub returns-in-None : goal.returns-in-None
returns-in-None c =
    nearest_none c.args.form c.key_word-word.result.now (key_word c.args.key) (map (λ key. key.now) c.args.keys.now) (option_map (λ found. found.now) c.first_near.result) c.key_word-word.ensures c.in-None.ensures
    c.first_near.ensures
