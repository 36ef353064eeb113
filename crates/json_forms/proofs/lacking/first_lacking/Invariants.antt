use Rattle.std.proofs.Common.{◌≡◌, not, drop, map, find}
use Rattle.json_forms.specs.Forms.{Field, key_word}
use Rattle.json_forms.specs.Lacking.{is_there}
use Rattle.json_forms.proofs.lacking.first_lacking.Given as goal

-- all keys so far are there
abbrev pub invariant-loop-field : goal.invariant-loop-field
invariant-loop-field l =
    find (λ (f : Field). not (is_there (map (λ key. key.now) l.keys) (key_word f.0))) l.fields
    ≡ find (λ (f : Field). not (is_there (map (λ key. key.now) l.keys) (key_word f.0))) (drop l.field-index l.fields)
