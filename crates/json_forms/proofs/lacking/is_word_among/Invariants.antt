use Rattle.std.proofs.Common.{◌≡◌, drop, map}
use Rattle.std.specs.List.{list_any}
use Rattle.names.specs.Equal.{same_text}
use Rattle.json_forms.specs.Forms.{Field, key_word}
use Rattle.json_forms.proofs.lacking.is_word_among.Given as goal

-- none of the words so far is the key
abbrev pub invariant-loop-field : goal.invariant-loop-field
invariant-loop-field l =
    list_any (λ word. same_text word l.key) (map (λ (f : Field). key_word f.0) l.fields) ≡ list_any (λ word. same_text word l.key) (map (λ (f : Field). key_word f.0) (drop l.field-index l.fields))
