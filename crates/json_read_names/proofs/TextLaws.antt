-- Laws for readers of texts: what a text stands for, case by case.
use Rattle.std.proofs.Common.{◌≡◌, ℕ, ◌<◌, ◌≤◌, List, length, Bool, true, false, cond, Some, None, Ok, Err, refl, ap, ◌∙◌, arith}
use Rattle.std.specs.Str.{is_utf8, IsUtf8}
use Rattle.std.proofs.lemmas.Str.{is_utf8-from_IsUtf8, IsUtf8-from_is_utf8}
use Rattle.serde_json.specs.Data.{Data}
use Rattle.serde_json.specs.Read.{read}
use Rattle.json_tree.specs.View.{read_within}
use Rattle.json_read_names.specs.ReadsText.{json_of, json_or_not, json_within}
use Rattle.json_read_names.specs.declared.fault.JsonFault.TheVariants.{NotJson, TooLong}

pub json_of-long : (text : List ℕ) → 1048576 < length text → json_of text ≡ Err TooLong
unfolding json_of
json_of-long text h = grind arith

short : (text : List ℕ) → length text ≤ 1048576 → json_of text ≡ cond (is_utf8 text) (json_or_not (read text)) (Err NotJson)
unfolding json_of
short text h = grind arith

pub json_of-read : (text : List ℕ) (d : Data) → length text ≤ 1048576 → IsUtf8 text → read text ≡ Some d → json_of text ≡ Ok d
json_of-read text d h u r = short text h ∙ ap (λ b. cond b (json_or_not (read text)) (Err NotJson)) (is_utf8-from_IsUtf8 text u) ∙ ap json_or_not r

refused_by : (text : List ℕ) (b : Bool) → is_utf8 text ≡ b → (IsUtf8 text → read text ≡ None) → cond b (json_or_not (read text)) (Err NotJson) ≡ Err NotJson
refused_by text true e h = ap json_or_not (h (IsUtf8-from_is_utf8 text e))
refused_by text false e h = refl

pub json_of-refused : (text : List ℕ) → length text ≤ 1048576 → (IsUtf8 text → read text ≡ None) → json_of text ≡ Err NotJson
json_of-refused text h none = short text h ∙ refused_by text (is_utf8 text) refl none

pub ruleset text_steps = (json_of-long, json_of-read, json_of-refused)

-- ---- the same within n levels

pub json_within-long : (n : ℕ) (text : List ℕ) → 1048576 < length text → json_within n text ≡ Err TooLong
unfolding json_within
json_within-long n text h = grind arith

short_within : (n : ℕ) (text : List ℕ) → length text ≤ 1048576
    → json_within n text ≡ cond (is_utf8 text) (json_or_not (read_within n text)) (Err NotJson)
unfolding json_within
short_within n text h = grind arith

pub json_within-read : (n : ℕ) (text : List ℕ) (d : Data) → length text ≤ 1048576 → IsUtf8 text → read_within n text ≡ Some d → json_within n text ≡ Ok d
json_within-read n text d h u r =
    short_within n text h ∙ ap (λ b. cond b (json_or_not (read_within n text)) (Err NotJson)) (is_utf8-from_IsUtf8 text u) ∙ ap json_or_not r

refused_within : (n : ℕ) (text : List ℕ) (b : Bool) → is_utf8 text ≡ b → (IsUtf8 text → read_within n text ≡ None)
    → cond b (json_or_not (read_within n text)) (Err NotJson) ≡ Err NotJson
refused_within n text true e h = ap json_or_not (h (IsUtf8-from_is_utf8 text e))
refused_within n text false e h = refl

pub json_within-refused : (n : ℕ) (text : List ℕ) → length text ≤ 1048576 → (IsUtf8 text → read_within n text ≡ None) → json_within n text ≡ Err NotJson
json_within-refused n text h none = short_within n text h ∙ refused_within n text (is_utf8 text) refl none

-- 127 levels are those of every other reader
pub json_within-127 : (text : List ℕ) → json_within 127 text ≡ json_of text
unfolding json_within json_of
json_within-127 text = refl

pub ruleset deep_text_steps = (json_within-long, json_within-read, json_within-refused)
