-- What a line stands for, case by case.
use Rattle.std.proofs.Common.{◌≡◌, ℕ, ◌+◌, List, Bool, true, false, cond, Some, None, Ok, Err, refl, ap, ◌∙◌}
use Rattle.std.specs.Str.{is_utf8, IsUtf8}
use Rattle.std.proofs.lemmas.Str.{is_utf8-from_IsUtf8, IsUtf8-from_is_utf8}
use Rattle.serde_json.specs.Data.{Data}
use Rattle.json_tree.specs.View.{read_within}
use Rattle.json_tree.specs.declared.read.Refusal.TheVariants.{NotJson}
use Rattle.requests.specs.Requests.{json_or_not, line_json}

pub line-read : (n : ℕ) (line : List ℕ) (d : Data) → IsUtf8 line → read_within (n + 2) line ≡ Some d → line_json n line ≡ Ok d
unfolding line_json
line-read n line d u r = ap (λ b. cond b (json_or_not (read_within (n + 2) line)) (Err NotJson)) (is_utf8-from_IsUtf8 line u) ∙ ap json_or_not r

refused_by : (n : ℕ) (line : List ℕ) (b : Bool) → is_utf8 line ≡ b → (IsUtf8 line → read_within (n + 2) line ≡ None)
    → cond b (json_or_not (read_within (n + 2) line)) (Err NotJson) ≡ Err NotJson
refused_by n line true e h = ap json_or_not (h (IsUtf8-from_is_utf8 line e))
refused_by n line false e h = refl

pub line-refused : (n : ℕ) (line : List ℕ) → (IsUtf8 line → read_within (n + 2) line ≡ None) → line_json n line ≡ Err NotJson
unfolding line_json
line-refused n line none = refused_by n line (is_utf8 line) refl none

pub ruleset line_steps = (line-read, line-refused)
