-- What a text stands for: what its JSON value stands for.
use Rattle.std.specs.Prelude.{ℕ, List, length, nat_lt, Option, Some, None, Ok, Err, if◌then◌else◌}
use Rattle.std.specs.Str.{is_utf8}
use Rattle.serde_json.specs.Data.{Data}
use Rattle.serde_json.specs.Read.{read}
use Rattle.json_tree.specs.View.{read_within}
use Rattle.names.specs.Collections.Answers.{◌>>=◌}
use Rattle.json_read_names.specs.Parts.{Reading}
use Rattle.json_read_names.specs.declared.fault.JsonFault.TheVariants.{NotJson, TooLong}

abbrev pub json_or_not : Option Data → Reading Data
json_or_not None = Err NotJson
json_or_not (Some d) = Ok d

-- the JSON value of a text of at most 1,048,576 bytes
unfoldable pub json_of : List ℕ → Reading Data
json_of text =
    if nat_lt 1048576 (length text) then Err TooLong
    else (if is_utf8 text then json_or_not (read text) else Err NotJson)

-- the same, where lists and objects nest no deeper than n: `read` has 127
unfoldable pub json_within : ℕ → List ℕ → Reading Data
json_within n text =
    if nat_lt 1048576 (length text) then Err TooLong
    else (if is_utf8 text then json_or_not (read_within n text) else Err NotJson)

-- the reading of a text, by the reading of its JSON value
abbrev pub of_text : {X : Type 0} → (Data → Reading X) → List ℕ → Reading X
of_text reading text = json_of text >>= reading

abbrev pub of_text_within : {X : Type 0} → ℕ → (Data → Reading X) → List ℕ → Reading X
of_text_within n reading text = json_within n text >>= reading
