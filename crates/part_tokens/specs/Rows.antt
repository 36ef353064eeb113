-- Worked rows, computed on the definitions.
use Rattle.std.specs.Prelude.{◌≡◌, ℕ, List, [], ◌∷◌, Some, None, codes}
use Rattle.json.specs.Token.{Token}
use Rattle.json.specs.Lex.{tokens}
use Rattle.part_tokens.specs.PartTokens.{token_at}

-- a contract that waits for a choice
abbrev pub waits : List ℕ
waits = codes "{\"when\": [ {\"case\":{\"notify_if\":true},\"then\":\"close\"},\n {\"case\":1.0} ],\"timeout\":[]}"

abbrev pub PartsBeginWithTheirTokens : Type 0
PartsBeginWithTheirTokens =
    (token_at 127 [] (tokens waits) ≡ Some Token.begin_object)
    × (token_at 127 (0 ∷ []) (tokens waits) ≡ Some Token.begin_array)
    × (token_at 127 (0 ∷ 0 ∷ 1 ∷ []) (tokens waits) ≡ Some (Token.string (codes "close")))
    × (token_at 127 (0 ∷ 1 ∷ 0 ∷ []) (tokens waits) ≡ Some (Token.number (codes "1.0")))
    × (token_at 127 (1 ∷ []) (tokens waits) ≡ Some Token.begin_array)

-- nothing is in a list without items, behind the last member, or in a text
abbrev pub NothingIsThere : Type 0
NothingIsThere =
    (token_at 127 (1 ∷ 0 ∷ []) (tokens waits) ≡ Some Token.end_array)
    × (token_at 127 (2 ∷ []) (tokens waits) ≡ None)
    × (token_at 127 (0 ∷ 0 ∷ 1 ∷ 0 ∷ []) (tokens waits) ≡ None)
