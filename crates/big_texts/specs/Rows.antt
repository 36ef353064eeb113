-- Worked rows, computed on the definitions.
use Rattle.std.specs.Prelude.{◌≡◌, [], ◌∷◌, ◌++◌, codes}
use Rattle.big_texts.specs.Lines.{big_as_text}

-- 2^53 and -2^53 stay numbers, and the next ones are texts
abbrev pub DoublesStay : Type 0
DoublesStay = big_as_text (codes "{\"payments\":[9007199254740992,9007199254740993,-9007199254740992,-9007199254740993]}" ++ 10 ∷ [])
    ≡ codes "{\"payments\":[9007199254740992,\"9007199254740993\",-9007199254740992,\"-9007199254740993\"]}" ++ 10 ∷ []
