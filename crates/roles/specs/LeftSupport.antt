-- No reader needs this file: it serves the proof that an amount is compared with the accounts that it has to hold.
use Rattle.std.specs.Prelude.{◌≡◌, ℤ, pos, ◌-ℤ◌, cond, List, [], ◌∷◌}
use Rattle.contract.specs.Names.declared.token.Token.{Token}
use Rattle.contract.specs.Names.Equal.{same_token}

-- how much is left of a token, of entries with what is left of each
abbrev pub left_of : List (Token × ℤ) → List ℤ → Token → ℤ
left_of [] ns t = pos 0
left_of (e ∷ es) [] t = pos 0
left_of (e ∷ es) (n ∷ ns) t = cond (same_token t e.0) n (left_of es ns t)

-- a number was taken out of what is left of a token
abbrev pub IsTaken : List (Token × ℤ) → List ℤ → List ℤ → Token → ℤ → Type 0
IsTaken es old new t n = (u : Token) → left_of es new u ≡ cond (same_token u t) (left_of es old t -ℤ n) (left_of es old u)
