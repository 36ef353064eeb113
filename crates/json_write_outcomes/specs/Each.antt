-- What holds of each item of a list.
use Rattle.std.specs.Prelude.{ℤ, List, [], ◌∷◌, ⊤}
use Rattle.hex.specs.Hex.{IsBytes}
use Rattle.contract.specs.Names.declared.account.Account.{Account}

abbrev pub Each : {X : Type 0} → (X → Type 0) → List X → Type 0
Each P [] = ⊤
Each P (x ∷ xs) = P x × Each P xs

-- the currency symbol of an account's token is made of bytes
abbrev pub HasBytes : Account × ℤ → Type 0
HasBytes e = IsBytes e.0.token.symbol
