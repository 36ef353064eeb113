-- What holds of all bundles: sums and differences are of each token, and amounts tell bundles apart.
use Rattle.std.specs.Prelude.{◌≡◌, ◌+ℤ◌, ◌-ℤ◌, ◌≤ℤ◌, true}
use Rattle.std.specs.FinMap.{entries}
use Rattle.names.specs.declared.token.Token.{Token}
use Rattle.bundle.specs.Bundles.{Amounts, amount_of, AllPositive, plus, minus, covers}

abbrev pub SumsAreOfEachToken : Type 0
SumsAreOfEachToken = (a b : Amounts) (t : Token) → amount_of (plus a b) t ≡ amount_of a t +ℤ amount_of b t

abbrev pub RestsAreOfEachToken : Type 0
RestsAreOfEachToken = (a b : Amounts) (t : Token) → amount_of (minus a b) t ≡ amount_of a t -ℤ amount_of b t

-- what covers has as much of each token
abbrev pub CoversEachToken : Type 0
CoversEachToken = (a b : Amounts) → AllPositive (entries a) → covers a b ≡ true → (t : Token) → amount_of b t ≤ℤ amount_of a t

-- and what has as much of each token covers
abbrev pub EachTokenIsCovered : Type 0
EachTokenIsCovered = (a b : Amounts) → AllPositive (entries a) → ((t : Token) → amount_of b t ≤ℤ amount_of a t) → covers a b ≡ true

-- bundles with the same amount of each token are the same
abbrev pub AmountsTellApart : Type 0
AmountsTellApart = (a b : Amounts) → AllPositive (entries a) → AllPositive (entries b) → ((t : Token) → amount_of a t ≡ amount_of b t) → a ≡ b
