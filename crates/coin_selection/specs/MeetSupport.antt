-- No reader needs this file: it serves the proofs of this crate.
use Rattle.std.specs.Prelude.{ℤ, if◌then◌else◌, List, [], ◌∷◌, Option}
use Rattle.std.specs.Ordering.{eq_by_cmp}
use Rattle.contract.specs.Names.declared.token.Token.{Token}
use Rattle.contract.specs.Names.Orders.{token_cmp}
use Rattle.coin_selection.specs.MissingSupport.{left}

-- what is left of a token's need, one entry after another
abbrev pub left_after : Option ℤ → Token → List (Token × ℤ) → Option ℤ
left_after o t [] = o
left_after o t (e ∷ es) = left_after (if eq_by_cmp token_cmp e.0 t then left o e.1 else o) t es
