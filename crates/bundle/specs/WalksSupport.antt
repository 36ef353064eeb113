-- No reader needs this file: it serves the proofs of this crate and those above it.
-- Entries in the order of their tokens, and a walk along them.
use Rattle.std.specs.Prelude.{◌≡◌, ◌≢◌, ℕ, ℤ, pos, ◌+ℤ◌, ◌≤ℤ◌, Bool, false, not, List, [], ◌∷◌, Result, MatchResult}
use Rattle.std.specs.Option.{unwrap_or}
use Rattle.std.specs.Ordering.{int_eq, is_eq}
use Rattle.std.specs.declared.cmp.Ordering.TheVariants.{Less, Greater}
use Rattle.std.specs.List.{filter}
use Rattle.std.specs.FinMap.{put}
use Rattle.std.specs.FinMap.Entries.{find}
use Rattle.names.proofs.FromCollections.Places.{IsAt, IsGap}
use Rattle.names.specs.declared.token.Token.{Token}
use Rattle.names.specs.Orders.{token_cmp}

-- how much these entries have of a token
abbrev pub amount_in : List (Token × ℤ) → Token → ℤ
amount_in es t = unwrap_or (find token_cmp t es) (pos 0)

-- these entries with so much more of a token
abbrev pub gained : Token × ℤ → List (Token × ℤ) → List (Token × ℤ)
gained e es = put token_cmp e.0 (amount_in es e.0 +ℤ e.1) es

-- where a token is among these entries, or where it would go
abbrev pub IsPlaceOf : Token → List (Token × ℤ) → Result ℕ ℕ → Type 0
IsPlaceOf t es result = MatchResult result (IsAt token_cmp t es) (IsGap token_cmp t es)

-- each entry is of a token before this one
abbrev pub AllBefore : Token → List (Token × ℤ) → Type 0
AllBefore t [] = Unit {0}
AllBefore t (e ∷ es) = (token_cmp t e.0 ≡ Greater) × AllBefore t es

-- no entry is of a token after this one
abbrev pub NoneAfter : Token → List (Token × ℤ) → Type 0
NoneAfter t es = (u : Token) → token_cmp t u ≡ Less → AllBefore u es

-- the first of these entries isn't of a token before this one
abbrev pub StartsFrom : Token → List (Token × ℤ) → Type 0
StartsFrom t [] = Unit {0}
StartsFrom t (e ∷ es) = token_cmp t e.0 ≢ Greater

-- whether the first of these entries is of this token
abbrev pub starts_with : Token → List (Token × ℤ) → Bool
starts_with t [] = false
starts_with t (e ∷ es) = is_eq (token_cmp t e.0)

-- no entry has less than 0
abbrev pub AllNatural : List (Token × ℤ) → Type 0
AllNatural [] = Unit {0}
AllNatural (e ∷ es) = (pos 0 ≤ℤ e.1) × AllNatural es

-- the entries that have something
abbrev pub without_zeros : List (Token × ℤ) → List (Token × ℤ)
without_zeros es = filter (λ e. not (int_eq e.1 (pos 0))) es
