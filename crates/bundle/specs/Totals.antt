-- Sums of what a list holds of one token: whole numbers without bounds.
use Rattle.std.specs.Prelude.{ℤ, List}
use Rattle.names.specs.Collections.Total.{total}
use Rattle.names.specs.declared.token.Token.{Token}
use Rattle.bundle.specs.Bundles.{Amounts, amount_of}

-- the sum of a token over what each item holds
abbrev pub total_of : {A : Type 0} → (A → Amounts) → Token → List A → ℤ
total_of held t items = total (λ x. amount_of (held x) t) items
