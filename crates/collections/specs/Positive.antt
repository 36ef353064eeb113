-- Amounts by key that are above 0.
use Rattle.std.specs.Prelude.{ℤ, pos, ◌<ℤ◌, List, [], ◌∷◌}

-- each amount is above 0
abbrev pub AllPositive : {K : Type 0} → List (K × ℤ) → Type 0
AllPositive [] = Unit {0}
AllPositive (e ∷ es) = (pos 0 <ℤ e.1) × AllPositive es
