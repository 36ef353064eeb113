-- The front of what is offered: no more is spent than is needed.
use Rattle.std.specs.Prelude.{ℤ, Bool, not, ◌&&◌, if◌then◌else◌, List, [], ◌∷◌, is_none}
use Rattle.std.specs.List.{list_all}
use Rattle.contract.specs.Names.declared.token.Token.{Token}
use Rattle.ledger.specs.Eutxo.Faults.{is_empty}
use Rattle.ledger.specs.declared.look.Unspent.{Unspent}
use Rattle.builder_spec.specs.Holding.{holds_token, least_lacking}

-- the shortest beginning that passes a test; all, where none does
abbrev pub shortest : {A : Type 0} → (List A → Bool) → List A → List A
shortest test [] = []
shortest test (x ∷ xs) = if test [] then [] else x ∷ shortest (λ ys. test (x ∷ ys)) xs

-- outputs suffice: they hold each of these roles' tokens, and as much of each token as is wanted
abbrev pub suffices : List Token → List (Token × ℤ) → List Unspent → Bool
suffices roles ns us = list_all (holds_token us) roles && is_none (least_lacking ns us)

-- they hold as much of each token as is wanted, and there is one at least
abbrev pub some_suffice : List (Token × ℤ) → List Unspent → Bool
some_suffice ns us = not (is_empty us) && suffices [] ns us

-- the shortest front that suffices
abbrev pub front : List Token → List (Token × ℤ) → List Unspent → List Unspent
front roles ns offered = shortest (suffices roles ns) offered
