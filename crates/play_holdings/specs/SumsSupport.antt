-- No reader needs this file: holdings in order, summed one after another.
use Rattle.std.specs.Prelude.{◌≡◌, ℕ, ℤ, pos, ◌+ℤ◌, ◌≤ℤ◌, ◌-◌, ◌^◌, Bool, true, false, if◌then◌else◌, List, [], ◌∷◌, Option, Some, None}
use Rattle.std.specs.Ordering.{eq_by_cmp, is_lt}
use Rattle.eutxo.specs.Names.declared.token.Token.{Token}
use Rattle.play_holdings.specs.declared.holding.Holding.{Holding}
use Rattle.play_holdings.specs.Holders.{holding_cmp}
use Rattle.play_holdings.specs.Holdings.{come_to, of_token}

-- the most that an amount can be
abbrev pub most : ℤ
most = pos (2 ^ 127 - 1)

-- what all of these hold of each token is an amount
abbrev pub Fit : List Holding → Type 0
Fit hs = (t : Token) → come_to (of_token t) hs ≤ℤ most

-- none of these stands before it
abbrev pub NoneBefore : Holding → List Holding → Type 0
NoneBefore x [] = Unit {0}
NoneBefore x (h ∷ hs) = (is_lt (holding_cmp h x) ≡ false) × NoneBefore x hs

-- none stands before an earlier one
abbrev pub NeverFall : List Holding → Type 0
NeverFall [] = Unit {0}
NeverFall (h ∷ hs) = NoneBefore h hs × NeverFall hs

-- whether two are of one holder and token
abbrev pub is_same : Holding → Holding → Bool
is_same a b = eq_by_cmp holding_cmp a b

abbrev pub with_amount : Holding → ℤ → Holding
with_amount h n = record h { amount = n }

abbrev pub joined : Holding → Holding → Holding
joined a b = with_amount a (a.amount +ℤ b.amount)

-- one behind another
abbrev pub behind : Holding → Holding → List Holding
behind a b = if is_same a b then joined a b ∷ [] else a ∷ b ∷ []

-- one more behind these
abbrev pub with_next : List Holding → Holding → List Holding
with_next [] x = x ∷ []
with_next (h ∷ []) x = behind h x
with_next (h ∷ g ∷ hs) x = h ∷ with_next (g ∷ hs) x

-- all of these behind those
abbrev pub with_all : List Holding → List Holding → List Holding
with_all done [] = done
with_all done (x ∷ xs) = with_all (with_next done x) xs

-- the amount of it goes into the one of these that is of its holder and token
abbrev pub HasRoom : Holding → List Holding → Type 0
HasRoom x [] = Unit {0}
HasRoom x (h ∷ hs) = (is_same h x ≡ true → (h.amount +ℤ x.amount) ≤ℤ most) × HasRoom x hs

-- what is known of an output, or the place of a thread that is noted for it now
abbrev pub or_place : Option ℕ → Bool → ℕ → Option ℕ
or_place (Some n) ends place = Some n
or_place None ends place = if ends then Some place else None
