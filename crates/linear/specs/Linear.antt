-- Linear expressions over symbols, which stand for whole numbers; ranges of symbols, and facts.
use Rattle.std.specs.Prelude.{ℕ, ◌<◌, ℤ, pos, ◌+ℤ◌, ◌*ℤ◌, ◌≤ℤ◌, List, [], ◌∷◌, Option, Some, None, ◌⊎◌, ◌≡◌}
use Rattle.std.specs.Int.{int_min, int_max}

-- a constant, and symbols with their coefficients
pub record Linear : Type 0 where
  pub constant : ℤ
  pub terms : List (ℕ × ℤ)

-- what symbols stand for
abbrev pub Valuation : Type 0
Valuation = ℕ → ℤ

abbrev pub sum_at : Valuation → List (ℕ × ℤ) → ℤ
sum_at r [] = pos 0
sum_at r (t ∷ ts) = (t.1 *ℤ r t.0) +ℤ sum_at r ts

-- the number of an expression
abbrev pub number_at : Valuation → Linear → ℤ
number_at r l = l.constant +ℤ sum_at r l.terms

-- its symbols are below a number
abbrev pub TermsBelow : ℕ → List (ℕ × ℤ) → Type 0
TermsBelow n [] = Unit {0}
TermsBelow n (t ∷ ts) = (t.0 < n) × TermsBelow n ts

abbrev pub IsBelow : ℕ → Linear → Type 0
IsBelow n l = TermsBelow n l.terms

-- ---- a number alone, and a symbol

abbrev pub number : ℤ → Linear
number n = record { constant = n; terms = [] }

abbrev pub symbol : ℕ → Linear
symbol n = record { constant = pos 0; terms = (n, pos 1) ∷ [] }

-- ---- ranges and facts

-- a symbol lies from a least number, where there is one, to a greatest
pub record Range : Type 0 where
  pub symbol : ℕ
  pub least : Option ℤ
  pub greatest : Option ℤ

abbrev pub IsFrom : Option ℤ → ℤ → Type 0
IsFrom None n = Unit {0}
IsFrom (Some b) n = b ≤ℤ n

abbrev pub IsUpTo : Option ℤ → ℤ → Type 0
IsUpTo None n = Unit {0}
IsUpTo (Some b) n = n ≤ℤ b

abbrev pub AreInRange : Valuation → List Range → Type 0
AreInRange r [] = Unit {0}
AreInRange r (e ∷ es) = IsFrom e.least (r e.symbol) × IsUpTo e.greatest (r e.symbol) × AreInRange r es

-- each fact is at least 0
abbrev pub AreNatural : Valuation → List Linear → Type 0
AreNatural r [] = Unit {0}
AreNatural r (f ∷ fs) = (pos 0 ≤ℤ number_at r f) × AreNatural r fs

-- ---- the sharper of two bounds

-- what is absent bounds nothing
abbrev pub greater_of : Option ℤ → Option ℤ → Option ℤ
greater_of None o = o
greater_of (Some m) None = Some m
greater_of (Some m) (Some n) = Some (int_max m n)

abbrev pub lesser_of : Option ℤ → Option ℤ → Option ℤ
lesser_of None o = o
lesser_of (Some m) None = Some m
lesser_of (Some m) (Some n) = Some (int_min m n)

-- ---- what bounds either of two numbers

-- a number that is bound in one of two ways is bound so
abbrev pub IsFromEither : Option ℤ → Option ℤ → Option ℤ → Type 0
IsFromEither a b o = (n : ℤ) → IsFrom a n ⊎ IsFrom b n → IsFrom o n

abbrev pub IsUpToEither : Option ℤ → Option ℤ → Option ℤ → Type 0
IsUpToEither a b o = (n : ℤ) → IsUpTo a n ⊎ IsUpTo b n → IsUpTo o n

-- ---- numbers for symbols

-- valuations that agree below a number
abbrev pub Agree : ℕ → Valuation → Valuation → Type 0
Agree n q r = (m : ℕ) → m < n → q m ≡ r m
