-- What is kept of a symbol's number in each of two cases, and a symbol that has a number in both.
use Rattle.std.specs.Prelude.{◌≡◌, ℕ, ◌<◌, ◌≤◌, ℤ, pos, neg_ℤ, ◌⊎◌, List, [], ◌∷◌, ◌++◌}
use Rattle.linear.specs.Linear.{Linear, Valuation, number_at, symbol, IsBelow, AreNatural, Agree}
use Rattle.symbols.specs.declared.branched.Branched.{Branched}
use Rattle.symbols.specs.Symbols.{Symbols, Branch, AreApart, AreBranches, FactsBelow, BranchesBelow, IsValued, IsClosed, Knows}

-- numbers that agree with others below a count, in which all holds that is known in a case
pub record Stands (m : Symbols) (count : ℕ) (r : Valuation) : Type 0 where
  pub values : Valuation
  pub agrees : Agree count values r
  pub valued : IsValued values m

-- .. and in which an expression has a number
pub record Comes (m : Symbols) (e : Linear) (count : ℕ) (r : Valuation) (n : ℤ) : Type 0 where
  pub stands : Stands m count r
  pub number : n ≡ number_at stands.values e

-- ---- a symbol that has a number

abbrev pub ShowsAll : Symbols → List Linear → Type 0
ShowsAll k fs = (r : Valuation) → IsValued r k → AreNatural r fs

abbrev pub RulesOutAll : Symbols → List Linear → Type 0
RulesOutAll k ds = (r : Valuation) → IsValued r k → AreApart r ds

-- a branch's number is an expression, and what it asks holds
pub record IsTaken (b : Branch) (k : Symbols) (e : Linear) : Type 0 where
  pub facts : ShowsAll k b.facts
  pub apart : RulesOutAll k b.apart
  pub number : (r : Valuation) → number_at r e ≡ number_at r b.number

-- a symbol has the number of an expression in a case
abbrev pub HasNumber : List Branch → ℕ → Symbols → Linear → Type 0
HasNumber bs s m e = (count : ℕ) (r : Valuation) → BranchesBelow count bs → AreBranches r bs → s < count → (h : Stands m count r) → number_at h.values e ≡ r s

-- .. in each of two cases
pub record IsOfEither (bs : List Branch) (a : Symbols) (x : Linear) (b : Symbols) (y : Linear) (s : ℕ) : Type 0 where
  pub below : (count : ℕ) → BranchesBelow count bs → s < count
  pub left : HasNumber bs s a x
  pub right : HasNumber bs s b y

-- ---- what is kept

-- conditions over symbols below a count that never hold in a case
pub record Excludes (count : ℕ) (m : Symbols) (fs ds : List Linear) : Type 0 where
  pub facts : FactsBelow count fs
  pub apart : FactsBelow count ds
  pub never : (r : Valuation) → IsValued r m → AreNatural r fs → AreApart r ds → ⊥

-- an expression is one that isn't 0, over symbols below a count, and in a case it and its opposite are at least 0
pub record IsZeroIn (count : ℕ) (ds : List Linear) (m : Symbols) (e opposite : Linear) : Type 0 where
  pub below : IsBelow count e
  pub opposite_below : IsBelow count opposite
  pub turned : (r : Valuation) → number_at r opposite ≡ neg_ℤ (number_at r e)
  pub never : (r : Valuation) → AreApart r ds → number_at r e ≡ pos 0 → ⊥
  pub zero : ShowsAll m (e ∷ opposite ∷ [])

-- a branch is over symbols below a count
pub record IsOlder (count : ℕ) (b : Branch) : Type 0 where
  pub facts : FactsBelow count b.facts
  pub apart : FactsBelow count b.apart
  pub number : IsBelow count b.number

-- a symbol is kept to have the number of an expression where conditions hold
abbrev pub KeepsBranch : Symbols → Symbols → List Linear → List Linear → ℕ → Linear → Type 0
KeepsBranch k m fs ds s e =
    (r : Valuation) → IsClosed k → IsValued r k → FactsBelow k.next fs → FactsBelow k.next ds → s < k.next → IsBelow k.next e → (AreNatural r fs → AreApart r ds → r s ≡ number_at r e) → Knows k r m

-- .. that of a branch, where its conditions hold as well
abbrev pub KeepsTaken : Symbols → Symbols → List Linear → List Linear → Branched → ℕ → Type 0
KeepsTaken k m fs ds b s = KeepsBranch k m (fs ++ b.facts) (ds ++ b.apart) s b.number

-- .. the number that it has in the first of two cases
abbrev pub KeepsSide : Symbols → Symbols → Symbols → Linear → Symbols → ℕ → ℕ → Type 0
KeepsSide k m a x b count s = (r : Valuation) → IsClosed k → IsValued r k → count ≤ k.next → s < k.next → Comes a x count r (r s) ⊎ Stands b count r → Knows k r m

-- .. where conditions hold that never do in the second
abbrev pub KeepsWhere : Symbols → Symbols → Symbols → Linear → List Linear → List Linear → ℕ → ℕ → Type 0
KeepsWhere k m a x fs ds count s = (b : Symbols) → Excludes count b fs ds → KeepsSide k m a x b count s

-- .. the number of a symbol
abbrev pub KeepsOwn : Symbols → Symbols → Symbols → ℕ → List Linear → List Linear → ℕ → ℕ → Type 0
KeepsOwn k m a own fs ds count s = KeepsWhere k m a (symbol own) fs ds count s

-- .. in each of them
abbrev pub KeepsSides : Symbols → Symbols → Symbols → Linear → Symbols → Linear → ℕ → ℕ → Type 0
KeepsSides k m a x b y count s = (r : Valuation) → IsClosed k → IsValued r k → count ≤ k.next → s < k.next → Comes a x count r (r s) ⊎ Comes b y count r (r s) → Knows k r m
