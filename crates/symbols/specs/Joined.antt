-- What holds in either of two cases.
use Rattle.std.specs.Prelude.{ℕ, ◌⊎◌, List}
use Rattle.linear.specs.Linear.{Linear, Valuation, Range, AreInRange, AreNatural, Agree}
use Rattle.symbols.specs.Symbols.{Symbols, IsValued, IsClosed, FactsBelow, Leads}

-- whatever numbers symbols stand for: what k leads to in one of two cases at least, it leads to where they are joined
abbrev pub Joins : Symbols → Symbols → Symbols → Symbols → Type 0
Joins k b c m = (r : Valuation) → IsClosed k → IsValued r k → Leads k r b ⊎ Leads k r c → Leads k r m

-- facts with some of one case, which the other case shows
pub record AreShared (n : ℕ) (own : List Linear) (es : List Range) (others old new : List Linear) : Type 0 where
  pub below : FactsBelow n old → FactsBelow n new
  pub by_own : (q r : Valuation) → Agree n q r → AreNatural q own → AreNatural r old → AreNatural r new
  pub by_other : (q r : Valuation) → Agree n q r → AreInRange q es → AreNatural q others → AreNatural r old → AreNatural r new

-- facts, with what is left of those of two cases
pub record AreJoined (n : ℕ) (own : List Linear) (es : List Range) (b : List Linear) (fs : List Range) (c out : List Linear) : Type 0 where
  pub below : FactsBelow n own → FactsBelow n out
  pub left : (q r : Valuation) → Agree n q r → AreInRange q es → AreNatural q b → AreNatural r own → AreNatural r out
  pub right : (q r : Valuation) → Agree n q r → AreInRange q fs → AreNatural q c → AreNatural r own → AreNatural r out
