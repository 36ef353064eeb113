-- Ranges where some symbols lie in a range.
use Rattle.std.proofs.Common.{◌≡◌, ℕ, zero, suc, ◌<◌, true, false, List, [], ◌∷◌, length, get_or, sym, subst, arith}
use Rattle.linear.specs.declared.bounds.Bounds.{Bounds}
use Rattle.symbols.specs.declared.named.Named.{Named}
use Rattle.linear.specs.Linear.{Linear, Valuation, number_at, IsFrom, IsUpTo, AreInRange}
use Rattle.linear.specs.Bounded.{numbered}
use Rattle.linear.specs.Ranged.{AreWithin}
use Rattle.linear.specs.ResultRanges.{IsProductRange, IsQuotientRange}
use Rattle.symbols.specs.Symbols.{Operation, Branch, result, AreResults}
use Rattle.symbols.specs.Held.{symbols_of, operations_of}
use Rattle.symbols.specs.Within.{LieIn, IsWithin, HoldWhere, IsResultRange}
use Rattle.symbols.proofs.ResultLemmas.{named_value}

pub hold_itself : (P : Valuation → Type 0) (bs : List Bounds) → HoldWhere P bs bs
hold_itself P bs r h p = h

pub hold_then : (P : Valuation → Type 0) (bs cs ds : List Bounds) → HoldWhere P bs cs → HoldWhere P cs ds → HoldWhere P bs ds
hold_then P bs cs ds f g r h p = g r (f r h p) p

lie_at : (r : Valuation) (xs : List ℕ) (b : Bounds) (i d : ℕ) → i < length xs → LieIn r xs b → IsFrom b.least (r (get_or xs i d)) × IsUpTo b.greatest (r (get_or xs i d))
lie_at r [] b i d h l = absurd (omega arith)
lie_at r (x ∷ xs) b zero d h l = (l.0, l.1)
lie_at r (x ∷ xs) b (suc i) d h l = lie_at r xs b i d (omega arith) l.2

pub hold_at : (bs cs : List Bounds) (xs : List ℕ) (b : Bounds) (i d : ℕ) → i < length xs → AreWithin bs cs (get_or xs i d) b.least b.greatest → HoldWhere (λ r. LieIn r xs b) bs cs
hold_at bs cs xs b i d l w r h p = let q = lie_at r xs b i d l p in w.ranges r h q.0 q.1

-- ---- products and quotients

pub product_is : (a b c : Bounds) → IsProductRange a.least a.greatest b.least b.greatest c.least c.greatest → IsResultRange false a b c
product_is a b c p x y f g h i = (p.low x y f g h i, p.high x y f g h i)

pub quotient_is : (a b c : Bounds) → IsQuotientRange a.least a.greatest b.least b.greatest c.least c.greatest → IsResultRange true a b c
quotient_is a b c p x y f g h i = (p.low x y f g h i, p.high x y f g h i)

-- an expression lies in a range where symbols lie in theirs
abbrev pub LiesIn : List Bounds → Linear → Bounds → Type 0
LiesIn bs l b = ((r : Valuation) → AreInRange r (numbered 0 bs) → IsFrom b.least (number_at r l)) × ((r : Valuation) → AreInRange r (numbered 0 bs) → IsUpTo b.greatest (number_at r l))

pub hold_result : (bs cs : List Bounds) (o : Named) (a b c : Bounds) → LiesIn bs o.left a → LiesIn bs o.right b → IsResultRange o.divides a b c → AreWithin bs cs o.symbol c.least c.greatest
    → HoldWhere (λ r. r o.symbol ≡ result o.divides (number_at r o.left) (number_at r o.right)) bs cs
hold_result bs cs o a b c f g h w r v p =
    let q = h (number_at r o.left) (number_at r o.right) (f.0 r v) (f.1 r v) (g.0 r v) (g.1 r v) in
    w.ranges r v (subst (λ z. IsFrom c.least z) (sym p) q.0) (subst (λ z. IsUpTo c.greatest z) (sym p) q.1)

pub hold_named : (bs cs : List Bounds) (ns : List Named) (i : ℕ) (o : Named) → i < length ns → o ≡ get_or ns i o
    → HoldWhere (λ r. r o.symbol ≡ result o.divides (number_at r o.left) (number_at r o.right)) bs cs → HoldWhere (λ r. AreResults r (operations_of ns)) bs cs
hold_named bs cs ns i o l is h r v p =
    h r v (subst (λ (x : Named). r x.symbol ≡ result x.divides (number_at r x.left) (number_at r x.right)) (sym is) (named_value ns i o r l p))

-- ---- all that is known

pub within_ranges : (bs cs es : List Bounds) (fs ds : List Linear) (os : List Operation) (ks : List Branch) (xs : List ℕ) (b : Bounds) → HoldWhere (λ r. LieIn r xs b) bs cs → HoldWhere (λ r. AreResults r os) cs es
    → IsWithin (symbols_of bs fs ds os ks) xs b (symbols_of es fs ds os ks)
within_ranges bs cs es fs ds os ks xs b f g r v l = record {
  ranges = g r (f r v.ranges l) v.operations;
  facts = v.facts;
  apart = v.apart;
  operations = v.operations;
  branches = v.branches;
}
