-- What holds in either of two cases.
use Rattle.std.proofs.Common.{◌≡◌, ℕ, ◌<◌, pos, ◌≤ℤ◌, ◌⊎◌, inl, inr, List, [], ◌∷◌, ◌++◌, length, get_or, refl, sym, ap, ◌∙◌, subst, arith}
use Rattle.linear.specs.declared.bounds.Bounds.{Bounds}
use Rattle.linear.specs.Linear.{Linear, number_at, IsBelow, Range, AreInRange, AreNatural, Agree}
use Rattle.linear.specs.Bounded.{numbered, IsShown}
use Rattle.linear.specs.Ranged.{IsHull}
use Rattle.symbols.specs.Symbols.{Symbols, Operation, Branch, FactsBelow, OperationsBelow, BranchesBelow, Leads}
use Rattle.symbols.specs.Held.{symbols_of}
use Rattle.symbols.specs.Joined.{Joins, AreShared, AreJoined}
use Rattle.linear.proofs.LinearLaws.{natural_both, same_number, natural_at}
use Rattle.symbols.proofs.KnownLaws.{below_both}
use Rattle.symbols.proofs.HeldLemmas.{ranges_below}

-- ---- facts

pub shared_one : (n : ℕ) (own : List Linear) (es : List Range) (others old new : List Linear) (i : ℕ) (f e : Linear) → i < length own → f ≡ get_or own i f → IsBelow n f → IsShown es others f
    → e ≡ f → new ≡ old ++ e ∷ []
    → AreShared n own es others old new
shared_one n own es others old new i f e l is b s p m =
    let k : new ≡ old ++ f ∷ [] = m ∙ ap (λ x. old ++ x ∷ []) p in
    record {
      below = λ h. subst (FactsBelow n) (sym k) (below_both n old (f ∷ []) h (b, tt));
      by_own = λ q r a h g.
          subst (AreNatural r) (sym k)
          (natural_both r old (f ∷ []) g (subst (λ z. pos 0 ≤ℤ z) (same_number n q r a f b) (subst (λ (x : Linear). pos 0 ≤ℤ number_at q x) (sym is) (natural_at q own i f l h)), tt));
      by_other = λ q r a h j g. subst (AreNatural r) (sym k) (natural_both r old (f ∷ []) g (subst (λ z. pos 0 ≤ℤ z) (same_number n q r a f b) (s q h j), tt));
    }

-- ---- both

pub joined_facts : (n : ℕ) (es fs : List Range) (b c own gs ks : List Linear) → AreShared n b fs c own gs → AreShared n c es b gs ks → AreJoined n own es b fs c ks
joined_facts n es fs b c own gs ks x y = record {
  below = λ h. y.below (x.below h);
  left = λ q r a i h k. y.by_other q r a i h (x.by_own q r a h k);
  right = λ q r a i h k. y.by_own q r a h (x.by_other q r a i h k);
}

pub join_held : (bs hs cb cc : List Bounds) (fs ds ks fb fc : List Linear) (os : List Operation) (cs : List Branch) (b c : Symbols) (n : ℕ) → n ≡ length bs → numbered 0 cb ≡ b.ranges
    → numbered 0 cc ≡ c.ranges → fb ≡ b.facts → fc ≡ c.facts
    → IsHull cb cc bs hs → AreJoined n fs (numbered 0 cb) fb (numbered 0 cc) fc ks → Joins (symbols_of bs fs ds os cs) b c (symbols_of hs ks ds os cs)
join_held bs hs cb cc fs ds ks fb fc os cs b c n m p q s t i x r d v h =
    let e = i.same in
    let a : length hs ≡ n = e ∙ sym m in
    record {
      closed = record {
        ranges = ranges_below (length hs) 0 hs (omega arith);
        facts = subst (λ k. FactsBelow k ks) (sym a) (x.below (subst (λ k. FactsBelow k fs) (sym m) d.facts));
        apart = subst (λ k. FactsBelow k ds) (sym e) d.apart;
        operations = subst (λ k. OperationsBelow k os) (sym e) d.operations;
        branches = subst (λ k. BranchesBelow k cs) (sym e) d.branches;
      };
      grows = omega arith;
      values = r;
      agrees = λ k l. refl;
      valued = record { ranges = of_ranges h; facts = of_facts h; apart = v.apart; operations = v.operations; branches = v.branches };
    }
  where
    of_ranges : Leads (symbols_of bs fs ds os cs) r b ⊎ Leads (symbols_of bs fs ds os cs) r c → AreInRange r (numbered 0 hs)
    of_ranges (inl g) = i.ranges g.values r g.agrees v.ranges (inl (subst (AreInRange g.values) (sym p) g.valued.ranges))
    of_ranges (inr g) = i.ranges g.values r g.agrees v.ranges (inr (subst (AreInRange g.values) (sym q) g.valued.ranges))

    of_facts : Leads (symbols_of bs fs ds os cs) r b ⊎ Leads (symbols_of bs fs ds os cs) r c → AreNatural r ks
    of_facts (inl g) = x.left g.values r (subst (λ k. Agree k g.values r) (sym m) g.agrees) (subst (AreInRange g.values) (sym p) g.valued.ranges)
        (subst (AreNatural g.values) (sym s) g.valued.facts) v.facts
    of_facts (inr g) = x.right g.values r (subst (λ k. Agree k g.values r) (sym m) g.agrees) (subst (AreInRange g.values) (sym q) g.valued.ranges)
        (subst (AreNatural g.values) (sym t) g.valued.facts) v.facts
