-- What the code holds of symbols, step by step.
use Rattle.std.proofs.Common.{◌≡◌, ℕ, zero, suc, ◌+◌, ◌<◌, ◌≤◌, pos, Option, List, [], ◌∷◌, ◌++◌, length, drop, get_or, ℤ, ◌+ℤ◌, ◌*ℤ◌, negsuc, true, refl, sym, ap, ◌∙◌, subst, arith, length-append}
use Rattle.std.proofs.lemmas.Int.{ints}
use Rattle.linear.specs.declared.bounds.Bounds.{Bounds}
use Rattle.linear.specs.Linear.{Linear, Valuation, number_at, number, symbol, IsFrom, IsUpTo, AreNatural}
use Rattle.linear.specs.Combined.{StandsFor, AreBelow, combined_at}
use Rattle.linear.specs.Bounded.{numbered}
use Rattle.linear.specs.Ranged.{AreWithin, AreNarrowed}
use Rattle.symbols.specs.Symbols.{Symbols, Operation, Branch, RangesBelow, FactsBelow, OperationsBelow, BranchesBelow, AreApart}
use Rattle.symbols.specs.Held.{symbols_of, IsNewest, KnowsWithin, GivesAny, Learns, Assumes, Distinguishes, Cancels, RulesOut, IsNever, IsSharpened}
use Rattle.linear.proofs.LinearLaws.{natural_both, natural_drop}
use Rattle.linear.proofs.RangeLaws.{in_range_append}
use Rattle.symbols.proofs.KnownLaws.{fresh_closed, fresh_valued, with_value, new_gives, knows_itself, below_both}

-- ---- ranges

pub ranges_below : (m n : ℕ) (bs : List Bounds) → n + length bs ≤ m → RangesBelow m (numbered n bs)
ranges_below m n [] h = tt
ranges_below m n (b ∷ bs) h = (omega arith, ranges_below m (suc n) bs (omega arith))

pub one_more : (bs : List Bounds) (b : Bounds) → length (bs ++ b ∷ []) ≡ suc (length bs)
one_more bs b = omega (arith, length-append bs (b ∷ []))

-- ---- a new symbol

pub fresh_held : (bs : List Bounds) (b : Bounds) (fs ds : List Linear) (os : List Operation) (cs : List Branch)
    → GivesAny (symbols_of bs fs ds os cs) (symbols_of (bs ++ b ∷ []) fs ds os cs) (symbol (length bs)) b.least b.greatest
fresh_held bs b fs ds os cs r x c v f g =
    let k = symbols_of bs fs ds os cs in
    let m = symbols_of (bs ++ b ∷ []) fs ds os cs in
    let e = one_more bs b in
    let d = fresh_closed k b.least b.greatest c in
    let w = fresh_valued k r b.least b.greatest x c v f g in
    let q = with_value r (length bs) x in
    let i : length bs ≡ 0 + length bs = omega arith in
    new_gives k r x m e
    (record {
      ranges = ranges_below (length (bs ++ b ∷ [])) 0 (bs ++ b ∷ []) (omega arith);
      facts = subst (λ n. FactsBelow n fs) (sym e) d.facts;
      apart = subst (λ n. FactsBelow n ds) (sym e) d.apart;
      operations = subst (λ n. OperationsBelow n os) (sym e) d.operations;
      branches = subst (λ n. BranchesBelow n cs) (sym e) d.branches;
    })
    (record {
      ranges = in_range_append q 0 bs b w.ranges.2 (subst (λ n. IsFrom b.least (q n)) i w.ranges.0) (subst (λ n. IsUpTo b.greatest (q n)) i w.ranges.1);
      facts = w.facts;
      apart = w.apart;
      operations = w.operations;
      branches = w.branches;
    })

pub put_symbol_held : (bs es : List Bounds) (b : Bounds) (n : ℕ) (e : Linear) → es ≡ bs ++ b ∷ [] → n ≡ length bs → e ≡ symbol n → (fs ds : List Linear) (os : List Operation) (cs : List Branch)
    → GivesAny (symbols_of bs fs ds os cs) (symbols_of es fs ds os cs) e b.least b.greatest
put_symbol_held bs es b n e p q i fs ds os cs =
    subst (λ xs. GivesAny (symbols_of bs fs ds os cs) (symbols_of xs fs ds os cs) e b.least b.greatest) (sym p)
    (subst (λ x. GivesAny (symbols_of bs fs ds os cs) (symbols_of (bs ++ b ∷ []) fs ds os cs) x b.least b.greatest) (sym (i ∙ ap symbol q)) (fresh_held bs b fs ds os cs))

-- ---- facts

pub within_held : (bs es : List Bounds) (fs ds : List Linear) (os : List Operation) (cs : List Branch) (x : ℕ) (low high : Option ℤ) → AreWithin bs es x low high → KnowsWithin (symbols_of bs fs ds os cs) (symbols_of es fs ds os cs) x low high
within_held bs es fs ds os cs x low high h r c v f g =
    let e = h.same in
    record {
      next = e;
      closed = record {
        ranges = ranges_below (length es) 0 es (omega arith);
        facts = subst (λ n. FactsBelow n fs) (sym e) c.facts;
        apart = subst (λ n. FactsBelow n ds) (sym e) c.apart;
        operations = subst (λ n. OperationsBelow n os) (sym e) c.operations;
        branches = subst (λ n. BranchesBelow n cs) (sym e) c.branches;
      };
      valued = record { ranges = h.ranges r v.ranges f g; facts = v.facts; apart = v.apart; operations = v.operations; branches = v.branches };
    }

apart_drop : (r : Valuation) (n : ℕ) (ds : List Linear) → AreApart r ds → AreApart r (drop n ds)
apart_drop r zero ds h = h
apart_drop r (suc n) [] h = tt
apart_drop r (suc n) (d ∷ ds) h = apart_drop r n ds h.1

facts_drop : (m n : ℕ) (fs : List Linear) → FactsBelow m fs → FactsBelow m (drop n fs)
facts_drop m zero fs h = h
facts_drop m (suc n) [] h = tt
facts_drop m (suc n) (f ∷ fs) h = facts_drop m n fs h.1

pub natural_newest : (r : Valuation) (fs gs : List Linear) → IsNewest fs gs → AreNatural r fs → AreNatural r gs
natural_newest r fs gs w h = subst (λ xs. AreNatural r xs) (sym w.is) (natural_drop r w.dropped fs h)

pub apart_newest : (r : Valuation) (ds es : List Linear) → IsNewest ds es → AreApart r ds → AreApart r es
apart_newest r ds es w h = subst (λ xs. AreApart r xs) (sym w.is) (apart_drop r w.dropped ds h)

pub facts_newest : (m : ℕ) (fs gs : List Linear) → IsNewest fs gs → FactsBelow m fs → FactsBelow m gs
facts_newest m fs gs w h = subst (λ xs. FactsBelow m xs) (sym w.is) (facts_drop m w.dropped fs h)

pub learn_held : (bs es : List Bounds) (fs gs ds : List Linear) (os : List Operation) (cs : List Branch) (l : Linear) → AreNarrowed bs es l → IsNewest fs gs → Learns (symbols_of bs fs ds os cs) (symbols_of es (gs ++ l ∷ []) ds os cs) l
learn_held bs es fs gs ds os cs l h w r c v b g =
    let e = h.same in
    record {
      next = e;
      closed = record {
        ranges = ranges_below (length es) 0 es (omega arith);
        facts = subst (λ n. FactsBelow n (gs ++ l ∷ [])) (sym e) (below_both (length bs) gs (l ∷ []) (facts_newest (length bs) fs gs w c.facts) (b, tt));
        apart = subst (λ n. FactsBelow n ds) (sym e) c.apart;
        operations = subst (λ n. OperationsBelow n os) (sym e) c.operations;
        branches = subst (λ n. BranchesBelow n cs) (sym e) c.branches;
      };
      valued = record {
        ranges = h.ranges r v.ranges g;
        facts = natural_both r gs (l ∷ []) (natural_newest r fs gs w v.facts) (g, tt);
        apart = v.apart;
        operations = v.operations;
        branches = v.branches;
      };
    }

pub put_held : (bs : List Bounds) (fs gs ds : List Linear) (os : List Operation) (cs : List Branch) (l : Linear) → IsNewest fs gs → Learns (symbols_of bs fs ds os cs) (symbols_of bs (gs ++ l ∷ []) ds os cs) l
put_held bs fs gs ds os cs l w = learn_held bs bs fs gs ds os cs l (record { same = refl; ranges = λ r h g. h }) w

pub distinguish_held : (bs : List Bounds) (fs ds es : List Linear) (os : List Operation) (cs : List Branch) (l : Linear) → IsNewest ds es → Distinguishes (symbols_of bs fs ds os cs) (symbols_of bs fs (es ++ l ∷ []) os cs) l
distinguish_held bs fs ds es os cs l w r c v b g = record {
  next = refl;
  closed = record { ranges = c.ranges; facts = c.facts; apart = below_both (length bs) es (l ∷ []) (facts_newest (length bs) ds es w c.apart) (b, tt); operations = c.operations; branches = c.branches };
  valued = record { ranges = v.ranges; facts = v.facts; apart = apart_both r es (l ∷ []) (apart_newest r ds es w v.apart) (g, tt); operations = v.operations; branches = v.branches };
}
  where
    apart_both : (r : Valuation) (ds es : List Linear) → AreApart r ds → AreApart r es → AreApart r (ds ++ es)
    apart_both r [] es h k = k
    apart_both r (d ∷ ds) es h k = (h.0, apart_both r ds es h.1 k)

pub learns_nothing : (k : Symbols) (l : Linear) → Learns k k l
learns_nothing k l r c v b g = knows_itself k r c v

-- ---- what isn't 0

pub apart_at : (r : Valuation) (ds : List Linear) (i : ℕ) (d : Linear) → i < length ds → AreApart r ds → number_at r (get_or ds i d) ≡ pos 0 → ⊥
apart_at r [] i d l h e = absurd (omega arith)
apart_at r (x ∷ ds) zero d l h e = h.0 e
apart_at r (x ∷ ds) (suc i) d l h e = apart_at r ds i d (omega arith) h.1 e

-- a number less another is 0: they are the same
pub same_as : (a b : ℤ) → a +ℤ (negsuc 0 *ℤ b) ≡ pos 0 → b ≡ a
same_as a b h = omega (arith, ints)

no_rest : (d x : ℤ) → pos 0 +ℤ pos 0 ≡ (pos 1 *ℤ d) +ℤ x → d +ℤ x ≡ pos 0
no_rest d x h = omega (arith, ints)

pub cancels_by : (d l rest : Linear) (q : ℤ) → StandsFor (combined_at (pos 1) d q l) (AreBelow d l) rest → rest ≡ number (pos 0) → Cancels d q l
cancels_by d l rest q s e r = no_rest (number_at r d) (q *ℤ number_at r l) (ap (number_at r) (sym e) ∙ s.number r)

zero_then : (a q b : ℤ) → a +ℤ (q *ℤ b) ≡ pos 0 → b ≡ pos 0 → a ≡ pos 0
zero_then a q b h e = at_zero a q (subst (λ z. a +ℤ (q *ℤ z) ≡ pos 0) e h)
  where
    at_zero : (a q : ℤ) → a +ℤ (q *ℤ pos 0) ≡ pos 0 → a ≡ pos 0
    at_zero a q h = omega (arith, ints)

pub rules_out_by : (d : Linear) (q : ℤ) (l : Linear) → Cancels d q l → RulesOut d l
rules_out_by d q l c r h e = h (zero_then (number_at r d) q (number_at r l) (c r) e)

pub never_by : (ds : List Linear) (i : ℕ) (d l : Linear) → i < length ds → d ≡ get_or ds i d → RulesOut d l → IsNever ds l
never_by ds i d l h is c r a e = c r (λ z. apart_at r ds i d h a (subst (λ (x : Linear). number_at r x ≡ pos 0) is z)) e

pub assumes_some : (k m : Symbols) (l e : Linear) → IsSharpened k.apart l e → Learns k m e → Assumes k m l true
assumes_some k m l e s h r c v b n = (refl, h r c v (s.below k.next b) (s.natural r v.apart n))
