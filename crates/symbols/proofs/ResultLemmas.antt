-- Products and quotients that have a symbol.
use Rattle.std.proofs.Common.{◌≡◌, ℕ, zero, suc, ◌+◌, ◌<◌, ℤ, negsuc, ◌*ℤ◌, Bool, true, false, List, [], ◌∷◌, ◌++◌, length, drop, get_or, Option, None, refl, sym, ap, ◌∙◌, subst, arith}
use Rattle.linear.specs.declared.bounds.Bounds.{Bounds}
use Rattle.symbols.specs.declared.named.Named.{Named}
use Rattle.linear.specs.Linear.{Linear, Valuation, number_at, symbol, IsBelow, IsFrom, IsUpTo}
use Rattle.linear.specs.Combined.{StandsFor}
use Rattle.linear.specs.Bounded.{IsFromAll, IsUpToAll}
use Rattle.linear.specs.ResultRanges.{IsProductRange, IsQuotientRange}
use Rattle.symbols.specs.Symbols.{Symbols, Operation, Branch, result, AreResults, OperationsBelow, BranchesBelow, FactsBelow, IsValued, IsClosed, Gives}
use Rattle.symbols.specs.Held.{symbols_of, operation_of, operations_of, IsNewest, Cancels, GivesAny, KnowsWithin}
use Rattle.symbols.specs.Results.{GivesInRange, GivesResult, GivesMultiple, IsOf, IsSymbolOf, IsNamed}
use Rattle.linear.proofs.LinearLaws.{same_number, symbol_at, no_terms, flipped}
use Rattle.linear.proofs.RangeLaws.{in_range_append}
use Rattle.symbols.proofs.KnownLaws.{at_suc, terms_up, fresh, fresh_closed, fresh_valued, with_value, agree_below, at_new, new_gives, gives_here, knows_leads, leads_gives}
use Rattle.symbols.proofs.HeldLemmas.{ranges_below, one_more, same_as}

-- ---- what is known

pub is_of_by : (o : Named) (d : Bool) (l m : Linear) → o.divides ≡ d → Cancels o.left (negsuc 0) l → Cancels o.right (negsuc 0) m → IsOf o d l m
is_of_by o d l m e x y = record { divides = e; left = λ r. same_as (number_at r o.left) (number_at r l) (x r); right = λ r. same_as (number_at r o.right) (number_at r m) (y r) }

named_below : (ns : List Named) (i : ℕ) (d : Named) (n : ℕ) → i < length ns → OperationsBelow n (operations_of ns) → (get_or ns i d).symbol < n
named_below [] i d n l h = absurd (omega arith)
named_below (o ∷ ns) zero d n l h = h.0
named_below (o ∷ ns) (suc i) d n l h = named_below ns i d n (omega arith) h.3

pub named_value : (ns : List Named) (i : ℕ) (d : Named) (r : Valuation) → i < length ns → AreResults r (operations_of ns)
    → r (get_or ns i d).symbol ≡ result (get_or ns i d).divides (number_at r (get_or ns i d).left) (number_at r (get_or ns i d).right)
named_value [] i d r l h = absurd (omega arith)
named_value (o ∷ ns) zero d r l h = h.0
named_value (o ∷ ns) (suc i) d r l h = named_value ns i d r (omega arith) h.1

pub named_at : (ns : List Named) (i : ℕ) (o : Named) (d : Bool) (l m : Linear) → i < length ns → o ≡ get_or ns i o → IsOf o d l m → IsNamed (operations_of ns) d l m o.symbol
named_at ns i o d l m h is y = record {
  below = λ n b. subst (λ (x : Named). x.symbol < n) (sym is) (named_below ns i o n h b);
  value = λ r a.
      subst (λ (x : Named). r x.symbol ≡ result x.divides (number_at r x.left) (number_at r x.right)) (sym is) (named_value ns i o r h a)
      ∙ ap (λ b. result b (number_at r o.left) (number_at r o.right)) y.divides ∙ ap (λ z. result d z (number_at r o.right)) (sym (y.left r)) ∙ ap (λ z. result d (number_at r l) z) (sym (y.right r));
}

-- .. of which a range is known now
pub named_within : (d : Bool) (low high : Option ℤ) (k m : Symbols) (l n e : Linear) (x : ℕ) → IsNamed k.operations d l n x → KnowsWithin k m x low high → e ≡ symbol x → GivesInRange d low high k m l n e
named_within d low high k m l n e x h w q r c v a b f g =
    let number = result d (number_at r l) (number_at r n) in
    let is : r x ≡ number = h.value r v.operations in
    let j = w r c v (subst (λ z. IsFrom low z) (sym is) f) (subst (λ z. IsUpTo high z) (sym is) g) in
    let below : x < m.next = subst (λ p. x < p) (sym j.next) (h.below k.next c.operations) in
    subst (λ (y : Linear). Gives k r (m, y) number) (sym q)
    (leads_gives k r m (m, symbol x) number (knows_leads k r m j) (gives_here m r (symbol x) number j.closed j.valued (below, tt) (sym (symbol_at r x ∙ is))))

pub named_gives : (d : Bool) (k : Symbols) (l n e : Linear) (x : ℕ) → IsNamed k.operations d l n x → e ≡ symbol x → GivesResult d k k l n e
named_gives d k l n e x h q r c v a b =
    let number = result d (number_at r l) (number_at r n) in
    subst (λ (y : Linear). Gives k r (k, y) number) (sym q) (gives_here k r (symbol x) number c v (h.below k.next c.operations, tt) (sym (symbol_at r x ∙ h.value r v.operations)))

-- ---- a new symbol

results_both : (r : Valuation) (os ps : List Operation) → AreResults r os → AreResults r ps → AreResults r (os ++ ps)
results_both r [] ps h k = k
results_both r (o ∷ os) ps h k = (h.0, results_both r os ps h.1 k)

below_both_ways : (n : ℕ) (os ps : List Operation) → OperationsBelow n os → OperationsBelow n ps → OperationsBelow n (os ++ ps)
below_both_ways n [] ps h k = k
below_both_ways n (o ∷ os) ps h k = (h.0, h.1, h.2, below_both_ways n os ps h.3 k)

operations_append : (ns : List Named) (o : Named) → operations_of (ns ++ o ∷ []) ≡ operations_of ns ++ operation_of o ∷ []
operations_append [] o = refl
operations_append (n ∷ ns) o = ap (λ os. operation_of n ∷ os) (operations_append ns o)

results_drop : (r : Valuation) (n : ℕ) (ns : List Named) → AreResults r (operations_of ns) → AreResults r (operations_of (drop n ns))
results_drop r zero ns h = h
results_drop r (suc n) [] h = tt
results_drop r (suc n) (o ∷ ns) h = results_drop r n ns h.1

operations_drop : (m n : ℕ) (ns : List Named) → OperationsBelow m (operations_of ns) → OperationsBelow m (operations_of (drop n ns))
operations_drop m zero ns h = h
operations_drop m (suc n) [] h = tt
operations_drop m (suc n) (o ∷ ns) h = operations_drop m n ns h.3

results_newest : (r : Valuation) (ns ps : List Named) → IsNewest ns ps → AreResults r (operations_of ns) → AreResults r (operations_of ps)
results_newest r ns ps w h = subst (λ xs. AreResults r (operations_of xs)) (sym w.is) (results_drop r w.dropped ns h)

operations_newest : (m : ℕ) (ns ps : List Named) → IsNewest ns ps → OperationsBelow m (operations_of ns) → OperationsBelow m (operations_of ps)
operations_newest m ns ps w h = subst (λ xs. OperationsBelow m (operations_of xs)) (sym w.is) (operations_drop m w.dropped ns h)

-- with a new symbol for a product or quotient, in a range
abbrev with_operation : Symbols → Bool → Linear → Linear → Option ℤ → Option ℤ → Symbols
with_operation k d l m low high = record (fresh k low high) { operations = record { divides = d; left = l; right = m; symbol = k.next } ∷ k.operations }

operation_closed : (k : Symbols) (d : Bool) (l m : Linear) (low high : Option ℤ) → IsClosed k → IsBelow k.next l → IsBelow k.next m → IsClosed (with_operation k d l m low high)
operation_closed k d l m low high c x y =
    let f = fresh_closed k low high c in
    record {
      apart = f.apart;
      operations = (at_suc k.next, terms_up k.next l.terms x, terms_up k.next m.terms y, f.operations);
      branches = f.branches;
      ranges = f.ranges;
      facts = f.facts;
    }

operation_valued : (k : Symbols) (r : Valuation) (d : Bool) (l m : Linear) (low high : Option ℤ) (n : ℤ) → IsClosed k → IsValued r k → IsBelow k.next l → IsBelow k.next m
    → n ≡ result d (number_at r l) (number_at r m) → IsFrom low n → IsUpTo high n → IsValued (with_value r k.next n) (with_operation k d l m low high)
operation_valued k r d l m low high n c v x y e f g =
    let w = fresh_valued k r low high n c v f g in
    let q = with_value r k.next n in
    let a = agree_below r k.next n in
    record {
      apart = w.apart;
      operations = (at_new r k.next n ∙ e ∙ ap (λ z. result d z (number_at r m)) (sym (same_number k.next q r a l x)) ∙ ap (λ z. result d (number_at q l) z) (sym (same_number k.next q r a m y)), w.operations);
      branches = w.branches;
      ranges = w.ranges;
      facts = w.facts;
    }

-- .. behind those that are kept
operation_held : (bs : List Bounds) (b : Bounds) (fs ds : List Linear) (cs : List Branch) (os ks : List Operation) (d : Bool) (l m : Linear)
    → ((r : Valuation) → AreResults r os → AreResults r ks) → ((n : ℕ) → OperationsBelow n os → OperationsBelow n ks)
    → GivesInRange d b.least b.greatest (symbols_of bs fs ds os cs) (symbols_of (bs ++ b ∷ []) fs ds (ks ++ (record { divides = d; left = l; right = m; symbol = length bs }) ∷ []) cs) l m
    (symbol (length bs))
operation_held bs b fs ds cs os ks d l m still within r c v x y f g =
    let k = symbols_of bs fs ds os cs in
    let o : Operation = record { divides = d; left = l; right = m; symbol = length bs } in
    let z = symbols_of (bs ++ b ∷ []) fs ds (ks ++ o ∷ []) cs in
    let n = result d (number_at r l) (number_at r m) in
    let e = one_more bs b in
    let h = operation_closed k d l m b.least b.greatest c x y in
    let w = operation_valued k r d l m b.least b.greatest n c v x y refl f g in
    let q = with_value r (length bs) n in
    let i : length bs ≡ 0 + length bs = omega arith in
    new_gives k r n z e
    (record {
      ranges = ranges_below (length (bs ++ b ∷ [])) 0 (bs ++ b ∷ []) (omega arith);
      facts = subst (λ p. FactsBelow p fs) (sym e) h.facts;
      apart = subst (λ p. FactsBelow p ds) (sym e) h.apart;
      operations = subst (λ p. OperationsBelow p (ks ++ o ∷ [])) (sym e) (below_both_ways (suc (length bs)) ks (o ∷ []) (within (suc (length bs)) h.operations.3) (h.operations.0, h.operations.1, h.operations.2, tt));
      branches = subst (λ p. BranchesBelow p cs) (sym e) h.branches;
    })
    (record {
      ranges = in_range_append q 0 bs b w.ranges.2 (subst (λ p. IsFrom b.least (q p)) i w.ranges.0) (subst (λ p. IsUpTo b.greatest (q p)) i w.ranges.1);
      facts = w.facts;
      apart = w.apart;
      operations = results_both q ks (o ∷ []) (still q w.operations.1) (w.operations.0, tt);
      branches = w.branches;
    })

pub put_operation_held : (bs es : List Bounds) (b : Bounds) (fs ds : List Linear) (cs : List Branch) (ns ks ps : List Named) (d : Bool) (l m e : Linear) (n : ℕ) → IsNewest ns ks → es ≡ bs ++ b ∷ [] → n ≡ length bs → e ≡ symbol n
    → ps ≡ ks ++ (record { divides = d; left = l; right = m; symbol = n }) ∷ []
    → GivesInRange d b.least b.greatest (symbols_of bs fs ds (operations_of ns) cs) (symbols_of es fs ds (operations_of ps) cs) l m e
put_operation_held bs es b fs ds cs ns ks ps d l m e n w p q i j =
    let o : Named = record { divides = d; left = l; right = m; symbol = length bs } in
    let h : operations_of ps ≡ operations_of ks ++ operation_of o ∷ [] =
    ap operations_of (j ∙ ap (λ x. ks ++ (record { divides = d; left = l; right = m; symbol = x }) ∷ []) q) ∙ operations_append ks o in
    subst (λ xs. GivesInRange d b.least b.greatest (symbols_of bs fs ds (operations_of ns) cs) (symbols_of xs fs ds (operations_of ps) cs) l m e) (sym p)
    (subst (λ x. GivesInRange d b.least b.greatest (symbols_of bs fs ds (operations_of ns) cs) (symbols_of (bs ++ b ∷ []) fs ds (operations_of ps) cs) l m x) (sym (i ∙ ap symbol q))
    (subst (λ os. GivesInRange d b.least b.greatest (symbols_of bs fs ds (operations_of ns) cs) (symbols_of (bs ++ b ∷ []) fs ds os cs) l m (symbol (length bs))) (sym h)
    (operation_held bs b fs ds cs (operations_of ns) (operations_of ks) d l m (λ r h. results_newest r ns ks w h) (λ m h. operations_newest m ns ks w h))))

-- ---- products

pub multiple_times : (k : Symbols) (l e : Linear) (p : ℤ) → StandsFor (λ r. p *ℤ number_at r l) (λ n. IsBelow n l) e → GivesMultiple p k k l e
multiple_times k l e p s r c v b = gives_here k r e (p *ℤ number_at r l) c v (s.below k.next b) (sym (s.number r))

pub multiple_unknown : (k m : Symbols) (l e : Linear) (p : ℤ) → GivesAny k m e None None → GivesMultiple p k m l e
multiple_unknown k m l e p h r c v b = h r (p *ℤ number_at r l) c v tt tt

pub product_left : (k z : Symbols) (l m e : Linear) (p : ℤ) → p ≡ l.constant → l.terms ≡ [] → GivesMultiple p k z m e → GivesResult false k z l m e
product_left k z l m e p q n h r c v x y = subst (λ w. Gives k r (z, e) (w *ℤ number_at r m)) (q ∙ sym (no_terms r l n)) (h r c v y)

pub product_right : (k z : Symbols) (l m e : Linear) (p : ℤ) → p ≡ m.constant → m.terms ≡ [] → GivesMultiple p k z l e → GivesResult false k z l m e
product_right k z l m e p q n h r c v x y =
    subst (λ w. Gives k r (z, e) w) (flipped p (number_at r l) ∙ ap (λ w. number_at r l *ℤ w) (q ∙ sym (no_terms r m n))) (h r c v x)

pub product_ranged : (k z : Symbols) (l m e : Linear) (a b c d low high : Option ℤ) → IsFromAll k.ranges k.facts (λ r. number_at r l) a → IsUpToAll k.ranges k.facts (λ r. number_at r l) b
    → IsFromAll k.ranges k.facts (λ r. number_at r m) c → IsUpToAll k.ranges k.facts (λ r. number_at r m) d → IsProductRange a b c d low high → GivesInRange false low high k z l m e → GivesResult
    false k z l m e
product_ranged k z l m e a b c d low high f g h i p o r cl v x y =
    o r cl v x y
    (p.low (number_at r l) (number_at r m) (f r v.ranges v.facts) (g r v.ranges v.facts) (h r v.ranges v.facts) (i r v.ranges v.facts))
    (p.high (number_at r l) (number_at r m) (f r v.ranges v.facts) (g r v.ranges v.facts) (h r v.ranges v.facts) (i r v.ranges v.facts))

pub quotient_ranged : (k z : Symbols) (l m e : Linear) (a b c d low high : Option ℤ) → IsFromAll k.ranges k.facts (λ r. number_at r l) a → IsUpToAll k.ranges k.facts (λ r. number_at r l) b
    → IsFromAll k.ranges k.facts (λ r. number_at r m) c → IsUpToAll k.ranges k.facts (λ r. number_at r m) d → IsQuotientRange a b c d low high → GivesInRange true low high k z l m e → GivesResult
    true k z l m e
quotient_ranged k z l m e a b c d low high f g h i p o r cl v x y =
    o r cl v x y
    (p.low (number_at r l) (number_at r m) (f r v.ranges v.facts) (g r v.ranges v.facts) (h r v.ranges v.facts) (i r v.ranges v.facts))
    (p.high (number_at r l) (number_at r m) (f r v.ranges v.facts) (g r v.ranges v.facts) (h r v.ranges v.facts) (i r v.ranges v.facts))

pub symbol_named : (ns : List Named) (i : ℕ) (o : Named) (d : Bool) (l m : Linear) (x : ℕ) → i < length ns → o ≡ get_or ns i o → IsSymbolOf o d l m x → IsNamed (operations_of ns) d l m x
symbol_named ns i o d l m x h is s = subst (λ y. IsNamed (operations_of ns) d l m y) (sym s.1) (named_at ns i o d l m h is s.0)
