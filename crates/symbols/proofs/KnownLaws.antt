-- What follows where more is known of symbols: new symbols, values and facts.
use Rattle.std.proofs.Common.{◌≡◌, ℕ, suc, ◌<◌, ◌≤◌, ◌==◌, ℤ, pos, ◌≤ℤ◌, true, false, cond, List, [], ◌∷◌, ◌++◌, refl, sym, ap, ◌∙◌, subst, arith, Option}
use Rattle.std.proofs.lemmas.Bool.Decides.{nat_tests}
use Rattle.linear.specs.Linear.{Linear, Valuation, number_at, TermsBelow, IsBelow, symbol, Range, IsFrom, IsUpTo, AreInRange, AreNatural, Agree}
use Rattle.symbols.specs.Symbols.{Knows, Leads, Gives, Branch, AreBranches, BranchesBelow, AreApart, Symbols, Operation, result, AreResults, OperationsBelow, IsValued, RangesBelow, FactsBelow, IsClosed}
use Rattle.linear.proofs.LinearLaws.{same_number, symbol_at}

-- ---- numbers

pub below_suc : (m n : ℕ) → m < n → m < suc n
below_suc m n h = omega arith

pub at_suc : (n : ℕ) → n < suc n
at_suc n = omega arith

pub up_suc : (n : ℕ) → n ≤ suc n
up_suc n = omega arith

pub up_itself : (n : ℕ) → n ≤ n
up_itself n = omega arith

pub below_more : (m n l : ℕ) → m < n → n ≤ l → m < l
below_more m n l h k = omega arith

pub up_more : (m n l : ℕ) → m ≤ n → n ≤ l → m ≤ l
up_more m n l h k = omega arith

not_same : (m n : ℕ) → m < n → (m == n) ≡ false
not_same m n h = grind (arith, nat_tests)

same_itself : (n : ℕ) → (n == n) ≡ true
same_itself n = grind (arith, nat_tests)

-- ---- the same in other numbers

same_range : (n : ℕ) (q r : Valuation) → Agree n q r → (es : List Range) → RangesBelow n es → AreInRange r es → AreInRange q es
same_range n q r a [] h k = tt
same_range n q r a (e ∷ es) h k =
    let f = sym (a e.symbol h.0) in
    (subst (λ z. IsFrom e.least z) f k.0, subst (λ z. IsUpTo e.greatest z) f k.1, same_range n q r a es h.1 k.2)

pub same_facts : (n : ℕ) (q r : Valuation) → Agree n q r → (fs : List Linear) → FactsBelow n fs → AreNatural r fs → AreNatural q fs
same_facts n q r a [] h k = tt
same_facts n q r a (f ∷ fs) h k = (subst (λ z. pos 0 ≤ℤ z) (sym (same_number n q r a f h.0)) k.0, same_facts n q r a fs h.1 k.1)

pub same_apart : (n : ℕ) (q r : Valuation) → Agree n q r → (ds : List Linear) → FactsBelow n ds → AreApart r ds → AreApart q ds
same_apart n q r a [] h k = tt
same_apart n q r a (d ∷ ds) h k = ((λ e. k.0 (sym (same_number n q r a d h.0) ∙ e)), same_apart n q r a ds h.1 k.1)

same_operations : (n : ℕ) (q r : Valuation) → Agree n q r → (os : List Operation) → OperationsBelow n os → AreResults r os → AreResults q os
same_operations n q r a [] h k = tt
same_operations n q r a (o ∷ os) h k = (
  a o.symbol h.0 ∙ k.0 ∙ ap (λ z. result o.divides z (number_at r o.right)) (sym (same_number n q r a o.left h.1)) ∙ ap (λ z. result o.divides (number_at q o.left) z) (sym (same_number n q r a o.right h.2)),
  same_operations n q r a os h.3 k.1,
)

pub agree_back : (n : ℕ) (q r : Valuation) → Agree n q r → Agree n r q
agree_back n q r a m l = sym (a m l)

same_branches : (n : ℕ) (q r : Valuation) → Agree n q r → (bs : List Branch) → BranchesBelow n bs → AreBranches r bs → AreBranches q bs
same_branches n q r a [] h k = tt
same_branches n q r a (b ∷ bs) h k = (
  (λ f d. a b.symbol h.0 ∙ k.0 (same_facts n r q (agree_back n q r a) b.facts h.1 f) (same_apart n r q (agree_back n q r a) b.apart h.2 d) ∙ sym (same_number n q r a b.number h.3)),
  same_branches n q r a bs h.4 k.1,
)

-- what is known stays true where no symbol of it changes
same_valued : (k : Symbols) (q r : Valuation) → Agree k.next q r → IsClosed k → IsValued r k → IsValued q k
same_valued k q r a c v = record {
  apart = same_apart k.next q r a k.apart c.apart v.apart;
  operations = same_operations k.next q r a k.operations c.operations v.operations;
  branches = same_branches k.next q r a k.branches c.branches v.branches;
  ranges = same_range k.next q r a k.ranges c.ranges v.ranges;
  facts = same_facts k.next q r a k.facts c.facts v.facts;
}

-- ---- a new symbol

pub terms_up : (n : ℕ) (ts : List (ℕ × ℤ)) → TermsBelow n ts → TermsBelow (suc n) ts
terms_up n [] h = tt
terms_up n (t ∷ ts) h = (below_suc t.0 n h.0, terms_up n ts h.1)

ranges_up : (n : ℕ) (es : List Range) → RangesBelow n es → RangesBelow (suc n) es
ranges_up n [] h = tt
ranges_up n (e ∷ es) h = (below_suc e.symbol n h.0, ranges_up n es h.1)

facts_up : (n : ℕ) (fs : List Linear) → FactsBelow n fs → FactsBelow (suc n) fs
facts_up n [] h = tt
facts_up n (f ∷ fs) h = (terms_up n f.terms h.0, facts_up n fs h.1)

operations_up : (n : ℕ) (os : List Operation) → OperationsBelow n os → OperationsBelow (suc n) os
operations_up n [] h = tt
operations_up n (o ∷ os) h = (below_suc o.symbol n h.0, terms_up n o.left.terms h.1, terms_up n o.right.terms h.2, operations_up n os h.3)

branches_up : (n : ℕ) (bs : List Branch) → BranchesBelow n bs → BranchesBelow (suc n) bs
branches_up n [] h = tt
branches_up n (b ∷ bs) h = (below_suc b.symbol n h.0, facts_up n b.facts h.1, facts_up n b.apart h.2, terms_up n b.number.terms h.3, branches_up n bs h.4)

-- with a new symbol in a range, of which its place is the number
abbrev pub fresh : Symbols → Option ℤ → Option ℤ → Symbols
fresh k low high = record k { next = suc k.next; ranges = record { symbol = k.next; least = low; greatest = high } ∷ k.ranges }

pub fresh_closed : (k : Symbols) (low high : Option ℤ) → IsClosed k → IsClosed (fresh k low high)
fresh_closed k low high c = record {
  apart = facts_up k.next k.apart c.apart;
  operations = operations_up k.next k.operations c.operations;
  branches = branches_up k.next k.branches c.branches;
  ranges = (at_suc k.next, ranges_up k.next k.ranges c.ranges);
  facts = facts_up k.next k.facts c.facts;
}

abbrev pub with_value : Valuation → ℕ → ℤ → Valuation
with_value r n x m = cond (m == n) x (r m)

pub agree_below : (r : Valuation) (n : ℕ) (x : ℤ) → Agree n (with_value r n x) r
agree_below r n x m h = ap (λ b. cond b x (r m)) (not_same m n h)

pub at_new : (r : Valuation) (n : ℕ) (x : ℤ) → with_value r n x n ≡ x
at_new r n x = ap (λ b. cond b x (r n)) (same_itself n)

pub fresh_valued : (k : Symbols) (r : Valuation) (low high : Option ℤ) (x : ℤ) → IsClosed k → IsValued r k → IsFrom low x → IsUpTo high x → IsValued (with_value r k.next x) (fresh k low high)
fresh_valued k r low high x c v f g =
    let w = same_valued k (with_value r k.next x) r (agree_below r k.next x) c v in
    let e = sym (at_new r k.next x) in
    record {
      apart = w.apart;
      operations = w.operations;
      branches = w.branches;
      ranges = (subst (λ z. IsFrom low z) e f, subst (λ z. IsUpTo high z) e g, w.ranges);
      facts = w.facts;
    }

pub symbol_below : (n : ℕ) → IsBelow (suc n) (symbol n)
symbol_below n = (at_suc n, tt)

-- what is known in the new symbol's numbers gives it
pub new_gives : (k : Symbols) (r : Valuation) (n : ℤ) (m : Symbols) → m.next ≡ suc k.next → IsClosed m → IsValued (with_value r k.next n) m → Gives k r (m, symbol k.next) n
new_gives k r n m f c v = record {
  closed = c;
  below = subst (λ l. IsBelow l (symbol k.next)) (sym f) (symbol_below k.next);
  grows = subst (λ l. k.next ≤ l) (sym f) (up_suc k.next);
  values = with_value r k.next n;
  agrees = agree_below r k.next n;
  valued = v;
  number = sym (symbol_at (with_value r k.next n) k.next ∙ at_new r k.next n);
}

-- ---- values

pub gives_here : (k : Symbols) (r : Valuation) (l : Linear) (n : ℤ) → IsClosed k → IsValued r k → IsBelow k.next l → n ≡ number_at r l → Gives k r (k, l) n
gives_here k r l n c v b e = record { closed = c; below = b; grows = up_itself k.next; values = r; agrees = λ m h. refl; valued = v; number = e }

-- one evaluation and then another
pub gives_then : (k : Symbols) (r : Valuation) (a b : Symbols × Linear) (m n : ℤ) → (g : Gives k r a m) → Gives a.0 g.values b n → Gives k r b n
gives_then k r a b m n g h = record {
  closed = h.closed;
  below = h.below;
  grows = up_more k.next a.0.next b.0.next g.grows h.grows;
  values = h.values;
  agrees = λ x l. h.agrees x (below_more x k.next a.0.next l g.grows) ∙ g.agrees x l;
  valued = h.valued;
  number = h.number;
}

pub terms_more : (n m : ℕ) → n ≤ m → (ts : List (ℕ × ℤ)) → TermsBelow n ts → TermsBelow m ts
terms_more n m h [] k = tt
terms_more n m h (t ∷ ts) k = (below_more t.0 n m k.0 h, terms_more n m h ts k.1)

-- ---- facts

pub knows_itself : (k : Symbols) (r : Valuation) → IsClosed k → IsValued r k → Knows k r k
knows_itself k r c v = record { next = refl; closed = c; valued = v }

pub knows_then : (k : Symbols) (r : Valuation) (m n : Symbols) → Knows k r m → Knows m r n → Knows k r n
knows_then k r m n g h = record { next = h.next ∙ g.next; closed = h.closed; valued = h.valued }

abbrev pub knows_leads : (k : Symbols) (r : Valuation) (m : Symbols) → Knows k r m → Leads k r m
knows_leads k r m g = record { closed = g.closed; grows = subst (λ n. k.next ≤ n) (sym g.next) (up_itself k.next); values = r; agrees = λ x h. refl; valued = g.valued }

pub leads_gives : (k : Symbols) (r : Valuation) (a : Symbols) (b : Symbols × Linear) (n : ℤ) → (g : Leads k r a) → Gives a g.values b n → Gives k r b n
leads_gives k r a b n g h = record {
  closed = h.closed;
  below = h.below;
  grows = up_more k.next a.next b.0.next g.grows h.grows;
  values = h.values;
  agrees = λ x l. h.agrees x (below_more x k.next a.next l g.grows) ∙ g.agrees x l;
  valued = h.valued;
  number = h.number;
}

abbrev pub gives_leads : (k : Symbols) (r : Valuation) (a : Symbols × Linear) (n : ℤ) → Gives k r a n → Leads k r a.0
gives_leads k r a n g = record { closed = g.closed; grows = g.grows; values = g.values; agrees = g.agrees; valued = g.valued }

-- ---- lists of facts

pub below_both : (n : ℕ) (fs gs : List Linear) → FactsBelow n fs → FactsBelow n gs → FactsBelow n (fs ++ gs)
below_both n [] gs h k = k
below_both n (f ∷ fs) gs h k = (h.0, below_both n fs gs h.1 k)
