-- What is kept of a symbol's number in each of two cases, and a symbol that has a number in both.
use Rattle.std.proofs.Common.{◌≡◌, ℕ, zero, suc, ◌+◌, ◌<◌, ◌≤◌, ℤ, pos, negsuc, neg_ℤ, ◌*ℤ◌, ◌≤ℤ◌, ◌⊎◌, inl, inr, List, [], ◌∷◌, ◌++◌, take, drop, length, get_or, refl, sym, ap, ◌∙◌, subst, arith}
use Rattle.std.proofs.lemmas.Int.{ints}
use Rattle.std.proofs.lemmas.List.{take_all}
use Rattle.linear.specs.declared.bounds.Bounds.{Bounds}
use Rattle.symbols.specs.declared.branched.Branched.{Branched}
use Rattle.linear.specs.Linear.{Linear, Valuation, number_at, symbol, IsBelow, AreNatural}
use Rattle.linear.specs.Combined.{StandsFor}
use Rattle.linear.specs.Bounded.{IsShown}
use Rattle.symbols.specs.Symbols.{Symbols, Operation, Branch, AreApart, AreBranches, FactsBelow, BranchesBelow, Knows, Gives}
use Rattle.symbols.specs.Held.{symbols_of, branch_of, branches_of, IsNewest, Cancels, IsNever}
use Rattle.symbols.specs.Either.{GivesEither}
use Rattle.symbols.specs.Branches.{Stands, Comes, ShowsAll, RulesOutAll, IsTaken, HasNumber, IsOfEither, Excludes, IsZeroIn, KeepsBranch, KeepsSide, KeepsWhere, KeepsSides}
use Rattle.linear.proofs.LinearLaws.{same_number, symbol_at, natural_at}
use Rattle.symbols.proofs.KnownLaws.{terms_more, knows_then, gives_here, same_facts, same_apart, agree_back, below_both}
use Rattle.symbols.proofs.HeldLemmas.{apart_at, same_as}

-- ---- what a case shows of lists

shows_next : (r : Valuation) (fs : List Linear) (i : ℕ) (d : Linear) → i < length fs → AreNatural r (take i fs) → pos 0 ≤ℤ number_at r (get_or fs i d) → AreNatural r (take (suc i) fs)
shows_next r [] i d l h k = absurd (omega arith)
shows_next r (f ∷ fs) zero d l h k = (k, tt)
shows_next r (f ∷ fs) (suc i) d l h k = (h.0, shows_next r fs i d (omega arith) h.1 k)

pub shows_take : (k : Symbols) (fs : List Linear) (i : ℕ) (f : Linear) → i < length fs → f ≡ get_or fs i f → ShowsAll k (take i fs) → IsShown k.ranges k.facts f → ShowsAll k (take (i + 1) fs)
shows_take k fs i f l is h s r v =
    let e : suc i ≡ i + 1 = omega arith in
    subst (λ n. AreNatural r (take n fs)) e (shows_next r fs i f l (h r v) (subst (λ (x : Linear). pos 0 ≤ℤ number_at r x) is (s r v.ranges v.facts)))

apart_next : (r : Valuation) (ds : List Linear) (i : ℕ) (d : Linear) → i < length ds → AreApart r (take i ds) → (number_at r (get_or ds i d) ≡ pos 0 → ⊥) → AreApart r (take (suc i) ds)
apart_next r [] i d l h k = absurd (omega arith)
apart_next r (x ∷ ds) zero d l h k = (k, tt)
apart_next r (x ∷ ds) (suc i) d l h k = (h.0, apart_next r ds i d (omega arith) h.1 k)

pub rules_out_take : (k : Symbols) (ks ds : List Linear) (i : ℕ) (d : Linear) → ks ≡ k.apart → i < length ds → d ≡ get_or ds i d → RulesOutAll k (take i ds) → IsNever ks d → RulesOutAll k (take (i + 1) ds)
rules_out_take k ks ds i d q l is h s r v =
    let e : suc i ≡ i + 1 = omega arith in
    subst (λ n. AreApart r (take n ds)) e
    (apart_next r ds i d l (h r v) (λ z. s r (subst (λ xs. AreApart r xs) (sym q) v.apart) (subst (λ (x : Linear). number_at r x ≡ pos 0) (sym is) z)))

pub shows_all_taken : (k : Symbols) (fs : List Linear) (i : ℕ) → length fs ≤ i → ShowsAll k (take i fs) → ShowsAll k fs
shows_all_taken k fs i l h r v = subst (λ xs. AreNatural r xs) (take_all i fs l) (h r v)

pub rules_out_all_taken : (k : Symbols) (ds : List Linear) (i : ℕ) → length ds ≤ i → RulesOutAll k (take i ds) → RulesOutAll k ds
rules_out_all_taken k ds i l h r v = subst (λ xs. AreApart r xs) (take_all i ds l) (h r v)

below_next : (n : ℕ) (fs : List Linear) (i : ℕ) (d : Linear) → i < length fs → FactsBelow n (take i fs) → IsBelow n (get_or fs i d) → FactsBelow n (take (suc i) fs)
below_next n [] i d l h k = absurd (omega arith)
below_next n (f ∷ fs) zero d l h k = (k, tt)
below_next n (f ∷ fs) (suc i) d l h k = (h.0, below_next n fs i d (omega arith) h.1 k)

pub below_take : (n : ℕ) (fs : List Linear) (i : ℕ) (f : Linear) → i < length fs → f ≡ get_or fs i f → FactsBelow n (take i fs) → IsBelow n f → FactsBelow n (take (i + 1) fs)
below_take n fs i f l is h k =
    let e : suc i ≡ i + 1 = omega arith in
    subst (λ m. FactsBelow n (take m fs)) e (below_next n fs i f l h (subst (λ (x : Linear). IsBelow n x) is k))

-- ---- branches

pub taken_by : (b : Branch) (k : Symbols) (e : Linear) → Cancels b.number (negsuc 0) e → ShowsAll k b.facts → RulesOutAll k b.apart → IsTaken b k e
taken_by b k e c f d = record { facts = f; apart = d; number = λ r. same_as (number_at r b.number) (number_at r e) (c r) }

branch_below : (bs : List Branched) (i : ℕ) (d : Branched) (n : ℕ) → i < length bs → BranchesBelow n (branches_of bs) → BranchesBelow n (branch_of (get_or bs i d) ∷ [])
branch_below [] i d n l h = absurd (omega arith)
branch_below (b ∷ bs) zero d n l h = (h.0, h.1, h.2, h.3, tt)
branch_below (b ∷ bs) (suc i) d n l h = branch_below bs i d n (omega arith) h.4

pub branch_holds : (bs : List Branched) (i : ℕ) (d : Branched) (r : Valuation) → i < length bs → AreBranches r (branches_of bs) → AreBranches r (branch_of (get_or bs i d) ∷ [])
branch_holds [] i d r l h = absurd (omega arith)
branch_holds (b ∷ bs) zero d r l h = (h.0, tt)
branch_holds (b ∷ bs) (suc i) d r l h = branch_holds bs i d r (omega arith) h.1

pub branch_at_below : (bs : List Branched) (i : ℕ) (b : Branched) (n : ℕ) → i < length bs → b ≡ get_or bs i b → BranchesBelow n (branches_of bs) → BranchesBelow n (branch_of b ∷ [])
branch_at_below bs i b n l is h = subst (λ (x : Branched). BranchesBelow n (branch_of x ∷ [])) (sym is) (branch_below bs i b n l h)

branch_at_holds : (bs : List Branched) (i : ℕ) (b : Branched) (r : Valuation) → i < length bs → b ≡ get_or bs i b → AreBranches r (branches_of bs) → AreBranches r (branch_of b ∷ [])
branch_at_holds bs i b r l is h = subst (λ (x : Branched). AreBranches r (branch_of x ∷ [])) (sym is) (branch_holds bs i b r l h)

pub told_by : (bs : List Branched) (i : ℕ) (b : Branched) (s : ℕ) (m : Symbols) (e : Linear) → i < length bs → b ≡ get_or bs i b → b.symbol ≡ s → IsTaken (branch_of b) m e → HasNumber (branches_of bs) s m e
told_by bs i b s m e l is q t n r c v u h =
    let w = branch_at_below bs i b n l is c in
    let g = branch_at_holds bs i b r l is v in
    let a = agree_back n h.values r h.agrees in
    let facts = same_facts n r h.values a b.facts w.1 (t.facts h.values h.valued) in
    let apart = same_apart n r h.values a b.apart w.2 (t.apart h.values h.valued) in
    t.number h.values ∙ same_number n h.values r h.agrees b.number w.3 ∙ sym (g.0 facts apart) ∙ ap r q

pub symbol_below : (bs : List Branched) (i : ℕ) (b : Branched) (n : ℕ) → i < length bs → b ≡ get_or bs i b → BranchesBelow n (branches_of bs) → b.symbol < n
symbol_below bs i b n l is h = (branch_at_below bs i b n l is h).0

pub either_told : (k a : Symbols) (x : Linear) (b : Symbols) (y e : Linear) (bs : List Branch) (s : ℕ) → bs ≡ k.branches → IsOfEither bs a x b y s → e ≡ symbol s → GivesEither k k a x b y e
either_told k a x b y e bs s i o q r n cl v h =
    subst (λ (z : Linear). Gives k r (k, z) n) (sym q)
    (gives_here k r (symbol s) n cl v (below, tt) (by_case h ∙ sym (symbol_at r s)))
  where
    closed : BranchesBelow k.next bs
    closed = subst (λ cs. BranchesBelow k.next cs) (sym i) cl.branches

    holds : AreBranches r bs
    holds = subst (λ cs. AreBranches r cs) (sym i) v.branches

    below : s < k.next
    below = o.below k.next closed

    by_case : Gives k r (a, x) n ⊎ Gives k r (b, y) n → n ≡ r s
    by_case (inl g) = g.number ∙ o.left k.next r closed holds below (record { values = g.values; agrees = g.agrees; valued = g.valued })
    by_case (inr g) = g.number ∙ o.right k.next r closed holds below (record { values = g.values; agrees = g.agrees; valued = g.valued })

-- ---- what is kept

branches_append : (bs : List Branched) (b : Branched) → branches_of (bs ++ b ∷ []) ≡ branches_of bs ++ branch_of b ∷ []
branches_append [] b = refl
branches_append (c ∷ bs) b = ap (λ xs. branch_of c ∷ xs) (branches_append bs b)

branches_both : (r : Valuation) (bs cs : List Branch) → AreBranches r bs → AreBranches r cs → AreBranches r (bs ++ cs)
branches_both r [] cs h k = k
branches_both r (b ∷ bs) cs h k = (h.0, branches_both r bs cs h.1 k)

branches_below_both : (n : ℕ) (bs cs : List Branch) → BranchesBelow n bs → BranchesBelow n cs → BranchesBelow n (bs ++ cs)
branches_below_both n [] cs h k = k
branches_below_both n (b ∷ bs) cs h k = (h.0, h.1, h.2, h.3, branches_below_both n bs cs h.4 k)

branches_drop : (r : Valuation) (n : ℕ) (cs : List Branched) → AreBranches r (branches_of cs) → AreBranches r (branches_of (drop n cs))
branches_drop r zero cs h = h
branches_drop r (suc n) [] h = tt
branches_drop r (suc n) (c ∷ cs) h = branches_drop r n cs h.1

branches_below_drop : (m n : ℕ) (cs : List Branched) → BranchesBelow m (branches_of cs) → BranchesBelow m (branches_of (drop n cs))
branches_below_drop m zero cs h = h
branches_below_drop m (suc n) [] h = tt
branches_below_drop m (suc n) (c ∷ cs) h = branches_below_drop m n cs h.4

pub keep_held : (bs : List Bounds) (fs ds : List Linear) (os : List Operation) (ks cs : List Branched) (b : Branched) → IsNewest ks cs
    → KeepsBranch (symbols_of bs fs ds os (branches_of ks)) (symbols_of bs fs ds os (branches_of (cs ++ b ∷ []))) b.facts b.apart b.symbol b.number
keep_held bs fs ds os ks cs b q r c v x y u w g =
    let below : BranchesBelow (length bs) (branches_of cs) = subst (λ xs. BranchesBelow (length bs) (branches_of xs)) (sym q.is) (branches_below_drop (length bs) q.dropped ks c.branches) in
    let holds : AreBranches r (branches_of cs) = subst (λ xs. AreBranches r (branches_of xs)) (sym q.is) (branches_drop r q.dropped ks v.branches) in
    subst (λ xs. Knows (symbols_of bs fs ds os (branches_of ks)) r (symbols_of bs fs ds os xs)) (sym (branches_append cs b))
    (record {
      next = refl;
      closed = record { ranges = c.ranges; facts = c.facts; apart = c.apart; operations = c.operations; branches = branches_below_both (length bs) (branches_of cs) (branch_of b ∷ []) below (u, x, y, w, tt) };
      valued = record { ranges = v.ranges; facts = v.facts; apart = v.apart; operations = v.operations; branches = branches_both r (branches_of cs) (branch_of b ∷ []) holds (g, tt) };
    })

facts_more : (n m : ℕ) → n ≤ m → (fs : List Linear) → FactsBelow n fs → FactsBelow m fs
facts_more n m l [] h = tt
facts_more n m l (f ∷ fs) h = (terms_more n m l f.terms h.0, facts_more n m l fs h.1)

excluded : (n : ℕ) (b : Symbols) (fs ds : List Linear) → Excludes n b fs ds → (r : Valuation) → Stands b n r → AreNatural r fs → AreApart r ds → ⊥
excluded n b fs ds e r h f d =
    let a = h.agrees in
    e.never h.values h.valued (same_facts n h.values r a fs e.facts f) (same_apart n h.values r a ds e.apart d)

pub own_kept : (k m a : Symbols) (x : Linear) (fs ds : List Linear) (n s : ℕ) → IsBelow n x → KeepsBranch k m fs ds s x → KeepsWhere k m a x fs ds n s
own_kept k m a x fs ds n s l h b e r c v u w g =
    h r c v (facts_more n k.next u fs e.facts) (facts_more n k.next u ds e.apart) w (terms_more n k.next u x.terms l) (by_case g)
  where
    by_case : Comes a x n r (r s) ⊎ Stands b n r → AreNatural r fs → AreApart r ds → r s ≡ number_at r x
    by_case (inl o) f d = o.number ∙ same_number n o.stands.values r o.stands.agrees x l
    by_case (inr o) f d = absurd (excluded n b fs ds e r o f d)

natural_left : (r : Valuation) (fs gs : List Linear) → AreNatural r (fs ++ gs) → AreNatural r fs
natural_left r [] gs h = tt
natural_left r (f ∷ fs) gs h = (h.0, natural_left r fs gs h.1)

natural_right : (r : Valuation) (fs gs : List Linear) → AreNatural r (fs ++ gs) → AreNatural r gs
natural_right r [] gs h = h
natural_right r (f ∷ fs) gs h = natural_right r fs gs h.1

apart_left : (r : Valuation) (fs gs : List Linear) → AreApart r (fs ++ gs) → AreApart r fs
apart_left r [] gs h = tt
apart_left r (f ∷ fs) gs h = (h.0, apart_left r fs gs h.1)

apart_right : (r : Valuation) (fs gs : List Linear) → AreApart r (fs ++ gs) → AreApart r gs
apart_right r [] gs h = h
apart_right r (f ∷ fs) gs h = apart_right r fs gs h.1

pub taken_kept : (k m a : Symbols) (bs : List Branched) (i : ℕ) (t : Branched) (fs ds : List Linear) (own n s : ℕ) → branches_of bs ≡ a.branches → i < length bs → t ≡ get_or bs i t → t.symbol ≡ own
    → FactsBelow n t.facts → FactsBelow n t.apart → IsBelow n t.number → KeepsBranch k m (fs ++ t.facts) (ds ++ t.apart) s t.number → KeepsWhere k m a (symbol own) fs ds n s
taken_kept k m a bs i t fs ds own n s q l is o x y z h b e r c v u w g =
    h r c v (facts_more n k.next u (fs ++ t.facts) (below_both n fs t.facts e.facts x)) (facts_more n k.next u (ds ++ t.apart) (below_both n ds t.apart e.apart y)) w (terms_more n k.next u t.number.terms z)
    (by_case g)
  where
    by_case : Comes a (symbol own) n r (r s) ⊎ Stands b n r → AreNatural r (fs ++ t.facts) → AreApart r (ds ++ t.apart) → r s ≡ number_at r t.number
    by_case (inl g) f d =
        let p = g.stands.values in
        let j = g.stands.agrees in
        let held = branch_at_holds bs i t p l is (subst (λ xs. AreBranches p xs) (sym q) g.stands.valued.branches) in
        let facts = same_facts n p r j t.facts x (natural_right r fs t.facts f) in
        let apart = same_apart n p r j t.apart y (apart_right r ds t.apart d) in
        g.number ∙ symbol_at p own ∙ sym (ap p o) ∙ held.0 facts apart ∙ same_number n p r j t.number z
    by_case (inr g) f d = absurd (excluded n b fs ds e r g (natural_left r fs t.facts f) (apart_left r ds t.apart d))

pub side_then : (k m z a : Symbols) (x : Linear) (b : Symbols) (n s : ℕ) → KeepsSide k m a x b n s → KeepsSide m z a x b n s → KeepsSide k z a x b n s
side_then k m z a x b n s h i r c v u w g =
    let j = h r c v u w g in
    knows_then k r m z j (i r j.closed j.valued (subst (λ p. n ≤ p) (sym j.next) u) (subst (λ p. s < p) (sym j.next) w) g)

pub keeps_then : (k m z a : Symbols) (x : Linear) (fs ds : List Linear) (n s : ℕ) → KeepsWhere k m a x fs ds n s → KeepsWhere m z a x fs ds n s → KeepsWhere k z a x fs ds n s
keeps_then k m z a x fs ds n s h i b e = side_then k m z a x b n s (h b e) (i b e)

pub both_sides : (k m z a : Symbols) (x : Linear) (b : Symbols) (y : Linear) (n s : ℕ) → KeepsSide k m a x b n s → KeepsSide m z b y a n s → KeepsSides k z a x b y n s
both_sides k m z a x b y n s h i r c v u w g =
    let j = h r c v u w (left g) in
    knows_then k r m z j (i r j.closed j.valued (subst (λ p. n ≤ p) (sym j.next) u) (subst (λ p. s < p) (sym j.next) w) (right g))
  where
    left : Comes a x n r (r s) ⊎ Comes b y n r (r s) → Comes a x n r (r s) ⊎ Stands b n r
    left (inl g) = inl g
    left (inr g) = inr g.stands

    right : Comes a x n r (r s) ⊎ Comes b y n r (r s) → Comes b y n r (r s) ⊎ Stands a n r
    right (inl g) = inr g.stands
    right (inr g) = inl g

-- ---- conditions

pub zero_by : (n : ℕ) (ds : List Linear) (i : ℕ) (m : Symbols) (e o : Linear) → i < length ds → e ≡ get_or ds i e → IsBelow n e → StandsFor (λ r. negsuc 0 *ℤ number_at r e) (λ p. IsBelow p e) o → ShowsAll m (e ∷ o ∷ []) → IsZeroIn n ds m e o
zero_by n ds i m e o l is b s z = record {
  below = b;
  opposite_below = s.below n b;
  turned = λ r. s.number r ∙ times_less (number_at r e);
  never = λ r a h. apart_at r ds i e l a (subst (λ (x : Linear). number_at r x ≡ pos 0) is h);
  zero = z;
}
  where
    times_less : (a : ℤ) → negsuc 0 *ℤ a ≡ neg_ℤ a
    times_less a = omega (arith, ints)

-- what is 0 in one case isn't where another knows that it isn't
pub equal_excluded : (n : ℕ) (ds : List Linear) (here away : Symbols) (e o : Linear) → ds ≡ away.apart → IsZeroIn n ds here e o → Excludes n away (e ∷ o ∷ []) []
equal_excluded n ds here away e o q z = record {
  facts = (z.below, (z.opposite_below, tt));
  apart = tt;
  never = λ r v f a. z.never r (subst (AreApart r) (sym q) v.apart) (is_zero (number_at r e) (number_at r o) (natural_at r (e ∷ o ∷ []) 0 e (omega arith) f) (natural_at r (e ∷ o ∷ []) 1 e (omega arith) f) (z.turned r));
}
  where
    is_zero : (a b : ℤ) → pos 0 ≤ℤ a → pos 0 ≤ℤ b → b ≡ neg_ℤ a → a ≡ pos 0
    is_zero a b h k t = omega (arith, ints)
