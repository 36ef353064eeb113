-- Comparisons, observations, and one of two values.
use Rattle.std.proofs.Common.{◌≡◌, ℤ, pos, ◌+ℤ◌, ◌-ℤ◌, ◌≤ℤ◌, ◌<ℤ◌, int_lt, Bool, true, false, not, cond, ◌&&◌, ◌||◌, ◌⊎◌, List, [], ◌++◌, refl, sym, ap, ◌∙◌, subst, arith, Option, Some, None, option_map, Result, inl, inr}
use Rattle.std.proofs.lemmas.Int.{ints}
use Rattle.std.proofs.lemmas.List.{append_assoc}
use Rattle.std.specs.Prelude.{IfOk, is_some}
use Rattle.std.specs.List.{AllByRecursion}
use Rattle.std.specs.Option.{IsSomeAnd}
use Rattle.std.specs.Ordering.{int_eq}
use Rattle.std.proofs.lemmas.Bool.Decides.{Decides-int_eq}
use Rattle.std.specs.FinMap.Entries.{find}
use Rattle.contract.specs.Names.declared.choice_id.ChoiceId.{ChoiceId}
use Rattle.contract.specs.Names.Orders.{choice_id_cmp}
use Rattle.contract.specs.declared.interval.Interval.{Interval}
use Rattle.contract.specs.declared.payment.Payment.{Payment}
use Rattle.contract.specs.Tree.{ValueTree, cond_value, ObservationTree, and_obs, or_obs, not_obs, chose_something}
use Rattle.contract.specs.States.States.{StateMaps}
use Rattle.semantics.specs.Evaluation.Evaluation.{eval, visited, holds, looked}
use Rattle.linear.specs.Linear.{Linear, Valuation, number_at, IsBelow}
use Rattle.linear.specs.Combined.{StandsFor, AreBelow}
use Rattle.symbols.specs.Symbols.{Symbols, IsClosed, IsValued, Leads, Gives}
use Rattle.symbols.specs.Held.{Assumes, Distinguishes}
use Rattle.symbols.specs.Joined.{Joins}
use Rattle.symbols.specs.Either.{GivesEither}
use Rattle.linear.proofs.NumberLaws.{true_lt, false_lt, true_le, false_le}
use Rattle.linear.proofs.LinearLaws.{same_number}
use Rattle.symbols.proofs.KnownLaws.{terms_more, knows_leads, leads_gives, gives_leads}
use Rattle.analysis_spec.specs.declared.kind.AlarmKind.TheVariants.{Leaves128}
use Rattle.analysis_walk.specs.Limits.{Scope, Allowed, GoesOn}
use Rattle.analysis_walk.specs.Conclusions.{ObservesSo}
use Rattle.analysis_walk.proofs.ListLaws.{all_append}
use Rattle.analysis_values.specs.Known.{View, Known, IsSeen, SeesBelow, IsDescribed, known, known_with}
use Rattle.analysis_values.specs.Answered.{unless, GoesTo, Evaluates, FitsWhereSaid, Decides, Unites}
use Rattle.analysis_values.proofs.KnownLaws.{sees_more, same_seen}
use Rattle.analysis_values.specs.declared.cases.Counted.{Counted}
use Rattle.analysis_values.specs.declared.comparisons.Comparison.{Comparison}
use Rattle.analysis_values.specs.declared.comparisons.Comparison.TheVariants.{NoLess, Greater, Less, NoGreater, Same}
use Rattle.analysis_values.specs.declared.values.Evaluated.{Evaluated}
use Rattle.analysis_values.specs.declared.observations.Truths.{Truths}
use Rattle.analysis_values.specs.Steps.{EvaluatesBoth, BothFitWhereSaid, KnowsWhere, IsNoLess, IsLess, IsSame, IsOther, test_of, HoldsOf, FailsOf, LeadsEither, LeadsThere, DecidesThere, Leaves, LooksWhereSaid, IsEvaluated, IsObserved, LeadsOn, EvaluatesIn, EvaluatesEither}
use Rattle.analysis_values.proofs.StepLemmas.{described_leads, through, leads_itself, goes_both}

is_some_map : {A B : Type 0} (f : A → B) (o : Option A) → is_some (option_map f o) ≡ is_some o
is_some_map f None = refl
is_some_map f (Some x) = refl

-- ---- comparisons of two expressions

some_leads : (k : Symbols) (r : Valuation) (m : Symbols) → (l : Leads k r m) → (o : Option Symbols) → IsSomeAnd o (Leads m l.values) → IsSomeAnd o (Leads k r)
some_leads k r m l None h = h
some_leads k r m l (Some n) h = through k r m n l h

natural_gap : (a b d : ℤ) → b ≤ℤ a → d ≡ a -ℤ b → pos 0 ≤ℤ d
natural_gap a b d h e = omega (arith, ints)

module _ (k : Symbols) (a b : Linear) where
  -- nothing more is known
  pub knows_no_more : (P : ℤ → ℤ → Type 0) (m : Symbols) → m ≡ k → KnowsWhere P k a b (Some m)
  knows_no_more P m e r c v p q h = subst (Leads k r) (sym e) (leads_itself k r c v)

  pub no_less_some : (m n : Symbols) (d : Linear) (possible : Bool) → m ≡ k → StandsFor (λ r. number_at r a -ℤ number_at r b) (AreBelow a b) d → Assumes m n d possible → KnowsWhere IsNoLess k a b (Some n)
  no_less_some m n d possible e s f r c v p q h =
      let g = subst (λ l. Assumes l n d possible) e f in
      knows_leads k r n (g r c v (s.below k.next (p, q)) (natural_gap (number_at r a) (number_at r b) (number_at r d) h (s.number r))).1

  pub no_less_none : (m n : Symbols) (d : Linear) (possible : Bool) → m ≡ k → StandsFor (λ r. number_at r a -ℤ number_at r b) (AreBelow a b) d → Assumes m n d possible → possible ≡ false → KnowsWhere IsNoLess k a b None
  no_less_none m n d possible e s f i r c v p q h =
      let g = subst (λ l. Assumes l n d possible) e f in
      never possible (g r c v (s.below k.next (p, q)) (natural_gap (number_at r a) (number_at r b) (number_at r d) h (s.number r))).0 i
    where
      never : {P : Type 0} (t : Bool) → t ≡ true → t ≡ false → P
      never t h k = absurd (cc)

  -- less, where one more is no more
  pub less_by : (c : Linear) (o : Option Symbols) → StandsFor (λ r. number_at r a +ℤ pos 1) (λ n. IsBelow n a) c → KnowsWhere IsNoLess k b c o → KnowsWhere IsLess k a b o
  less_by c o s f r x v p q h = f r x v q (s.below k.next p) (up (number_at r a) (number_at r b) (number_at r c) h (s.number r))
    where
      up : (a b c : ℤ) → a <ℤ b → c ≡ a +ℤ pos 1 → c ≤ℤ b
      up a b c h e = omega (arith, ints)

  pub same_by : (m : Symbols) (o : Option Symbols) → KnowsWhere IsNoLess k a b (Some m) → KnowsWhere IsNoLess m b a o → KnowsWhere IsSame k a b o
  same_by m o f g r c v p q h =
      let l = f r c v p q (back (number_at r a) (number_at r b) h) in
      let x = same_number k.next l.values r l.agrees a p in
      let y = same_number k.next l.values r l.agrees b q in
      some_leads k r m l o (g l.values l.closed l.valued (terms_more k.next m.next l.grows b.terms q) (terms_more k.next m.next l.grows a.terms p) (forth (number_at l.values a) (number_at l.values b) (x ∙ h ∙ sym y)))
    where
      back : (a b : ℤ) → a ≡ b → b ≤ℤ a
      back a b h = omega (arith, ints)

      forth : (a b : ℤ) → a ≡ b → a ≤ℤ b
      forth a b h = omega (arith, ints)

  pub same_none : KnowsWhere IsNoLess k a b None → KnowsWhere IsSame k a b None
  same_none f r c v p q h = f r c v p q (back (number_at r a) (number_at r b) h)
    where
      back : (a b : ℤ) → a ≡ b → b ≤ℤ a
      back a b h = omega (arith, ints)

  pub other_by : (f g o : Option Symbols) → KnowsWhere IsLess k a b f → KnowsWhere IsLess k b a g → LeadsEither k f g o → KnowsWhere IsOther k a b o
  other_by f g o x y z r c v p q h = by_test (int_lt (number_at r a) (number_at r b)) refl
    where
      above : (m n : ℤ) → n ≤ℤ m → (m ≡ n → ⊥) → n <ℤ m
      above m n h k = omega (arith, ints, k)

      by_test : (t : Bool) → int_lt (number_at r a) (number_at r b) ≡ t → IsSomeAnd o (Leads k r)
      by_test true e = z r c v (inl (x r c v p q (true_lt (number_at r a) (number_at r b) e)))
      by_test false e = z r c v (inr (y r c v q p (above (number_at r a) (number_at r b) (false_lt (number_at r a) (number_at r b) e) h)))

  pub other_then : (m n : Symbols) → KnowsWhere IsOther k a b (Some m) → KnowsWhere IsOther m a b (Some n) → KnowsWhere IsOther k a b (Some n)
  other_then m n f g r c v p q h =
      let l = f r c v p q h in
      let x = same_number k.next l.values r l.agrees a p in
      let y = same_number k.next l.values r l.agrees b q in
      through k r m n l (g l.values l.closed l.valued (terms_more k.next m.next l.grows a.terms p) (terms_more k.next m.next l.grows b.terms q) (λ e. h (sym x ∙ e ∙ y)))

  pub other_learned : (n : Symbols) (d : Linear) → StandsFor (λ r. number_at r a -ℤ number_at r b) (AreBelow a b) d → Distinguishes k n d → KnowsWhere IsOther k a b (Some n)
  other_learned n d s f r c v p q h = knows_leads k r n (f r c v (s.below k.next (p, q)) (λ e. h (same (number_at r a) (number_at r b) (number_at r d) e (s.number r))))
    where
      same : (a b d : ℤ) → d ≡ pos 0 → d ≡ a -ℤ b → a ≡ b
      same a b d h e = omega (arith, ints)

-- ---- either of two

pub either_other : (k : Symbols) (o : Option Symbols) → LeadsEither k None o o
either_other k o r c v (inl h) = absurd h
either_other k o r c v (inr h) = h

pub either_one : (k m : Symbols) → LeadsEither k (Some m) None (Some m)
either_one k m r c v (inl h) = h
either_one k m r c v (inr h) = absurd h

-- ---- observations

-- what is known where an observation is true, and where it is false, from the start
abbrev pub DecidesIn : View → Symbols → ObservationTree → Option Symbols → Option Symbols → Type 0
DecidesIn v k o if_true if_false = (scope : Scope) (i : Interval) (s : StateMaps) (ps : List Payment) → (d : IsDescribed scope (known k v) i s ps) → IsSomeAnd (cond (holds i s o) if_true if_false) (Leads k d.numbers)

there : (k : Symbols) (r : Valuation) (m : Symbols) (o : Option Symbols) → LeadsThere k r m o → IsSomeAnd o (Leads k r)
there k r m o h = some_leads k r m h.leads o h.on

pub decides_at_once : (v : View) (k m : Symbols) (o : ObservationTree) (p q : Option Symbols) → DecidesThere v k m o p q → DecidesIn v k o p q
decides_at_once v k m o p q h scope i s ps d = there k d.numbers m (cond (holds i s o) p q) (h scope i s ps d)

pub settled_decides : (v : View) (k m n : Symbols) (o : ObservationTree) (p q s t : Option Symbols) → DecidesThere v k m o p q → Leaves k m p q n s t → DecidesThere v k n o s t
settled_decides v k m n o p q s t h l = by_case l.settles
  where
    stays : (r : Valuation) → IsClosed k → IsValued r k → (u : Option Symbols) → u ≡ Some k → LeadsThere k r k u
    stays r c w u e = record { leads = leads_itself k r c w; on = subst (λ u. IsSomeAnd u (Leads k (leads_itself k r c w).values)) (sym e) (leads_itself k (leads_itself k r c w).values (leads_itself k r c w).closed (leads_itself k r c w).valued) }

    none : (r : Valuation) (u : Option Symbols) → u ≡ None → LeadsThere k r m u → ⊥
    none r u e g = subst (λ u. IsSomeAnd u (Leads m g.leads.values)) e g.on

    by_case : ((n ≡ m) × (s ≡ p) × (t ≡ q)) ⊎ (((n ≡ k) × (s ≡ Some k) × (q ≡ None)) ⊎ ((n ≡ k) × (t ≡ Some k) × (p ≡ None))) → DecidesThere v k n o s t
    by_case (inl e) scope i st ps d = subst (λ z. DecidesThere v k z o s t) (sym e.0) (subst (λ z. DecidesThere v k m o z t) (sym e.1) (subst (λ z. DecidesThere v k m o p z) (sym e.2) h)) scope i st ps d
    by_case (inr (inl e)) scope i st ps d = subst (λ z. LeadsThere k d.numbers z (cond (holds i st o) s t)) (sym e.0) (at (holds i st o) (h scope i st ps d))
      where
        at : (b : Bool) → LeadsThere k d.numbers m (cond b p q) → LeadsThere k d.numbers k (cond b s t)
        at true g = stays d.numbers d.closed d.valued s e.1
        at false g = absurd (none d.numbers q e.2 g)
    by_case (inr (inr e)) scope i st ps d = subst (λ z. LeadsThere k d.numbers z (cond (holds i st o) s t)) (sym e.0) (at (holds i st o) (h scope i st ps d))
      where
        at : (b : Bool) → LeadsThere k d.numbers m (cond b p q) → LeadsThere k d.numbers k (cond b s t)
        at true g = absurd (none d.numbers p e.2 g)
        at false g = stays d.numbers d.closed d.valued t e.1

module _ (v : View) (k m : Symbols) (x y : ValueTree) (a b : Linear) where
  -- what two numbers are compared by
  pub compared_decides : (P Q : ℤ → ℤ → Type 0) (o : ObservationTree) (if_true if_false : Option Symbols) → ((i : Interval) (s : StateMaps) → holds i s o ≡ true → P (eval i s x) (eval i s y))
      → ((i : Interval) (s : StateMaps) → holds i s o ≡ false → Q (eval i s x) (eval i s y)) → EvaluatesBoth v k x y m a b → KnowsWhere P m a b if_true → KnowsWhere Q m a b if_false → DecidesThere v k m o if_true if_false
  compared_decides P Q o if_true if_false f g h t e scope i s ps d = by_test (holds i s o) refl
    where
      at : (R : ℤ → ℤ → Type 0) (p : Option Symbols) → KnowsWhere R m a b p → R (eval i s x) (eval i s y) → LeadsThere k d.numbers m p
      at R p f2 h2 =
          let q = h scope i s ps d in
          let l = q.leads in
          record { leads = l; on = f2 l.values l.closed l.valued q.left_below q.right_below (subst (λ z. R z (number_at l.values b)) q.left (subst (R (eval i s x)) q.right h2)) }

      by_test : (z : Bool) → holds i s o ≡ z → LeadsThere k d.numbers m (cond z if_true if_false)
      by_test true w = at P if_true t (f i s w)
      by_test false w = at Q if_false e (g i s w)

  pub compared_looks : (o : ObservationTree) (said : Bool) → ((i : Interval) (s : StateMaps) → looked i s o ≡ visited i s x ++ visited i s y) → BothFitWhereSaid v k x y said → LooksWhereSaid v k o said
  compared_looks o said same h scope i s ps d g =
      let q = h scope i s ps d g in
      subst (AllByRecursion (Allowed scope)) (sym (same i s)) (all_append (Allowed scope) (visited i s x) (visited i s y) q.0 q.1)

-- the other way round
pub turned_known : (P Q : ℤ → ℤ → Type 0) → ((x y : ℤ) → Q x y → P y x) → (k : Symbols) (a b : Linear) (o : Option Symbols) → KnowsWhere P k b a o → KnowsWhere Q k a b o
turned_known P Q f k a b o h r c v p q e = h r c v q p (f (number_at r a) (number_at r b) e)

-- when a comparison is true, and when it is false
test_true : (c : Comparison) (x y : ValueTree) (i : Interval) (s : StateMaps) → holds i s (test_of c x y) ≡ true → HoldsOf c (eval i s x) (eval i s y)
test_true NoLess x y i s e = true_le (eval i s y) (eval i s x) e
test_true Greater x y i s e = true_lt (eval i s y) (eval i s x) e
test_true Less x y i s e = true_lt (eval i s x) (eval i s y) e
test_true NoGreater x y i s e = true_le (eval i s x) (eval i s y) e
test_true Same x y i s e = (Decides-int_eq (eval i s x) (eval i s y)).0 e

not_both : (t : Bool) → t ≡ true → t ≡ false → ⊥
not_both t h k = absurd (cc)

test_false : (c : Comparison) (x y : ValueTree) (i : Interval) (s : StateMaps) → holds i s (test_of c x y) ≡ false → FailsOf c (eval i s x) (eval i s y)
test_false NoLess x y i s e = false_le (eval i s y) (eval i s x) e
test_false Greater x y i s e = false_lt (eval i s y) (eval i s x) e
test_false Less x y i s e = false_lt (eval i s x) (eval i s y) e
test_false NoGreater x y i s e = false_le (eval i s x) (eval i s y) e
test_false Same x y i s e = λ q. not_both (int_eq (eval i s x) (eval i s y)) ((Decides-int_eq (eval i s x) (eval i s y)).1 q) e

test_looked : (c : Comparison) (x y : ValueTree) (i : Interval) (s : StateMaps) → looked i s (test_of c x y) ≡ visited i s x ++ visited i s y
test_looked NoLess x y i s = refl
test_looked Greater x y i s = refl
test_looked Less x y i s = refl
test_looked NoGreater x y i s = refl
test_looked Same x y i s = refl

module _ (v : View) (k m : Symbols) (x y : ValueTree) (a b : Linear) (c : Comparison) where
  pub test_decides : (if_true if_false : Option Symbols) → EvaluatesBoth v k x y m a b → KnowsWhere (HoldsOf c) m a b if_true → KnowsWhere (FailsOf c) m a b if_false → DecidesThere v k m (test_of c x y) if_true if_false
  test_decides if_true if_false h t f =
      compared_decides v k m x y a b (HoldsOf c) (FailsOf c) (test_of c x y) if_true if_false (λ i s e. test_true c x y i s e) (λ i s e. test_false c x y i s e) h t f

  pub test_looks : (said : Bool) → BothFitWhereSaid v k x y said → LooksWhereSaid v k (test_of c x y) said
  test_looks said h = compared_looks v k m x y a b (test_of c x y) said (λ i s. test_looked c x y i s) h

-- a truth that is known
pub truth_decides : (v : View) (k m : Symbols) (o : ObservationTree) (truth : Bool) (if_true if_false : Option Symbols) → m ≡ k → cond truth if_true if_false ≡ Some m
    → ((scope : Scope) (i : Interval) (s : StateMaps) (ps : List Payment) → IsDescribed scope (known k v) i s ps → holds i s o ≡ truth) → DecidesThere v k k o if_true if_false
truth_decides v k m o truth if_true if_false e f h scope i s ps d =
    let l = leads_itself k d.numbers d.closed d.valued in
    record {
      leads = l;
      on = subst (λ t. IsSomeAnd (cond t if_true if_false) (Leads k l.values)) (sym (h scope i s ps d)) (subst (λ p. IsSomeAnd p (Leads k l.values)) (sym f) (subst (Leads k l.values) (sym e) (leads_itself k l.values l.closed l.valued)));
    }

pub chose_decides : (v : View) (k m : Symbols) (id : ChoiceId) (truth : Bool) (if_true if_false : Option Symbols) → m ≡ k → truth ≡ is_some (find choice_id_cmp id v.choices) → cond truth if_true if_false ≡ Some m
    → DecidesThere v k k (chose_something id) if_true if_false
chose_decides v k m id truth if_true if_false e f g =
    truth_decides v k m (chose_something id) truth if_true if_false e g (λ scope i s ps d. ap is_some (d.seen.choices id) ∙ is_some_map (number_at d.numbers) (find choice_id_cmp id v.choices) ∙ sym f)

pub looks_none : (v : View) (k : Symbols) (o : ObservationTree) (said : Bool) → ((i : Interval) (s : StateMaps) → looked i s o ≡ []) → LooksWhereSaid v k o said
looks_none v k o said same scope i s ps d g = subst (AllByRecursion (Allowed scope)) (sym (same i s)) tt

pub not_decides : (v : View) (k m : Symbols) (o : ObservationTree) (if_true if_false : Option Symbols) → DecidesThere v k m o if_true if_false → DecidesThere v k m (not_obs o) if_false if_true
not_decides v k m o if_true if_false h scope i s ps d = by_test (holds i s o) (h scope i s ps d)
  where
    by_test : (t : Bool) → LeadsThere k d.numbers m (cond t if_true if_false) → LeadsThere k d.numbers m (cond (not t) if_false if_true)
    by_test true g = g
    by_test false g = g

module _ (v : View) (k n : Symbols) (x y : ObservationTree) (w : Option Symbols) where
  -- the first is never true
  pub and_never : DecidesThere v k n x None w → DecidesThere v k n (and_obs x y) None w
  and_never h scope i s ps d = by_test (holds i s x) (h scope i s ps d)
    where
      by_test : (t : Bool) → LeadsThere k d.numbers n (cond t None w) → LeadsThere k d.numbers n (cond (t && holds i s y) None w)
      by_test true g = absurd g.on
      by_test false g = g

  pub and_never_looks : (said : Bool) → DecidesThere v k n x None w → LooksWhereSaid v k x said → LooksWhereSaid v k (and_obs x y) said
  and_never_looks said h f scope i s ps d g = all_append (Allowed scope) (looked i s x) (cond (holds i s x) (looked i s y) []) (f scope i s ps d g) (by_test (holds i s x) (h scope i s ps d))
    where
      by_test : (t : Bool) → LeadsThere k d.numbers n (cond t None w) → AllByRecursion (Allowed scope) (cond t (looked i s y) [])
      by_test true g = absurd g.on
      by_test false g = tt

  -- the first is never false
  pub or_never : DecidesThere v k n x w None → DecidesThere v k n (or_obs x y) w None
  or_never h scope i s ps d = by_test (holds i s x) (h scope i s ps d)
    where
      by_test : (t : Bool) → LeadsThere k d.numbers n (cond t w None) → LeadsThere k d.numbers n (cond (t || holds i s y) w None)
      by_test true g = g
      by_test false g = absurd g.on

  pub or_never_looks : (said : Bool) → DecidesThere v k n x w None → LooksWhereSaid v k x said → LooksWhereSaid v k (or_obs x y) said
  or_never_looks said h f scope i s ps d g = all_append (Allowed scope) (looked i s x) (cond (holds i s x) [] (looked i s y)) (f scope i s ps d g) (by_test (holds i s x) (h scope i s ps d))
    where
      by_test : (t : Bool) → LeadsThere k d.numbers n (cond t w None) → AllByRecursion (Allowed scope) (cond t [] (looked i s y))
      by_test true g = tt
      by_test false g = absurd g.on

module _ (v : View) (k n m j : Symbols) (x y : ObservationTree) (p q w : Option Symbols) where
  -- p where the first alone decides, once n is known; q and w are the second's, which comes from m
  pub and_decides : DecidesThere v k n x (Some m) p → DecidesThere v m j y q w → (o : Option Symbols) → LeadsEither n p w o → DecidesThere v k n (and_obs x y) q o
  and_decides h f o g scope i s ps d = by_first (holds i s x) (h scope i s ps d)
    where
      by_second : (l : Leads k d.numbers n) → (e : Leads n l.values m) → (t : Bool) → LeadsThere m e.values j (cond t q w) → IsSomeAnd (cond t q o) (Leads n l.values)
      by_second l e true z = some_leads n l.values m e q (there m e.values j q z)
      by_second l e false z = g l.values l.closed l.valued (inr (some_leads n l.values m e w (there m e.values j w z)))

      by_first : (t : Bool) → LeadsThere k d.numbers n (cond t (Some m) p) → LeadsThere k d.numbers n (cond (t && holds i s y) q o)
      by_first true z = let l = z.leads in record { leads = l; on = by_second l z.on (holds i s y) (f scope i s ps (described_leads scope i s ps k m v d (through k d.numbers n m l z.on))) }
      by_first false z = let l = z.leads in record { leads = l; on = g l.values l.closed l.valued (inl z.on) }

  pub or_decides : DecidesThere v k n x p (Some m) → DecidesThere v m j y q w → (o : Option Symbols) → LeadsEither n p q o → DecidesThere v k n (or_obs x y) o w
  or_decides h f o g scope i s ps d = by_first (holds i s x) (h scope i s ps d)
    where
      by_second : (l : Leads k d.numbers n) → (e : Leads n l.values m) → (t : Bool) → LeadsThere m e.values j (cond t q w) → IsSomeAnd (cond t o w) (Leads n l.values)
      by_second l e true z = g l.values l.closed l.valued (inr (some_leads n l.values m e q (there m e.values j q z)))
      by_second l e false z = some_leads n l.values m e w (there m e.values j w z)

      by_first : (t : Bool) → LeadsThere k d.numbers n (cond t p (Some m)) → LeadsThere k d.numbers n (cond (t || holds i s y) o w)
      by_first true z = let l = z.leads in record { leads = l; on = g l.values l.closed l.valued (inl z.on) }
      by_first false z = let l = z.leads in record { leads = l; on = by_second l z.on (holds i s y) (f scope i s ps (described_leads scope i s ps k m v d (through k d.numbers n m l z.on))) }

module _ (v : View) (k n m : Symbols) (x y : ObservationTree) (p : Option Symbols) where
  pub and_looks : (b c : Bool) → DecidesThere v k n x (Some m) p → LooksWhereSaid v k x b → LooksWhereSaid v m y c → LooksWhereSaid v k (and_obs x y) (b && c)
  and_looks b c h f g scope i s ps d z =
      let o = goes_both scope b c z in
      all_append (Allowed scope) (looked i s x) (cond (holds i s x) (looked i s y) []) (f scope i s ps d o.0) (by_test (holds i s x) (there k d.numbers n (cond (holds i s x) (Some m) p) (h scope i s ps d)) o.1)
    where
      by_test : (t : Bool) → IsSomeAnd (cond t (Some m) p) (Leads k d.numbers) → GoesOn scope (unless c Leaves128) → AllByRecursion (Allowed scope) (cond t (looked i s y) [])
      by_test true l u = g scope i s ps (described_leads scope i s ps k m v d l) u
      by_test false l u = tt

  pub or_looks : (b c : Bool) → DecidesThere v k n x p (Some m) → LooksWhereSaid v k x b → LooksWhereSaid v m y c → LooksWhereSaid v k (or_obs x y) (b && c)
  or_looks b c h f g scope i s ps d z =
      let o = goes_both scope b c z in
      all_append (Allowed scope) (looked i s x) (cond (holds i s x) [] (looked i s y)) (f scope i s ps d o.0) (by_test (holds i s x) (there k d.numbers n (cond (holds i s x) p (Some m)) (h scope i s ps d)) o.1)
    where
      by_test : (t : Bool) → IsSomeAnd (cond t p (Some m)) (Leads k d.numbers) → GoesOn scope (unless c Leaves128) → AllByRecursion (Allowed scope) (cond t [] (looked i s y))
      by_test true l u = tt
      by_test false l u = g scope i s ps (described_leads scope i s ps k m v d l) u

-- ---- one of two values

pub leads_on_by : (v : View) (k m : Symbols) (x : ValueTree) (e : Linear) → Evaluates (known k v) x (known m v) e → LeadsOn v k m
leads_on_by v k m x e h scope i s ps d = gives_leads k d.numbers (m, e) (eval i s x) (h.gives scope i s ps d)

module _ (v : View) (k m : Symbols) (h : LeadsOn v k m) where
  -- what is answered where more is known
  pub leads_on_then : (n : Symbols) → LeadsOn v m n → LeadsOn v k n
  leads_on_then n f scope i s ps d =
      let l = h scope i s ps d in
      through k d.numbers m n l (f scope i s ps (described_leads scope i s ps k m v d l))

  pub evaluated_on : (x : ValueTree) (n : Symbols) (a : Evaluated) → IsEvaluated m v x n a → IsEvaluated k v x n a
  evaluated_on x n a f = record {
    number = record {
      view = refl;
      gives = λ scope i s ps d.
          let l = h scope i s ps d in
          leads_gives k d.numbers m (n, a.number) (eval i s x) l (f.number.gives scope i s ps (described_leads scope i s ps k m v d l));
    };
    fits = λ scope i s ps d z. f.fits scope i s ps (described_leads scope i s ps k m v d (h scope i s ps d)) z;
  }

-- a Cond of another observation is one of its parts
not_chosen : (i : Interval) (s : StateMaps) (o : ObservationTree) (x y : ValueTree) → eval i s (cond_value (not_obs o) x y) ≡ eval i s (cond_value o y x)
not_chosen i s o x y = by_test (holds i s o)
  where
    by_test : (t : Bool) → cond (not t) (eval i s x) (eval i s y) ≡ cond t (eval i s y) (eval i s x)
    by_test true = refl
    by_test false = refl

not_visited : (i : Interval) (s : StateMaps) (o : ObservationTree) (x y : ValueTree) → visited i s (cond_value (not_obs o) x y) ≡ visited i s (cond_value o y x)
not_visited i s o x y = ap (λ ns. looked i s o ++ ns) (by_test (holds i s o))
  where
    by_test : (t : Bool) → cond (not t) (visited i s x) (visited i s y) ≡ cond t (visited i s y) (visited i s x)
    by_test true = refl
    by_test false = refl

and_chosen : (i : Interval) (s : StateMaps) (o p : ObservationTree) (x y : ValueTree) → eval i s (cond_value (and_obs o p) x y) ≡ eval i s (cond_value o (cond_value p x y) y)
and_chosen i s o p x y = by_test (holds i s o)
  where
    by_test : (t : Bool) → cond (t && holds i s p) (eval i s x) (eval i s y) ≡ cond t (cond (holds i s p) (eval i s x) (eval i s y)) (eval i s y)
    by_test true = refl
    by_test false = refl

and_visited : (i : Interval) (s : StateMaps) (o p : ObservationTree) (x y : ValueTree) → visited i s (cond_value (and_obs o p) x y) ≡ visited i s (cond_value o (cond_value p x y) y)
and_visited i s o p x y = by_test (holds i s o)
  where
    by_test : (t : Bool) → (looked i s o ++ cond t (looked i s p) []) ++ cond (t && holds i s p) (visited i s x) (visited i s y) ≡ looked i s o ++ cond t (looked i s p ++ cond (holds i s p) (visited i s x) (visited i s y)) (visited i s y)
    by_test true = append_assoc (looked i s o) (looked i s p) (cond (holds i s p) (visited i s x) (visited i s y))
    by_test false = append_assoc (looked i s o) [] (visited i s y)

or_chosen : (i : Interval) (s : StateMaps) (o p : ObservationTree) (x y : ValueTree) → eval i s (cond_value (or_obs o p) x y) ≡ eval i s (cond_value o x (cond_value p x y))
or_chosen i s o p x y = by_test (holds i s o)
  where
    by_test : (t : Bool) → cond (t || holds i s p) (eval i s x) (eval i s y) ≡ cond t (eval i s x) (cond (holds i s p) (eval i s x) (eval i s y))
    by_test true = refl
    by_test false = refl

or_visited : (i : Interval) (s : StateMaps) (o p : ObservationTree) (x y : ValueTree) → visited i s (cond_value (or_obs o p) x y) ≡ visited i s (cond_value o x (cond_value p x y))
or_visited i s o p x y = by_test (holds i s o)
  where
    by_test : (t : Bool) → (looked i s o ++ cond t [] (looked i s p)) ++ cond (t || holds i s p) (visited i s x) (visited i s y) ≡ looked i s o ++ cond t (visited i s x) (looked i s p ++ cond (holds i s p) (visited i s x) (visited i s y))
    by_test true = append_assoc (looked i s o) [] (visited i s x)
    by_test false = append_assoc (looked i s o) (looked i s p) (cond (holds i s p) (visited i s x) (visited i s y))

evaluated_alike : (k : Symbols) (v : View) (n : Symbols) (a : Evaluated) (z x : ValueTree) → ((i : Interval) (s : StateMaps) → eval i s z ≡ eval i s x) → ((i : Interval) (s : StateMaps) → visited i s z ≡ visited i s x)
    → IsEvaluated k v x n a → IsEvaluated k v z n a
evaluated_alike k v n a z x same alike h = record {
  number = record { view = refl; gives = λ scope i s ps d. subst (λ m. Gives k d.numbers (n, a.number) m) (sym (same i s)) (h.number.gives scope i s ps d) };
  fits = λ scope i s ps d g. subst (AllByRecursion (Allowed scope)) (sym (alike i s)) (h.fits scope i s ps d g);
}

module _ (k : Symbols) (v : View) (n : Symbols) (a : Evaluated) (o : ObservationTree) (x y : ValueTree) where
  pub not_evaluated : IsEvaluated k v (cond_value o y x) n a → IsEvaluated k v (cond_value (not_obs o) x y) n a
  not_evaluated h = evaluated_alike k v n a (cond_value (not_obs o) x y) (cond_value o y x) (λ i s. not_chosen i s o x y) (λ i s. not_visited i s o x y) h

  pub and_evaluated : (p : ObservationTree) → IsEvaluated k v (cond_value o (cond_value p x y) y) n a → IsEvaluated k v (cond_value (and_obs o p) x y) n a
  and_evaluated p h = evaluated_alike k v n a (cond_value (and_obs o p) x y) (cond_value o (cond_value p x y) y) (λ i s. and_chosen i s o p x y) (λ i s. and_visited i s o p x y) h

  pub or_evaluated : (p : ObservationTree) → IsEvaluated k v (cond_value o x (cond_value p x y)) n a → IsEvaluated k v (cond_value (or_obs o p) x y) n a
  or_evaluated p h = evaluated_alike k v n a (cond_value (or_obs o p) x y) (cond_value o x (cond_value p x y)) (λ i s. or_chosen i s o p x y) (λ i s. or_visited i s o p x y) h

-- by the truth of an observation as a whole
pub evaluated_either : (k : Symbols) (v : View) (m n : Symbols) (a : Evaluated) (b c : Option Counted) (o : ObservationTree) (x y : ValueTree) (t : Truths) → IsObserved k v o m t → EvaluatesIn v t.if_true x b → EvaluatesIn v t.if_false y c
    → EvaluatesEither m b c t.fits n a.number a.fits → IsEvaluated k v (cond_value o x y) n a
evaluated_either k v m n a b c o x y t p f g h = let r = h k v o x y t.if_true t.if_false p.truths f g in record { number = r.0; fits = r.1 p.fits }

-- neither is possible
pub neither_evaluated : (v : View) (k n : Symbols) (o : ObservationTree) (x y : ValueTree) (e : Linear) → DecidesIn v k o None None → Evaluates (known k v) (cond_value o x y) (known n v) e
neither_evaluated v k n o x y e h = record { view = refl; gives = λ scope i s ps d. never scope i s ps d (holds i s o) (h scope i s ps d) }
  where
    never : (scope : Scope) (i : Interval) (s : StateMaps) (ps : List Payment) → (d : IsDescribed scope (known k v) i s ps) → (t : Bool) → IsSomeAnd (cond t None None) (Leads k d.numbers) → Gives k d.numbers (n, e) (cond t (eval i s x) (eval i s y))
    never scope i s ps d true g = absurd g
    never scope i s ps d false g = absurd g

pub neither_fits : (v : View) (k : Symbols) (o : ObservationTree) (x y : ValueTree) (said : Bool) → DecidesIn v k o None None → FitsWhereSaid (known k v) (cond_value o x y) said
neither_fits v k o x y said h scope i s ps d g = absurd (never (holds i s o) (h scope i s ps d))
  where
    never : (t : Bool) → IsSomeAnd (cond t None None) (Leads k d.numbers) → ⊥
    never true h = h
    never false h = h

module _ (v : View) (k m n : Symbols) (o : ObservationTree) (x y : ValueTree) (e : Linear) where
  -- one alone is
  pub first_evaluated : DecidesIn v k o (Some m) None → Evaluates (known m v) x (known n v) e → Evaluates (known k v) (cond_value o x y) (known n v) e
  first_evaluated h f = record { view = refl; gives = λ scope i s ps d. by_test scope i s ps d (holds i s o) (h scope i s ps d) }
    where
      by_test : (scope : Scope) (i : Interval) (s : StateMaps) (ps : List Payment) → (d : IsDescribed scope (known k v) i s ps) → (t : Bool) → IsSomeAnd (cond t (Some m) None) (Leads k d.numbers) → Gives k d.numbers (n, e) (cond t (eval i s x) (eval i s y))
      by_test scope i s ps d true l = leads_gives k d.numbers m (n, e) (eval i s x) l (f.gives scope i s ps (described_leads scope i s ps k m v d l))
      by_test scope i s ps d false l = absurd l

  pub second_evaluated : DecidesIn v k o None (Some m) → Evaluates (known m v) y (known n v) e → Evaluates (known k v) (cond_value o x y) (known n v) e
  second_evaluated h f = record { view = refl; gives = λ scope i s ps d. by_test scope i s ps d (holds i s o) (h scope i s ps d) }
    where
      by_test : (scope : Scope) (i : Interval) (s : StateMaps) (ps : List Payment) → (d : IsDescribed scope (known k v) i s ps) → (t : Bool) → IsSomeAnd (cond t None (Some m)) (Leads k d.numbers) → Gives k d.numbers (n, e) (cond t (eval i s x) (eval i s y))
      by_test scope i s ps d true l = absurd l
      by_test scope i s ps d false l = leads_gives k d.numbers m (n, e) (eval i s y) l (f.gives scope i s ps (described_leads scope i s ps k m v d l))

module _ (v : View) (k l m : Symbols) (o : ObservationTree) (x y : ValueTree) where
  pub first_fits : (a b : Bool) → DecidesIn v k o (Some l) None → LooksWhereSaid v k o a → FitsWhereSaid (known l v) x b → FitsWhereSaid (known k v) (cond_value o x y) (a && b)
  first_fits a b h f g scope i s ps d z =
      let w = goes_both scope a b z in
      all_append (Allowed scope) (looked i s o) (cond (holds i s o) (visited i s x) (visited i s y)) (f scope i s ps d w.0) (by_test (holds i s o) (h scope i s ps d) w.1)
    where
      by_test : (t : Bool) → IsSomeAnd (cond t (Some l) None) (Leads k d.numbers) → GoesOn scope (unless b Leaves128) → AllByRecursion (Allowed scope) (cond t (visited i s x) (visited i s y))
      by_test true q p = g scope i s ps (described_leads scope i s ps k l v d q) p
      by_test false q p = absurd q

  pub second_fits : (a b : Bool) → DecidesIn v k o None (Some m) → LooksWhereSaid v k o a → FitsWhereSaid (known m v) y b → FitsWhereSaid (known k v) (cond_value o x y) (a && b)
  second_fits a b h f g scope i s ps d z =
      let w = goes_both scope a b z in
      all_append (Allowed scope) (looked i s o) (cond (holds i s o) (visited i s x) (visited i s y)) (f scope i s ps d w.0) (by_test (holds i s o) (h scope i s ps d) w.1)
    where
      by_test : (t : Bool) → IsSomeAnd (cond t None (Some m)) (Leads k d.numbers) → GoesOn scope (unless b Leaves128) → AllByRecursion (Allowed scope) (cond t (visited i s x) (visited i s y))
      by_test true q p = absurd q
      by_test false q p = g scope i s ps (described_leads scope i s ps k m v d q) p

  pub both_fit_too : (a b c : Bool) → DecidesIn v k o (Some l) (Some m) → LooksWhereSaid v k o a → FitsWhereSaid (known l v) x b → FitsWhereSaid (known m v) y c → FitsWhereSaid (known k v) (cond_value o x y) (a && (b && c))
  both_fit_too a b c h f g j scope i s ps d z =
      let w = goes_both scope a (b && c) z in
      let u = goes_both scope b c w.1 in
      all_append (Allowed scope) (looked i s o) (cond (holds i s o) (visited i s x) (visited i s y)) (f scope i s ps d w.0) (by_test (holds i s o) (h scope i s ps d) u.0 u.1)
    where
      by_test : (t : Bool) → IsSomeAnd (cond t (Some l) (Some m)) (Leads k d.numbers) → GoesOn scope (unless b Leaves128) → GoesOn scope (unless c Leaves128) → AllByRecursion (Allowed scope) (cond t (visited i s x) (visited i s y))
      by_test true q p r = g scope i s ps (described_leads scope i s ps k l v d q) p
      by_test false q p r = j scope i s ps (described_leads scope i s ps k m v d q) r

-- both are: a number of one of them
pub either_evaluated : (v : View) (k j l m p q n : Symbols) (o : ObservationTree) (x y : ValueTree) (a b e : Linear) → DecidesThere v k j o (Some l) (Some m) → Evaluates (known l v) x (known p v) a → Evaluates (known m v) y (known q v) b
    → GivesEither j n p a q b e → Evaluates (known k v) (cond_value o x y) (known n v) e
either_evaluated v k j l m p q n o x y a b e h f g u = record { view = refl; gives = λ scope i s ps d. by_test scope i s ps d (holds i s o) (h scope i s ps d) }
  where
    by_test : (scope : Scope) (i : Interval) (s : StateMaps) (ps : List Payment) → (d : IsDescribed scope (known k v) i s ps) → (t : Bool) → LeadsThere k d.numbers j (cond t (Some l) (Some m)) → Gives k d.numbers (n, e) (cond t (eval i s x) (eval i s y))
    by_test scope i s ps d true z =
        let c = z.leads in
        let w = z.on in
        let r = described_leads scope i s ps k l v d (through k d.numbers j l c w) in
        leads_gives k d.numbers j (n, e) (eval i s x) c (u c.values (eval i s x) c.closed c.valued (inl (leads_gives j c.values l (p, a) (eval i s x) w (f.gives scope i s ps r))))
    by_test scope i s ps d false z =
        let c = z.leads in
        let w = z.on in
        let r = described_leads scope i s ps k m v d (through k d.numbers j m c w) in
        leads_gives k d.numbers j (n, e) (eval i s y) c (u c.values (eval i s y) c.closed c.valued (inr (leads_gives j c.values m (q, b) (eval i s y) w (g.gives scope i s ps r))))

-- as what is known in each case allows
pub neither_counts : (j n : Symbols) (e : Linear) (others : Bool) → EvaluatesEither j None None others n e others
neither_counts j n e others k v o x y None None h f g = let z = decides_at_once v k j o None None h in (neither_evaluated v k n o x y e z, λ l. neither_fits v k o x y others z)
neither_counts j n e others k v o x y None (Some m) h f g = absurd g
neither_counts j n e others k v o x y (Some l) q h f g = absurd f

pub first_counts : (j : Symbols) (b : Counted) (others : Bool) → EvaluatesEither j (Some b) None others b.symbols b.number (others && b.fits)
first_counts j b others k v o x y None q h f g = absurd (cc)
first_counts j b others k v o x y (Some l) None h f g = let z = decides_at_once v k j o (Some l) None h in (first_evaluated v k l b.symbols o x y b.number z f.0, λ w. first_fits v k l l o x y others b.fits z w f.1)
first_counts j b others k v o x y (Some l) (Some m) h f g = absurd g

pub second_counts : (j : Symbols) (b : Counted) (others : Bool) → EvaluatesEither j None (Some b) others b.symbols b.number (others && b.fits)
second_counts j b others k v o x y p None h f g = absurd (cc)
second_counts j b others k v o x y None (Some m) h f g = let z = decides_at_once v k j o None (Some m) h in (second_evaluated v k m b.symbols o x y b.number z g.0, λ w. second_fits v k m m o x y others b.fits z w g.1)
second_counts j b others k v o x y (Some l) (Some m) h f g = absurd f

pub both_count : (j n : Symbols) (b c : Counted) (e : Linear) (others : Bool) → GivesEither j n b.symbols b.number c.symbols c.number e → EvaluatesEither j (Some b) (Some c) others n e (others && (b.fits && c.fits))
both_count j n b c e others z k v o x y None q h f g = absurd (cc)
both_count j n b c e others z k v o x y (Some l) None h f g = absurd (cc)
both_count j n b c e others z k v o x y (Some l) (Some m) h f g =
    let t = decides_at_once v k j o (Some l) (Some m) h in
    (either_evaluated v k j l m b.symbols c.symbols n o x y b.number c.number e h f.0 g.0 z, λ w. both_fit_too v k l m o x y others b.fits c.fits t w f.1 g.1)

-- ---- what is known of a view

module _ (k : Known) (o : ObservationTree) (p q : Option Symbols) (s t : Option Known) (e : s ≡ known_with k.view p) (f : t ≡ known_with k.view q) (h : DecidesIn k.view k.symbols o p q) where
  pub decides_in_view : Decides k o s t
  decides_in_view scope i r ps d =
      subst (λ x. IsSomeAnd (cond (holds i r o) x t) (GoesTo k d.numbers)) (sym e)
      (subst (λ x. IsSomeAnd (cond (holds i r o) (known_with k.view p) x) (GoesTo k d.numbers)) (sym f) (by_test (holds i r o) (h scope i r ps d)))
    where
      goes : (x : Option Symbols) → IsSomeAnd x (Leads k.symbols d.numbers) → IsSomeAnd (known_with k.view x) (GoesTo k d.numbers)
      goes None g = g
      goes (Some m) g = record { view = refl; symbols = g }

      by_test : (b : Bool) → IsSomeAnd (cond b p q) (Leads k.symbols d.numbers) → IsSomeAnd (cond b (known_with k.view p) (known_with k.view q)) (GoesTo k d.numbers)
      by_test true g = goes p g
      by_test false g = goes q g

  pub observes_in_view : (said : Bool) → LooksWhereSaid k.view k.symbols o said → ObservesSo IsDescribed k o (record { kinds = unless said Leaves128; if_true = s; if_false = t })
  observes_in_view said g scope i r ps d = record { warned = tt; numbers = λ z. g scope i r ps d z; known = λ z. described (cond (holds i r o) s t) (decides_in_view scope i r ps d) }
    where
      described : (x : Option Known) → IsSomeAnd x (GoesTo k d.numbers) → IsSomeAnd x (λ m. IsDescribed scope m i r ps)
      described None g = g
      described (Some m) g =
          let l = g.symbols in
          record {
            closed = l.closed;
            below = subst (SeesBelow m.symbols.next) (sym g.view) (sees_more k.symbols.next m.symbols.next l.grows k.view d.below);
            numbers = l.values;
            valued = l.valued;
            seen = subst (λ v. IsSeen scope l.values v i r ps) (sym g.view) (same_seen scope k.symbols.next l.values d.numbers k.view i r ps l.agrees d.below d.seen);
          }

pub unites_other : (k : Known) (o : Option Known) → Unites k None o o
unites_other k o r c v (inl h) = absurd h
unites_other k o r c v (inr h) = h

pub unites_one : (k a : Known) → Unites k (Some a) None (Some a)
unites_one k a r c v (inl h) = h
unites_one k a r c v (inr h) = absurd h

pub unites_both : (k a b : Known) (m : Symbols) (v : View) → v ≡ k.view → Joins k.symbols a.symbols b.symbols m → Unites k (Some a) (Some b) (Some (known m v))
unites_both k a b m v e h r c w (inl g) = record { view = e; symbols = h r c w (inl g.symbols) }
unites_both k a b m v e h r c w (inr g) = record { view = e; symbols = h r c w (inr g.symbols) }

pub either_both : (k a b m : Symbols) → Joins k a b m → LeadsEither k (Some a) (Some b) (Some m)
either_both k a b m h r c v g = h r c v g

-- ---- what a step answers

pub observed_as : {E : Type 0} (o : Result Truths E) (k : Symbols) (v : View) (m : Symbols) (x y : ObservationTree) → x ≡ y → IfOk o (IsObserved k v y m) → IfOk o (IsObserved k v x m)
observed_as o k v m x y e h = subst (λ z. IfOk o (IsObserved k v z m)) (sym e) h
