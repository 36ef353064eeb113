-- What is known is still true where it grows; leaves, operations and comparisons.
use Rattle.std.proofs.Common.{◌≡◌, ℕ, ◌<◌, ◌^◌, ℤ, pos, negsuc, neg_ℤ, ◌*ℤ◌, ◌≤ℤ◌, ◌<ℤ◌, Bool, true, false, ◌&&◌, List, [], ◌∷◌, ◌++◌, refl, sym, ap, ◌∙◌, subst, arith, None, Result, Ok, Err, FitsSigned}
use Rattle.std.proofs.lemmas.Int.{ints}
use Rattle.std.specs.Prelude.{IfOk}
use Rattle.std.specs.Int.{w128}
use Rattle.std.specs.List.{AllByRecursion}
use Rattle.std.specs.Option.{unwrap_or}
use Rattle.std.specs.FinMap.{get}
use Rattle.std.specs.FinMap.Entries.{find}
use Rattle.contract.specs.Names.declared.choice_id.ChoiceId.{ChoiceId}
use Rattle.contract.specs.Names.declared.party.Party.{Party}
use Rattle.contract.specs.Names.declared.token.Token.{Token}
use Rattle.contract.specs.Names.Orders.{account_cmp, choice_id_cmp, bytes_cmp}
use Rattle.contract.specs.declared.interval.Interval.{Interval}
use Rattle.contract.specs.declared.payment.Payment.{Payment}
use Rattle.contract.specs.Tree.{ValueTree, available_money, constant, choice_value, time_interval_start, time_interval_end, use_value}
use Rattle.contract.specs.States.States.{StateMaps}
use Rattle.semantics.specs.Evaluation.Evaluation.{eval, visited}
use Rattle.semantics.specs.Evaluation.Numbers.{fits}
use Rattle.semantics.specs.Reduction.{account_of}
use Rattle.linear.specs.Linear.{Linear, Valuation, number_at, IsBelow, number}
use Rattle.linear.specs.Combined.{StandsFor, AreBelow}
use Rattle.symbols.specs.Symbols.{Symbols, IsValued, IsClosed, Leads, Gives}
use Rattle.symbols.specs.Held.{GivesAny}
use Rattle.symbols.specs.Results.{GivesMultiple}
use Rattle.linear.proofs.LinearLaws.{same_number, plus_none}
use Rattle.symbols.proofs.KnownLaws.{gives_here, terms_more, knows_itself, knows_leads, leads_gives, gives_leads, up_more, below_more}
use Rattle.analysis_spec.specs.declared.kind.AlarmKind.TheVariants.{Leaves128}
use Rattle.analysis_walk.specs.Limits.{Scope, any_runs, written_runs, Allowed, GoesOn}
use Rattle.analysis_walk.proofs.ListLaws.{all_append}
use Rattle.analysis_values.specs.Known.{View, held, IsDescribed, known}
use Rattle.analysis_values.specs.Answered.{unless, Evaluates, FitsWhereSaid, StaysWhereSaid}
use Rattle.analysis_values.proofs.KnownLaws.{found_below, fits_between, unwrapped, sees_more, same_seen, unwrapped_allowed}
use Rattle.analysis_values.specs.declared.values.Evaluated.{Evaluated}
use Rattle.analysis_values.specs.declared.operations.Arithmetic.{Arithmetic}
use Rattle.analysis_values.specs.declared.operations.Arithmetic.TheVariants.{Sum, Difference, Product, Quotient}
use Rattle.analysis_values.specs.Steps.{IsEvaluated, EvaluatesBoth, BothFitWhereSaid, GivesOf, GivesOpposite, tree_of, result_of}

-- ---- what is still true

abbrev pub described_leads : (scope : Scope) (i : Interval) (s : StateMaps) (ps : List Payment) (k m : Symbols) (v : View) → (d : IsDescribed scope (known k v) i s ps) → Leads k d.numbers m → IsDescribed scope (known m v) i s ps
described_leads scope i s ps k m v d g = record {
  closed = g.closed;
  below = sees_more k.next m.next g.grows v d.below;
  numbers = g.values;
  valued = g.valued;
  seen = same_seen scope k.next g.values d.numbers v i s ps g.agrees d.below d.seen;
}

abbrev pub through : (k : Symbols) (r : Valuation) (a b : Symbols) → (g : Leads k r a) → Leads a g.values b → Leads k r b
through k r a b g h = record {
  closed = h.closed;
  grows = up_more k.next a.next b.next g.grows h.grows;
  values = h.values;
  agrees = λ x l. h.agrees x (below_more x k.next a.next l g.grows) ∙ g.agrees x l;
  valued = h.valued;
}

pub leads_itself : (k : Symbols) (r : Valuation) → IsClosed k → IsValued r k → Leads k r k
leads_itself k r c v = knows_leads k r k (knows_itself k r c v)

-- ---- what fits

pub goes_both : (scope : Scope) (a b : Bool) → GoesOn scope (unless (a && b) Leaves128) → GoesOn scope (unless a Leaves128) × GoesOn scope (unless b Leaves128)
goes_both any_runs a b h = (tt, tt)
goes_both written_runs true b h = (tt, h)
goes_both written_runs false b h = absurd (h.0 refl)

-- ---- leaves

-- an expression that stands for the number where it is evaluated
pub stands_here : (v : View) (k : Symbols) (x : ValueTree) (l : Linear)
    → ((scope : Scope) (i : Interval) (s : StateMaps) (ps : List Payment) → (d : IsDescribed scope (known k v) i s ps) → IsBelow k.next l × (eval i s x ≡ number_at d.numbers l)) → Evaluates (known k v) x (known k v) l
stands_here v k x l h = record {
  view = refl;
  gives = λ scope i s ps d. let q = h scope i s ps d in gives_here k d.numbers l (eval i s x) d.closed d.valued q.0 q.1;
}

-- one number is visited, which is allowed
pub fits_here : (v : View) (k : Symbols) (x : ValueTree) (said : Bool) → ((i : Interval) (s : StateMaps) → visited i s x ≡ eval i s x ∷ [])
    → ((scope : Scope) (i : Interval) (s : StateMaps) (ps : List Payment) → IsDescribed scope (known k v) i s ps → Allowed scope (eval i s x)) → FitsWhereSaid (known k v) x said
fits_here v k x said same h scope i s ps d g = subst (AllByRecursion (Allowed scope)) (sym (same i s)) (h scope i s ps d, tt)

pub account_stands : (v : View) (k : Symbols) (p : Party) (t : Token) (l : Linear) → l ≡ held v.accounts (account_of p t) → Evaluates (known k v) (available_money p t) (known k v) l
account_stands v k p t l e =
    stands_here v k (available_money p t) l (λ scope i s ps d. (
      subst (IsBelow k.next) (sym e) (found_below account_cmp k.next v.accounts (account_of p t) d.below.accounts),
      d.seen.accounts (account_of p t) ∙ ap (number_at d.numbers) (sym e),
    ))

pub account_fits : (v : View) (k : Symbols) (p : Party) (t : Token) (said : Bool) → FitsWhereSaid (known k v) (available_money p t) said
account_fits v k p t said = fits_here v k (available_money p t) said (λ i s. refl) (λ scope i s ps d. d.seen.money (account_of p t))

pub constant_stands : (v : View) (k : Symbols) (n : ℤ) (l : Linear) → l ≡ number n → Evaluates (known k v) (constant n) (known k v) l
constant_stands v k n l e =
    stands_here v k (constant n) l (λ scope i s ps d. (subst (IsBelow k.next) (sym e) tt, sym (plus_none n) ∙ ap (number_at d.numbers) (sym e)))

pub number_allowed : (scope : Scope) (n : ℤ) → fits n ≡ true → Allowed scope n
number_allowed any_runs n h = tt
number_allowed written_runs n h = h

negative : (n m : ℕ) → n < m → neg_ℤ (pos m) ≤ℤ negsuc n
negative n m h = omega (arith, ints)

natural : (n m : ℕ) → neg_ℤ (pos m) ≤ℤ pos n
natural n m = omega (arith, ints)

less : (n m : ℕ) → n < m → pos n <ℤ pos m
less n m h = omega (arith, ints)

less_natural : (n m : ℕ) → negsuc n <ℤ pos m
less_natural n m = omega (arith, ints)

pub number_fits : (n : ℤ) → FitsSigned w128 n → fits n ≡ true
number_fits (pos n) h = let k : n < 2 ^ 127 = h.sfits in fits_between (pos n) (natural n (2 ^ 127)) (less n (2 ^ 127) k)
number_fits (negsuc n) h = let k : n < 2 ^ 127 = h.sfits in fits_between (negsuc n) (negative n (2 ^ 127) k) (less_natural n (2 ^ 127))

pub constant_fits : (v : View) (k : Symbols) (n : ℤ) (said : Bool) → fits n ≡ true → FitsWhereSaid (known k v) (constant n) said
constant_fits v k n said h = fits_here v k (constant n) said (λ i s. refl) (λ scope i s ps d. number_allowed scope n h)

pub choice_stands : (v : View) (k : Symbols) (id : ChoiceId) (l : Linear) → l ≡ unwrap_or (find choice_id_cmp id v.choices) (number (pos 0)) → Evaluates (known k v) (choice_value id) (known k v) l
choice_stands v k id l e =
    stands_here v k (choice_value id) l (λ scope i s ps d. (
      subst (IsBelow k.next) (sym e) (found_below choice_id_cmp k.next v.choices id d.below.choices),
      ap (λ o. unwrap_or o (pos 0)) (d.seen.choices id) ∙ unwrapped d.numbers (find choice_id_cmp id v.choices) ∙ ap (number_at d.numbers) (sym e),
    ))

pub choice_fits : (v : View) (k : Symbols) (id : ChoiceId) (said : Bool) → FitsWhereSaid (known k v) (choice_value id) said
choice_fits v k id said = fits_here v k (choice_value id) said (λ i s. refl) (λ scope i s ps d. unwrapped_allowed scope (get s.choices id) (d.seen.chosen id))

pub bound_stands : (v : View) (k : Symbols) (x : List ℕ) (l : Linear) → l ≡ unwrap_or (find bytes_cmp x v.bound) (number (pos 0)) → Evaluates (known k v) (use_value x) (known k v) l
bound_stands v k x l e =
    stands_here v k (use_value x) l (λ scope i s ps d. (
      subst (IsBelow k.next) (sym e) (found_below bytes_cmp k.next v.bound x d.below.bound),
      ap (λ o. unwrap_or o (pos 0)) (d.seen.bound x) ∙ unwrapped d.numbers (find bytes_cmp x v.bound) ∙ ap (number_at d.numbers) (sym e),
    ))

pub bound_fits : (v : View) (k : Symbols) (x : List ℕ) (said : Bool) → FitsWhereSaid (known k v) (use_value x) said
bound_fits v k x said = fits_here v k (use_value x) said (λ i s. refl) (λ scope i s ps d. unwrapped_allowed scope (get s.bound_values x) (d.seen.values x))

pub start_stands : (v : View) (k : Symbols) (l : Linear) → l ≡ v.start → Evaluates (known k v) time_interval_start (known k v) l
start_stands v k l e = stands_here v k time_interval_start l (λ scope i s ps d. (subst (IsBelow k.next) (sym e) d.below.start, d.seen.start ∙ ap (number_at d.numbers) (sym e)))

pub start_fits : (v : View) (k : Symbols) (said : Bool) → FitsWhereSaid (known k v) time_interval_start said
start_fits v k said = fits_here v k time_interval_start said (λ i s. refl) (λ scope i s ps d. d.seen.from)

pub end_stands : (v : View) (k : Symbols) (l : Linear) → l ≡ v.end → Evaluates (known k v) time_interval_end (known k v) l
end_stands v k l e = stands_here v k time_interval_end l (λ scope i s ps d. (subst (IsBelow k.next) (sym e) d.below.end, d.seen.end ∙ ap (number_at d.numbers) (sym e)))

pub end_fits : (v : View) (k : Symbols) (said : Bool) → FitsWhereSaid (known k v) time_interval_end said
end_fits v k said = fits_here v k time_interval_end said (λ i s. refl) (λ scope i s ps d. d.seen.to)

-- ---- operations

-- an operation's number is allowed, where that is said
pub stays_allowed : (scope : Scope) (v : View) (k n : Symbols) (x : ValueTree) (e : Linear) (said : Bool) (i : Interval) (s : StateMaps) (ps : List Payment) → Evaluates (known k v) x (known n v) e → StaysWhereSaid (known n v) e said
    → IsDescribed scope (known k v) i s ps → GoesOn scope (unless said Leaves128) → Allowed scope (eval i s x)
stays_allowed any_runs v k n x e said i s ps a f d g = tt
stays_allowed written_runs v k n x e false i s ps a f d g = absurd (g.0 refl)
stays_allowed written_runs v k n x e true i s ps a f d g =
    let p = a.gives written_runs i s ps d in
    let q = described_leads written_runs i s ps k n v d (gives_leads k d.numbers (n, e) (eval i s x) p) in
    subst (λ z. fits z ≡ true) (sym p.number) (f refl p.values p.valued q.seen.times)

module _ (v : View) (k m n : Symbols) (x z : ValueTree) (a e : Linear) where
  -- of one operand
  pub negation_evaluated : ((i : Interval) (s : StateMaps) → eval i s z ≡ neg_ℤ (eval i s x)) → Evaluates (known k v) x (known m v) a → GivesOpposite m n a e → Evaluates (known k v) z (known n v) e
  negation_evaluated same p g = record {
    view = refl;
    gives = λ scope i s ps d.
        let q = p.gives scope i s ps d in
        subst (Gives k d.numbers (n, e)) (ap neg_ℤ (sym q.number) ∙ sym (same i s))
        (leads_gives k d.numbers m (n, e) (neg_ℤ (number_at q.values a)) (gives_leads k d.numbers (m, a) (eval i s x) q) (g q.values q.closed q.valued q.below));
  }

  pub one_fits : (others said : Bool) → ((i : Interval) (s : StateMaps) → visited i s z ≡ visited i s x ++ eval i s z ∷ []) → FitsWhereSaid (known k v) x others → Evaluates (known k v) z (known n v) e → (said ≡ true → others ≡ true)
      → StaysWhereSaid (known n v) e said → FitsWhereSaid (known k v) z said
  one_fits others said same p q h f scope i s ps d g =
      subst (AllByRecursion (Allowed scope)) (sym (same i s)) (all_append (Allowed scope) (visited i s x) (eval i s z ∷ []) (p scope i s ps d (goes_others scope said others h g)) (stays_allowed scope v k n z e said i s ps q f d g, tt))
    where
      goes_others : (scope : Scope) (said others : Bool) → (said ≡ true → others ≡ true) → GoesOn scope (unless said Leaves128) → GoesOn scope (unless others Leaves128)
      goes_others any_runs said others h g = tt
      goes_others written_runs false others h g = absurd (g.0 refl)
      goes_others written_runs true others h g = subst (λ b. GoesOn written_runs (unless b Leaves128)) (sym (h refl)) tt

-- two operands, from the left
module _ (v : View) (k l m : Symbols) (x y : ValueTree) (a b : Linear) (f : Evaluates (known k v) x (known l v) a) where
  pub both_evaluated : Evaluates (known l v) y (known m v) b → EvaluatesBoth v k x y m a b
  both_evaluated g scope i s ps d =
      let p = f.gives scope i s ps d in
      let h = gives_leads k d.numbers (l, a) (eval i s x) p in
      let q = g.gives scope i s ps (described_leads scope i s ps k l v d h) in
      record {
        leads = through k d.numbers l m h (gives_leads l p.values (m, b) (eval i s y) q);
        left_below = terms_more l.next m.next q.grows a.terms p.below;
        right_below = q.below;
        left = p.number ∙ sym (same_number l.next q.values p.values q.agrees a p.below);
        right = q.number;
      }

  pub both_fit : (c d : Bool) → FitsWhereSaid (known k v) x c → FitsWhereSaid (known l v) y d → BothFitWhereSaid v k x y (c && d)
  both_fit c d p q scope i s ps e h =
      let g = f.gives scope i s ps e in
      let o = goes_both scope c d h in
      (p scope i s ps e o.0, q scope i s ps (described_leads scope i s ps k l v e (gives_leads k e.numbers (l, a) (eval i s x) g)) o.1)

module _ (v : View) (k m n : Symbols) (x y z : ValueTree) (a b e : Linear) where
  pub two_evaluated : (f : ℤ → ℤ → ℤ) → ((i : Interval) (s : StateMaps) → eval i s z ≡ f (eval i s x) (eval i s y)) → EvaluatesBoth v k x y m a b → GivesOf f m n a b e → Evaluates (known k v) z (known n v) e
  two_evaluated f same p g = record {
    view = refl;
    gives = λ scope i s ps d.
        let q = p scope i s ps d in
        let l = q.leads in
        subst (Gives k d.numbers (n, e)) (ap (λ w. f w (number_at l.values b)) (sym q.left) ∙ ap (f (eval i s x)) (sym q.right) ∙ sym (same i s))
        (leads_gives k d.numbers m (n, e) (f (number_at l.values a) (number_at l.values b)) l (g l.values l.closed l.valued q.left_below q.right_below));
  }

  pub two_fit : (others said : Bool) → ((i : Interval) (s : StateMaps) → visited i s z ≡ visited i s x ++ (visited i s y ++ eval i s z ∷ [])) → BothFitWhereSaid v k x y others → Evaluates (known k v) z (known n v) e
      → (said ≡ true → others ≡ true) → StaysWhereSaid (known n v) e said → FitsWhereSaid (known k v) z said
  two_fit others said same p q h f scope i s ps d g =
      let o = p scope i s ps d (goes_others scope said others h g) in
      subst (AllByRecursion (Allowed scope)) (sym (same i s)) (all_append (Allowed scope) (visited i s x) (visited i s y ++ eval i s z ∷ []) o.0
      (all_append (Allowed scope) (visited i s y) (eval i s z ∷ []) o.1 (stays_allowed scope v k n z e said i s ps q f d g, tt)))
    where
      goes_others : (scope : Scope) (said others : Bool) → (said ≡ true → others ≡ true) → GoesOn scope (unless said Leaves128) → GoesOn scope (unless others Leaves128)
      goes_others any_runs said others h g = tt
      goes_others written_runs false others h g = absurd (g.0 refl)
      goes_others written_runs true others h g = subst (λ b. GoesOn written_runs (unless b Leaves128)) (sym (h refl)) tt

-- a sum, or a number of which nothing is known
pub stands_of : (f : ℤ → ℤ → ℤ) (k : Symbols) (a b e : Linear) → StandsFor (λ r. f (number_at r a) (number_at r b)) (AreBelow a b) e → GivesOf f k k a b e
stands_of f k a b e h r c v p q = gives_here k r e (f (number_at r a) (number_at r b)) c v (h.below k.next (p, q)) (sym (h.number r))

pub any_of : (f : ℤ → ℤ → ℤ) (k m : Symbols) (a b e : Linear) → GivesAny k m e None None → GivesOf f k m a b e
any_of f k m a b e h r c v p q = h r (f (number_at r a) (number_at r b)) c v tt tt

minus_one : (w : ℤ) → negsuc 0 *ℤ w ≡ neg_ℤ w
minus_one w = omega (arith, ints)

pub opposite_by : (k m : Symbols) (a e : Linear) → GivesMultiple (negsuc 0) k m a e → GivesOpposite k m a e
opposite_by k m a e h r c v p = subst (Gives k r (m, e)) (minus_one (number_at r a)) (h r c v p)

-- the value of an operation
pub tree_evaluated : (operation : Arithmetic) (x y : ValueTree) (i : Interval) (s : StateMaps) → eval i s (tree_of operation x y) ≡ result_of operation (eval i s x) (eval i s y)
tree_evaluated Sum x y i s = refl
tree_evaluated Difference x y i s = refl
tree_evaluated Product x y i s = refl
tree_evaluated Quotient x y i s = refl

pub tree_visited : (operation : Arithmetic) (x y : ValueTree) (i : Interval) (s : StateMaps) → visited i s (tree_of operation x y) ≡ visited i s x ++ (visited i s y ++ eval i s (tree_of operation x y) ∷ [])
tree_visited Sum x y i s = refl
tree_visited Difference x y i s = refl
tree_visited Product x y i s = refl
tree_visited Quotient x y i s = refl

-- ---- what a step answers

pub evaluated_as : {E : Type 0} (o : Result Evaluated E) (k : Symbols) (v : View) (m : Symbols) (x y : ValueTree) → x ≡ y → IfOk o (IsEvaluated k v y m) → IfOk o (IsEvaluated k v x m)
evaluated_as o k v m x y e h = subst (λ z. IfOk o (IsEvaluated k v z m)) (sym e) h

pub ok_both : {A E : Type 0} (o : Result A E) (P Q R : A → Type 0) → ((a : A) → P a → Q a → R a) → IfOk o P → IfOk o Q → IfOk o R
ok_both (Ok a) P Q R f p q = f a p q
ok_both (Err z) P Q R f p q = p

pub ok_three : {A E : Type 0} (o : Result A E) (P Q R S : A → Type 0) → ((a : A) → P a → Q a → R a → S a) → IfOk o P → IfOk o Q → IfOk o R → IfOk o S
ok_three (Ok a) P Q R S f p q r = f a p q r
ok_three (Err z) P Q R S f p q r = p
