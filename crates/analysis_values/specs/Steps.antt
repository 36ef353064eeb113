-- What the steps of an evaluation answer.
use Rattle.std.specs.Prelude.{◌≡◌, ℕ, ◌^◌, ℤ, pos, neg_ℤ, ◌+ℤ◌, ◌-ℤ◌, ◌*ℤ◌, ◌≤ℤ◌, ◌<ℤ◌, Bool, cond, List, Option, Some, None, ◌⊎◌}
use Rattle.std.specs.List.{AllByRecursion}
use Rattle.std.specs.Option.{IsSomeAnd}
use Rattle.contract.specs.declared.interval.Interval.{Interval}
use Rattle.contract.specs.declared.payment.Payment.{Payment}
use Rattle.contract.specs.Tree.{ValueTree, add_value, sub_value, mul_value, div_value, cond_value, ObservationTree, value_ge, value_gt, value_lt, value_le, value_eq}
use Rattle.contract.specs.States.States.{StateMaps}
use Rattle.semantics.specs.Evaluation.Evaluation.{quotient, eval, visited, holds, looked}
use Rattle.linear.specs.Linear.{Linear, Valuation, number_at, IsBelow}
use Rattle.symbols.specs.Symbols.{Symbols, IsValued, IsClosed, Leads, Gives}
use Rattle.analysis_spec.specs.declared.kind.AlarmKind.TheVariants.{Leaves128}
use Rattle.analysis_walk.specs.Limits.{Scope, written_runs, Allowed, GoesOn}
use Rattle.analysis_values.specs.Known.{View, AreTimes, IsDescribed, known}
use Rattle.analysis_values.specs.Answered.{unless, Evaluates, FitsWhereSaid}
use Rattle.analysis_values.specs.declared.cases.Counted.{Counted}
use Rattle.analysis_values.specs.declared.comparisons.Comparison.{Comparison}
use Rattle.analysis_values.specs.declared.comparisons.Comparison.TheVariants.{NoLess, Greater, Less, NoGreater, Same}
use Rattle.analysis_values.specs.declared.operations.Arithmetic.{Arithmetic}
use Rattle.analysis_values.specs.declared.operations.Arithmetic.TheVariants.{Sum, Difference, Product, Quotient}
use Rattle.analysis_values.specs.declared.values.Evaluated.{Evaluated}
use Rattle.analysis_values.specs.declared.values.Operands.{Operands}
use Rattle.analysis_values.specs.declared.observations.Truths.{Truths}

-- ---- values

-- what is answered of a value, in a view: an expression stands for its number, and its numbers fit where that is said
pub record IsEvaluated (k : Symbols) (v : View) (x : ValueTree) (m : Symbols) (a : Evaluated) : Type 0 where
  pub number : Evaluates (known k v) x (known m v) a.number
  pub fits : FitsWhereSaid (known k v) x a.fits

-- ---- two operands

-- two expressions stand for two numbers
pub record GivesBoth (k : Symbols) (r : Valuation) (m : Symbols) (a b : Linear) (x y : ℤ) : Type 0 where
  pub leads : Leads k r m
  pub left_below : IsBelow m.next a
  pub right_below : IsBelow m.next b
  pub left : x ≡ number_at leads.values a
  pub right : y ≡ number_at leads.values b

-- .. for those of two values
abbrev pub EvaluatesBoth : View → Symbols → ValueTree → ValueTree → Symbols → Linear → Linear → Type 0
EvaluatesBoth v k x y m a b =
    (scope : Scope) (i : Interval) (s : StateMaps) (ps : List Payment) → (d : IsDescribed scope (known k v) i s ps) → GivesBoth k d.numbers m a b (eval i s x) (eval i s y)

abbrev pub EvaluatesOperands : View → Symbols → ValueTree → ValueTree → Symbols → Operands → Type 0
EvaluatesOperands v k x y m ab = EvaluatesBoth v k x y m ab.left ab.right

abbrev pub BothFitWhereSaid : View → Symbols → ValueTree → ValueTree → Bool → Type 0
BothFitWhereSaid v k x y said =
    (scope : Scope) (i : Interval) (s : StateMaps) (ps : List Payment) → IsDescribed scope (known k v) i s ps → GoesOn scope (unless said Leaves128) → AllByRecursion (Allowed scope) (visited i s x) × AllByRecursion (Allowed scope) (visited i s y)

-- whatever numbers symbols stand for: an expression stands for the number that a function makes of two expressions'
abbrev pub GivesOf : (ℤ → ℤ → ℤ) → Symbols → Symbols → Linear → Linear → Linear → Type 0
GivesOf f k m a b e = (r : Valuation) → IsClosed k → IsValued r k → IsBelow k.next a → IsBelow k.next b → Gives k r (m, e) (f (number_at r a) (number_at r b))

-- .. for the opposite number
abbrev pub GivesOpposite : Symbols → Symbols → Linear → Linear → Type 0
GivesOpposite k m a e = (r : Valuation) → IsClosed k → IsValued r k → IsBelow k.next a → Gives k r (m, e) (neg_ℤ (number_at r a))

-- the value that an operation makes of two, and its number
abbrev pub tree_of : Arithmetic → ValueTree → ValueTree → ValueTree
tree_of Sum x y = add_value x y
tree_of Difference x y = sub_value x y
tree_of Product x y = mul_value x y
tree_of Quotient x y = div_value x y

abbrev pub result_of : Arithmetic → ℤ → ℤ → ℤ
result_of Sum m n = m +ℤ n
result_of Difference m n = m -ℤ n
result_of Product m n = m *ℤ n
result_of Quotient m n = quotient m n

-- ---- comparisons

-- whatever numbers symbols stand for: where two expressions are so, more is known, and it can be
abbrev pub KnowsWhere : (ℤ → ℤ → Type 0) → Symbols → Linear → Linear → Option Symbols → Type 0
KnowsWhere P k a b o = (r : Valuation) → IsClosed k → IsValued r k → IsBelow k.next a → IsBelow k.next b → P (number_at r a) (number_at r b) → IsSomeAnd o (Leads k r)

-- the second is no greater, the second is greater, both are the same, they aren't
abbrev pub IsNoLess : ℤ → ℤ → Type 0
IsNoLess x y = y ≤ℤ x

abbrev pub IsLess : ℤ → ℤ → Type 0
IsLess x y = x <ℤ y

abbrev pub IsSame : ℤ → ℤ → Type 0
IsSame x y = x ≡ y

abbrev pub IsOther : ℤ → ℤ → Type 0
IsOther x y = x ≡ y → ⊥

-- the observation that compares two values so, and when it is true and when it is false
abbrev pub test_of : Comparison → ValueTree → ValueTree → ObservationTree
test_of NoLess x y = value_ge x y
test_of Greater x y = value_gt x y
test_of Less x y = value_lt x y
test_of NoGreater x y = value_le x y
test_of Same x y = value_eq x y

abbrev pub HoldsOf : Comparison → ℤ → ℤ → Type 0
HoldsOf NoLess x y = IsNoLess x y
HoldsOf Greater x y = IsLess y x
HoldsOf Less x y = IsLess x y
HoldsOf NoGreater x y = IsNoLess y x
HoldsOf Same x y = IsSame x y

abbrev pub FailsOf : Comparison → ℤ → ℤ → Type 0
FailsOf NoLess x y = IsLess x y
FailsOf Greater x y = IsNoLess y x
FailsOf Less x y = IsNoLess x y
FailsOf NoGreater x y = IsLess y x
FailsOf Same x y = IsOther x y

-- ---- truths

-- what is known in either of two cases, of which one can be at least
abbrev pub LeadsEither : Symbols → Option Symbols → Option Symbols → Option Symbols → Type 0
LeadsEither k a b o = (r : Valuation) → IsClosed k → IsValued r k → IsSomeAnd a (Leads k r) ⊎ IsSomeAnd b (Leads k r) → IsSomeAnd o (Leads k r)

-- what leads on from what is known once its numbers have expressions
pub record LeadsThere (k : Symbols) (r : Valuation) (m : Symbols) (o : Option Symbols) : Type 0 where
  pub leads : Leads k r m
  pub on : IsSomeAnd o (Leads m leads.values)

-- what is known where an observation is true, and where it is false, once the numbers that it compares have expressions
abbrev pub DecidesThere : View → Symbols → Symbols → ObservationTree → Option Symbols → Option Symbols → Type 0
DecidesThere v k m o if_true if_false = (scope : Scope) (i : Interval) (s : StateMaps) (ps : List Payment) → (d : IsDescribed scope (known k v) i s ps) → LeadsThere k d.numbers m (cond (holds i s o) if_true if_false)

-- what is known becomes m, with its two truths; or it stays k where one of these can't be, and k is then known where the other is
pub record Leaves (k m : Symbols) (p q : Option Symbols) (n : Symbols) (if_true if_false : Option Symbols) : Type 0 where
  pub settles : ((n ≡ m) × (if_true ≡ p) × (if_false ≡ q)) ⊎ (((n ≡ k) × (if_true ≡ Some k) × (q ≡ None)) ⊎ ((n ≡ k) × (if_false ≡ Some k) × (p ≡ None)))

-- what a comparison leaves behind, by what is known where it is true and where it is false
abbrev pub Compares : Comparison → Symbols → Symbols → Operands → Symbols → Truths → Type 0
Compares c k m ab n t = (p : Option Symbols) × (q : Option Symbols) × KnowsWhere (HoldsOf c) m ab.left ab.right p × KnowsWhere (FailsOf c) m ab.left ab.right q × Leaves k m p q n t.if_true t.if_false

-- where the numbers that it looks at are said to fit, the runs that are spoken of may visit them
abbrev pub LooksWhereSaid : View → Symbols → ObservationTree → Bool → Type 0
LooksWhereSaid v k o said = (scope : Scope) (i : Interval) (s : StateMaps) (ps : List Payment) → IsDescribed scope (known k v) i s ps → GoesOn scope (unless said Leaves128) → AllByRecursion (Allowed scope) (looked i s o)

-- .. and both, of what is answered of an observation
pub record IsObserved (k : Symbols) (v : View) (o : ObservationTree) (m : Symbols) (t : Truths) : Type 0 where
  pub truths : DecidesThere v k m o t.if_true t.if_false
  pub fits : LooksWhereSaid v k o t.fits

-- .. where something is known
abbrev pub ObservesIn : View → Option Symbols → ObservationTree → Option Truths → Type 0
ObservesIn v None o t = t ≡ None
ObservesIn v (Some m) o t = IsSomeAnd t (λ u. (n : Symbols) × IsObserved m v o n u)

-- ---- one of two values

-- more is known of the same view
abbrev pub LeadsOn : View → Symbols → Symbols → Type 0
LeadsOn v k m = (scope : Scope) (i : Interval) (s : StateMaps) (ps : List Payment) → (d : IsDescribed scope (known k v) i s ps) → Leads k d.numbers m

-- where something is known, an expression stands for the number of a value there, and its numbers fit where that is said
abbrev pub EvaluatesIn : View → Option Symbols → ValueTree → Option Counted → Type 0
EvaluatesIn v None x o = o ≡ None
EvaluatesIn v (Some m) x o = IsSomeAnd o (λ b. Evaluates (known m v) x (known b.symbols v) b.number × FitsWhereSaid (known m v) x b.fits)

-- an expression stands for the number of one of two values, by an observation that is true or false where these count; its numbers
-- fit where that is said, if those of the observation do where that is said
abbrev pub EvaluatesEither : Symbols → Option Counted → Option Counted → Bool → Symbols → Linear → Bool → Type 0
EvaluatesEither m b c others n e said =
    (k : Symbols) (v : View) (o : ObservationTree) (x y : ValueTree) (p q : Option Symbols) → DecidesThere v k m o p q → EvaluatesIn v p x b → EvaluatesIn v q y c
    → Evaluates (known k v) (cond_value o x y) (known n v) e × (LooksWhereSaid v k o others → FitsWhereSaid (known k v) (cond_value o x y) said)

-- ---- times

-- an expression is never below the least number of 128 bits
abbrev pub IsFrom128 : Symbols → Linear → Type 0
IsFrom128 k l = (r : Valuation) → IsValued r k → neg_ℤ (pos (2 ^ 127)) ≤ℤ number_at r l

-- .. in runs whose times JSON can write
abbrev pub StaysAbove : List ℕ → Symbols → Linear → Type 0
StaysAbove xs k l = (r : Valuation) → IsValued r k → AreTimes written_runs r xs → neg_ℤ (pos (2 ^ 127)) ≤ℤ number_at r l
