-- Inputs that an earlier case takes.
use Rattle.std.proofs.Common.{◌≡◌, ℕ, ◌<◌, ℤ, ◌≤ℤ◌, Bool, true, false, cond, ◌&&◌, List, [], ◌∷◌, ◌++◌, length, get_or, drop, All, inl, inr, refl, sym, ap, ◌∙◌, subst, arith, Option, Some, None, Result, Ok, Err, IfOk}
use Rattle.std.proofs.lemmas.Int.{ints}
use Rattle.std.proofs.lemmas.Bool.Decides.{Decides-int_eq}
use Rattle.std.proofs.lemmas.List.Elements.{All-drop, All-get_or, All-weaker}
use Rattle.std.specs.Prelude.{◌↔◌, IsTrue}
use Rattle.std.specs.List.{AllByRecursion}
use Rattle.std.specs.Option.{is_none, IsSomeAnd}
use Rattle.contract.specs.Names.declared.party.Party.{Party}
use Rattle.contract.specs.Names.declared.token.Token.{Token}
use Rattle.contract.specs.Names.Equal.{same_party, same_token}
use Rattle.contract.proofs.FromNames.EqualLaws.{same_party_decides, same_token_decides}
use Rattle.contract.specs.declared.input.Input.{Input}
use Rattle.contract.specs.declared.input.Input.TheVariants.{Deposit, Notify}
use Rattle.contract.specs.declared.interval.Interval.{Interval}
use Rattle.contract.specs.declared.payment.Payment.{Payment}
use Rattle.contract.specs.declared.tree.Case.{Case}
use Rattle.contract.specs.Tree.{ValueTree, ObservationTree, ActionTree, deposit, notify, false_obs, action_tree}
use Rattle.contract.specs.States.States.{StateMaps}
use Rattle.semantics.specs.Evaluation.Evaluation.{eval, visited, holds}
use Rattle.semantics.specs.Applying.{agrees, matches, taken_numbers}
use Rattle.linear.specs.Linear.{Linear, number_at}
use Rattle.linear.proofs.NumberLaws.{both}
use Rattle.symbols.specs.Either.{IsAtLeast}
use Rattle.analysis_spec.specs.declared.kind.AlarmKind.{AlarmKind}
use Rattle.analysis_walk.specs.Limits.{Scope, Allowed}
use Rattle.analysis_walk.specs.Covered.{NoneTakes}
use Rattle.analysis_walk.specs.declared.conclusion.Conclusion.{Conclusion}
use Rattle.analysis_walk.specs.Conclusions.{ObservesSo, DepositsSo, NotifiesSo}
use Rattle.analysis_walk.specs.Knowledge.{actions_before}
use Rattle.analysis_walk.proofs.ListLaws.{all_left}
use Rattle.analysis_values.specs.Known.{Known, IsDescribed}
use Rattle.analysis_values.specs.Answered.{Evaluates, Decides}
use Rattle.analysis_steps.specs.Chosen.{IsIn, HasActions, IsEndOf}
use Rattle.analysis_steps.specs.Earlier.{AreEqual, TakesDeposit, IsDepositTaken, Tries, PutsIn, IsIgnored, IsRefused, IsIgnoredBy, IsNeverSo, IsNotifyTaken}
use Rattle.analysis_steps.proofs.MovedLemmas.{described_on, still_number}
use Rattle.analysis_steps.proofs.ConcludedLemmas.{some_led, some_is}
use Rattle.analysis_steps.proofs.ChosenLemmas.{has_actions}

-- what holds where a call ends well leads on
pub if_ok : {A E : Type 0} (P Q : A → Type 0) → ((x : A) → P x → Q x) → (r : Result A E) → IfOk r P → IfOk r Q
if_ok P Q f (Ok x) h = f x h
if_ok P Q f (Err e) h = h

-- ---- earlier cases

not_taken : (i : Interval) (s : StateMaps) (x : Input) (a : ActionTree) (es : List ActionTree) → NoneTakes i s x es → IsIn es a → matches i s x a ≡ false
not_taken i s x a [] h g = absurd g
not_taken i s x a (e ∷ es) h (inl g) = ap (matches i s x) g ∙ h.0
not_taken i s x a (e ∷ es) h (inr g) = not_taken i s x a es h.1 g

-- the action of a case among the last ones is one of all
pub one_of : (ks ls : List Case) (n : ℕ) (c : Case) → IsEndOf ks ls → n < length ls → c ≡ get_or ls n c → IsIn (actions_before ks) (action_tree c.action)
one_of ks ls n c e l is =
    let P : Case → Type 0 = λ k. IsIn (actions_before ks) (action_tree k.action) in
    subst P (sym is) (All-get_or P ls n c l (subst (All P) (sym e.1) (All-drop P e.0 ks (has_actions ks))))

-- ---- deposits

same_from : (x y m n : ℤ) → x ≡ m → y ≡ n → n ≤ℤ m → m ≤ℤ n → x ≡ y
same_from x y m n e f h k = omega (arith, ints)

pub equal_so : (k z w : Known) (v u : ValueTree) (l e : Linear) → Evaluates k v z l → Evaluates z u w e → IsAtLeast w.symbols l e → IsAtLeast w.symbols e l → AreEqual k v u
equal_so k z w v u l e f g h j scope i s ps d =
    let a = f.gives scope i s ps d in
    let b = g.gives scope i s ps (described_on scope k i s ps d z l (eval i s v) f.view a) in
    same_from (eval i s v) (eval i s u) (number_at b.values l) (number_at b.values e) (still_number z.symbols.next b.values a.values l (eval i s v) b.agrees a.below a.number) b.number (h b.values b.valued) (j b.values b.valued)

both_true : (a b : Bool) → a ≡ true → b ≡ true → a && b ≡ true
both_true true b e f = f
both_true false b e f = absurd (cc)

pub agree_so : (p q : Party) (t : Token) (b c : Party) (u : Token) (x y z : Bool) → (IsTrue x ↔ p ≡ b) → (IsTrue y ↔ q ≡ c) → (IsTrue z ↔ t ≡ u) → x && (y && z) ≡ true → agrees p q t b c u ≡ true
agree_so p q t b c u x y z i j k h =
    let f = both x (y && z) h in
    let g = both y z f.1 in
    both_true (same_party p b) _ ((same_party_decides p b).1 (i.0 f.0)) (both_true (same_party q c) (same_token t u) ((same_party_decides q c).1 (j.0 g.0)) ((same_token_decides t u).1 (k.0 g.1)))

pub takes_so : (k : Known) (p q : Party) (t : Token) (v : ValueTree) (a : ActionTree) (b c : Party) (u : Token) (w : ValueTree) → a ≡ deposit b c u w → agrees p q t b c u ≡ true → AreEqual k v w → TakesDeposit k a p q t v
takes_so k p q t v a b c u w is e same scope i s ps d =
    ap (matches i s (Deposit p q t (eval i s v))) is ∙ both_true (agrees p q t b c u) _ e ((Decides-int_eq (eval i s v) (eval i s w)).1 (same scope i s ps d))

pub deposit_taken : (k : Known) (es : List ActionTree) (a : ActionTree) (p q : Party) (t : Token) (v : ValueTree) → TakesDeposit k a p q t v → IsIn es a → IsDepositTaken k es p q t v
deposit_taken k es a p q t v takes one scope i s ps d z =
    let input = Deposit p q t (eval i s v) in
    let e : true ≡ false = sym (takes scope i s ps d) ∙ not_taken i s input a es z one in cc

pub tries_so : (k : Known) (es : List ActionTree) (p q : Party) (t : Token) (v : ValueTree) (x : Conclusion Known) → Tries k v x → IsDepositTaken k es p q t v → DepositsSo IsDescribed k es p q t v x
tries_so k es p q t v x tries taken scope i s ps d = (tries scope i s ps d, λ z. absurd (taken scope i s ps d z))

pub puts_so : (k : Known) (es : List ActionTree) (p q : Party) (t : Token) (v : ValueTree) (x : Conclusion Known) → PutsIn k p t v x → DepositsSo IsDescribed k es p q t v x
puts_so k es p q t v x puts scope i s ps d =
    let w = puts scope i s ps q d in
    (λ g. all_left (Allowed scope) (visited i s v) (taken_numbers s (Deposit p q t (eval i s v))) (w.numbers g), λ z. w)

-- ---- notifies

pub refused_so : (k : Known) (a : ActionTree) (o : ObservationTree) (one other : Option Known) → a ≡ notify o → Decides k o one other → IsRefused k a other
refused_so k a o one other is decides scope i s ps d h =
    let never : holds i s o ≡ false = ap (matches i s Notify) (sym is) ∙ h in
    subst (λ b. IsSomeAnd (cond b one other) (λ m. IsDescribed scope m i s ps)) never (some_led scope k i s ps d (cond (holds i s o) one other) (decides scope i s ps d))

pub never_so : (k : Known) (o : ObservationTree) (one other : Option Known) → Decides k o one other → is_none one ≡ true → IsNeverSo k o
never_so k o one other decides none scope i s ps d h =
    let some = subst (λ b. IsSomeAnd (cond b one other) (λ m. IsDescribed scope m i s ps)) h (some_led scope k i s ps d (cond (holds i s o) one other) (decides scope i s ps d)) in
    let e : true ≡ false = sym none ∙ some_is (λ m. IsDescribed scope m i s ps) one some in cc

-- with what is known where no case of some takes a notify, one more case
pub ignored_on : (k m : Known) (o : Option Known) (cases : List Case) (n : ℕ) (c : Case) → n < length cases → c ≡ get_or cases n c → IsIgnoredBy k cases (Some m) → IsRefused m (action_tree c.action) o → IsIgnoredBy k cases o
ignored_on k m o cases n c l is h r scope i s ps d all =
    let P : Case → Type 0 = λ k. IsIgnored i s (action_tree k.action) in
    r scope i s ps (h scope i s ps d all) (subst P (sym is) (All-get_or P cases n c l all))

all_ignored : (ks ls : List Case) (i : Interval) (s : StateMaps) → IsEndOf ks ls → NoneTakes i s Notify (actions_before ks) → All (λ (c : Case). IsIgnored i s (action_tree c.action)) ls
all_ignored ks ls i s e z =
    let P : Case → Type 0 = λ c. IsIgnored i s (action_tree c.action) in
    let Q : Case → Type 0 = λ c. IsIn (actions_before ks) (action_tree c.action) in
    subst (All P) (sym e.1) (All-drop P e.0 ks (All-weaker Q P (λ c g. not_taken i s Notify (action_tree c.action) (actions_before ks) z g) ks (has_actions ks)))

pub all_taken : (k : Known) (ks ls : List Case) (o : ObservationTree) → IsEndOf ks ls → IsIgnoredBy k ls None → IsNotifyTaken k (actions_before ks) o
all_taken k ks ls o e ignored scope i s ps d z h = ignored scope i s ps d (all_ignored ks ls i s e z)

pub rest_taken : (k m : Known) (ks ls : List Case) (o : ObservationTree) → IsEndOf ks ls → IsIgnoredBy k ls (Some m) → IsNeverSo m o → IsNotifyTaken k (actions_before ks) o
rest_taken k m ks ls o e ignored never scope i s ps d z h = never scope i s ps (ignored scope i s ps d (all_ignored ks ls i s e z)) h

-- none comes while what is false is true
pub notifies_false : (k : Known) (es : List ActionTree) (o : ObservationTree) (kinds : List AlarmKind) → o ≡ false_obs → NotifiesSo IsDescribed k es o (record { kinds = kinds; known = None })
notifies_false k es o kinds is = subst (λ (z : ObservationTree). NotifiesSo IsDescribed k es z (record { kinds = kinds; known = None })) (sym is) never
  where
    never : NotifiesSo IsDescribed k es false_obs (record { kinds = kinds; known = None })
    never scope i s ps d = (λ g. tt, λ z h. absurd (let u : false ≡ true = h in cc))

pub notifies_never : (k : Known) (es : List ActionTree) (o : ObservationTree) (kinds : List AlarmKind) (one other : Option Known) → ObservesSo IsDescribed k o (record { kinds = kinds; if_true = one; if_false = other }) → IsNotifyTaken k es o
    → NotifiesSo IsDescribed k es o (record { kinds = kinds; known = None })
notifies_never k es o kinds one other so taken scope i s ps d = ((so scope i s ps d).numbers, λ z h. absurd (taken scope i s ps d z h))

pub notifies_so : (k : Known) (es : List ActionTree) (o : ObservationTree) (kinds : List AlarmKind) (one other : Option Known) → ObservesSo IsDescribed k o (record { kinds = kinds; if_true = one; if_false = other })
    → NotifiesSo IsDescribed k es o (record { kinds = kinds; known = one })
notifies_so k es o kinds one other so scope i s ps d =
    let w = so scope i s ps d in
    (w.numbers, λ z h. record { warned = tt; numbers = w.numbers; known = λ a. subst (λ b. IsSomeAnd (cond b one other) (λ m. IsDescribed scope m i s ps)) h (w.known a) })
