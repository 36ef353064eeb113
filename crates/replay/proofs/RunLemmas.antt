-- Runs that end in an alarm at its place.
use Rattle.std.proofs.Common.{◌≡◌, ℕ, suc, int_lt, Bool, true, false, cond, List, [], ◌∷◌, ◌++◌, refl, sym, ap, ◌∙◌, subst, Result, Ok, Err, IsOk, IfOk}
use Rattle.std.specs.Result.{result_unwrap_or}
use Rattle.contract.specs.declared.fault.SemFault.{SemFault}
use Rattle.contract.specs.declared.fault.SemFault.TheVariants.{InvalidInterval, IntervalInPast}
use Rattle.contract.specs.declared.interval.Interval.{Interval}
use Rattle.contract.specs.declared.transaction.Transaction.{Transaction}
use Rattle.contract.specs.Tree.{ContractTree}
use Rattle.contract.specs.States.States.{StateMaps}
use Rattle.semantics.specs.Walk.{Standing, standing, Walk, answer_of}
use Rattle.semantics.specs.Transaction.{trimmed}
use Rattle.semantics.specs.Reduced.{fixed}
use Rattle.analysis_spec.specs.declared.kind.AlarmKind.{AlarmKind}
use Rattle.analysis_spec.specs.declared.kind.AlarmKind.TheVariants.{NonPositiveDeposit, NonPositivePay, PartialPay, Shadowing, AssertionFailed, Leaves128}
use Rattle.analysis_spec.specs.declared.path.PathStep.{PathStep}
use Rattle.analysis_spec.specs.Runs.{walk_from}
use Rattle.analysis_spec.specs.Marks.{Mark, led, led_with, leads_after, marks_from, marks_of}
use Rattle.analysis_spec.specs.Promises.{HasKind}
use Rattle.analysis_spec.specs.CounterRuns.{Tells}
use Rattle.analysis_spec.specs.PlacedRuns.{TellsAt, EndsFrom}
use Rattle.trace.specs.Traces.{left_then, left_by}

-- a transaction that is accepted and warns
pub warned : (kind : AlarmKind) (w : Walk) → IsOk (answer_of w) → (kind ≡ Leaves128 → ⊥) × HasKind kind w.warnings → Tells kind w
warned NonPositiveDeposit w h k = (h, k.1)
warned NonPositivePay w h k = (h, k.1)
warned PartialPay w h k = (h, k.1)
warned Shadowing w h k = (h, k.1)
warned AssertionFailed w h k = (h, k.1)
warned Leaves128 w h k = absurd (k.0 refl)

-- one transaction more, before a run that ends so
one_more : (kind : AlarmKind) (place here : List PathStep) (a : Standing) (t : Transaction) (b : Standing) (ts : List Transaction) → answer_of (walk_from a t) ≡ Ok b
    → EndsFrom kind place (led here (walk_from a t).turns) b ts → EndsFrom kind place here a (t ∷ ts)
one_more kind place here a t b [] e h = absurd h
one_more kind place here a t b (u ∷ us) e h = (
  subst (λ (r : Result Standing SemFault). IsOk r) (sym e) refl,
  subst (λ (r : Result Standing SemFault). EndsFrom kind place (led_with r here (walk_from a t).turns) (result_unwrap_or r a) (u ∷ us)) (sym e) h,
)

-- a run by which the last transaction tells of an alarm at its place
pub ends_with : (kind : AlarmKind) (place here : List PathStep) (n : ℕ) (a b : Standing) (ts : List Transaction) (last : Transaction) → left_by n a ts ≡ Ok b → TellsAt kind place (leads_after here a ts) b last
    → EndsFrom kind place here a (ts ++ last ∷ [])
ends_with kind place here n a b [] last h k =
    let e : a ≡ b = cc in
    subst (λ z. TellsAt kind place here z last) (sym e) k
ends_with kind place here n a b (t ∷ ts) last h k =
    by (answer_of (walk_from a t)) refl h k (λ there c g q. ends_with kind place there (suc n) c b ts last g q)
  where
    by : (r : Result Standing SemFault) → answer_of (walk_from a t) ≡ r → left_then r n (λ c. left_by (suc n) c ts) ≡ Ok b
        → TellsAt kind place (leads_after (led_with (answer_of (walk_from a t)) here (walk_from a t).turns) (result_unwrap_or (answer_of (walk_from a t)) a) ts) b last
        → ((there : List PathStep) (c : Standing) → left_by (suc n) c ts ≡ Ok b → TellsAt kind place (leads_after there c ts) b last → EndsFrom kind place there c (ts ++ last ∷ []))
        → EndsFrom kind place here a (t ∷ (ts ++ last ∷ []))
    by (Err f) q g m rec = absurd (cc)
    by (Ok c) q g m rec =
        let there = led here (walk_from a t).turns in
        one_more kind place here a t c (ts ++ last ∷ []) q
        (rec there c g (subst (λ (r : Result Standing SemFault). TellsAt kind place (leads_after (led_with r here (walk_from a t).turns) (result_unwrap_or r a) ts) b last) q m))

-- ---- the interval of a transaction

abbrev by_tests : Bool → Bool → List Mark → List Mark
by_tests b d ms = cond b [] (cond d [] ms)

abbrev by_fix : Bool → Bool → Interval → Result Interval SemFault
by_fix b d i = cond b (Err InvalidInterval) (cond d (Err IntervalInPast) (Ok i))

pub fixed_marks : (here : List PathStep) (s : StateMaps) (c : ContractTree) (t : Transaction) (j : Interval) (u : StateMaps) → Ok j ≡ fixed t.interval s → u ≡ record s { min_time = j.from } → marks_of here (standing s c) t ≡ marks_from here j u c t.inputs
fixed_marks here s c t j u h k = by (int_lt t.interval.to t.interval.from) (int_lt t.interval.to s.min_time) h
  where
    by : (b d : Bool) → Ok j ≡ by_fix b d (trimmed t.interval s)
        → by_tests b d (marks_from here (trimmed t.interval s) (record s { min_time = (trimmed t.interval s).from }) c t.inputs) ≡ marks_from here j u c t.inputs
    by true d h = absurd (cc)
    by false true h = absurd (cc)
    by false false h =
        let e : trimmed t.interval s ≡ j = cc in
        ap (λ (x : Interval). marks_from here x (record s { min_time = x.from }) c t.inputs) e ∙ ap (λ v. marks_from here j v c t.inputs) (sym k)

-- ---- answers

-- what is so where a call says yes
pub on_yes : {E P Q : Type 0} (r : Result Bool E) → (P → Q) → IfOk r (λ yes. yes ≡ true → P) → IfOk r (λ yes. yes ≡ true → Q)
on_yes (Ok b) f h = λ e. f (h e)
on_yes (Err g) f h = tt
