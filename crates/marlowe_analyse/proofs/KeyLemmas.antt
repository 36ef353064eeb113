-- Alarms of one key are one.
use Rattle.std.proofs.Common.{◌≡◌, ℕ, ◌≤◌, ◌==◌, cond, List, [], ◌∷◌, ◌++◌, append_assoc, refl, sym, ap, ◌∙◌, arith}
use Rattle.std.specs.Prelude.{flat_map}
use Rattle.analysis_spec.specs.declared.kind.AlarmKind.{AlarmKind}
use Rattle.analysis_spec.specs.declared.kind.AlarmKind.TheVariants.{NonPositiveDeposit, NonPositivePay, PartialPay, Shadowing, AssertionFailed, Leaves128}
use Rattle.analysis_spec.specs.declared.path.PathStep.{PathStep}
use Rattle.analysis_spec.specs.declared.path.PathStep.TheVariants.{Then, Else, TimeoutContinuation, Case, Action}
use Rattle.analysis_spec.specs.declared.alarm.Alarm.{Alarm}
use Rattle.marlowe_analyse.specs.Order.{kind_rank, step_key, place_key, alarm_key, IsBelow}

-- the kind of a rank, and the step of its numbers
abbrev kind_at : ℕ → AlarmKind
kind_at n = cond (n == 0) NonPositiveDeposit (cond (n == 1) NonPositivePay (cond (n == 2) PartialPay (cond (n == 3) Shadowing (cond (n == 4) AssertionFailed Leaves128))))

kind_again : (k : AlarmKind) → kind_at (kind_rank k) ≡ k
kind_again NonPositiveDeposit = refl
kind_again NonPositivePay = refl
kind_again PartialPay = refl
kind_again Shadowing = refl
kind_again AssertionFailed = refl
kind_again Leaves128 = refl

low : (k : AlarmKind) → kind_rank k ≤ 5
low NonPositiveDeposit = omega arith
low NonPositivePay = omega arith
low PartialPay = omega arith
low Shadowing = omega arith
low AssertionFailed = omega arith
low Leaves128 = omega arith

abbrev form_of : PathStep → ℕ
form_of Then = 6
form_of Else = 7
form_of (Action n) = 8
form_of (Case n) = 8
form_of TimeoutContinuation = 9

abbrev index_of : PathStep → ℕ
index_of (Action n) = n
index_of (Case n) = n
index_of p = 0

abbrev behind_of : PathStep → ℕ
behind_of (Case n) = 1
behind_of p = 0

parts : (p : PathStep) → step_key p ≡ form_of p ∷ index_of p ∷ behind_of p ∷ []
parts Then = refl
parts Else = refl
parts (Action n) = refl
parts (Case n) = refl
parts TimeoutContinuation = refl

abbrev step_at : ℕ → ℕ → ℕ → PathStep
step_at f n b = cond (f == 6) Then (cond (f == 7) Else (cond (f == 9) TimeoutContinuation (cond (b == 0) (Action n) (Case n))))

step_again : (p : PathStep) → step_at (form_of p) (index_of p) (behind_of p) ≡ p
step_again Then = refl
step_again Else = refl
step_again (Action n) = refl
step_again (Case n) = refl
step_again TimeoutContinuation = refl

high : (p : PathStep) → 6 ≤ form_of p
high Then = omega arith
high Else = omega arith
high (Action n) = omega arith
high (Case n) = omega arith
high TimeoutContinuation = omega arith

heads : (x y : ℕ) (xs ys : List ℕ) → x ∷ xs ≡ y ∷ ys → (x ≡ y) × (xs ≡ ys)
heads x y xs ys e = (cc, cc)

abbrev spread : PathStep → List ℕ → List ℕ
spread p ns = form_of p ∷ index_of p ∷ behind_of p ∷ ns

-- the steps and the kind that numbers come from
abbrev key_of : List PathStep → AlarmKind → List ℕ
key_of ps k = flat_map step_key ps ++ kind_rank k ∷ []

first_step : (p : PathStep) (ps : List PathStep) (k : AlarmKind) → key_of (p ∷ ps) k ≡ spread p (key_of ps k)
first_step p ps k = ap (λ ns. (ns ++ flat_map step_key ps) ++ kind_rank k ∷ []) (parts p)

apart : (p : PathStep) (k : AlarmKind) → kind_rank k ≡ form_of p → ⊥
apart p k e = omega (arith, e, low k, high p)

same : (ps qs : List PathStep) (k l : AlarmKind) → key_of ps k ≡ key_of qs l → (ps ≡ qs) × (k ≡ l)
same [] [] k l e = (refl, sym (kind_again k) ∙ (ap kind_at (heads (kind_rank k) (kind_rank l) [] [] e).0 ∙ kind_again l))
same [] (q ∷ qs) k l e = absurd (apart q k (heads (kind_rank k) (form_of q) [] _ (e ∙ first_step q qs l)).0)
same (p ∷ ps) [] k l e = absurd (apart p l (sym (heads (form_of p) (kind_rank l) _ [] (sym (first_step p ps k) ∙ e)).0))
same (p ∷ ps) (q ∷ qs) k l e =
    let a = heads _ _ _ _ (sym (first_step p ps k) ∙ (e ∙ first_step q qs l)) in
    let b = heads _ _ _ _ a.1 in
    let d = heads _ _ _ _ b.1 in
    let rest = same ps qs k l d.1 in
    let first : p ≡ q =
    sym (step_again p) ∙ (ap (λ f. step_at f (index_of p) (behind_of p)) a.0 ∙ (ap (λ n. step_at (form_of q) n (behind_of p)) b.0 ∙ (ap (step_at (form_of q) (index_of q)) d.0 ∙ step_again q))) in
    (ap (λ x. x ∷ ps) first ∙ ap (λ xs. q ∷ xs) rest.0, rest.1)

pub same_alarm_by_key : (a b : Alarm) → alarm_key a ≡ alarm_key b → a ≡ b
same_alarm_by_key a b e =
    let h = same a.place b.place a.kind b.kind e in
    ap (λ (k : AlarmKind). let x : Alarm = record { kind = k; place = a.place } in x) h.1 ∙ ap (λ (p : List PathStep). let x : Alarm = record { kind = b.kind; place = p } in x) h.0

-- ---- places whose numbers begin alike

first_numbers : (p : PathStep) (ps : List PathStep) (ns : List ℕ) → place_key (p ∷ ps) ++ ns ≡ spread p (place_key ps ++ ns)
first_numbers p ps ns = ap (λ ms. (ms ++ place_key ps) ++ ns) (parts p)

no_numbers : (ns : List ℕ) → ns ++ [] ≡ ns
no_numbers [] = refl
no_numbers (n ∷ ns) = ap (λ ms. n ∷ ms) (no_numbers ns)

pub below_by_key : (ps qs : List PathStep) (ns : List ℕ) → place_key qs ≡ place_key ps ++ ns → IsBelow ps qs
below_by_key [] qs ns e = (qs, refl)
below_by_key (p ∷ ps) [] ns e = absurd (let q : [] ≡ spread p (place_key ps ++ ns) = e ∙ first_numbers p ps ns in cc)
below_by_key (p ∷ ps) (q ∷ qs) ns e =
    let a = heads _ _ _ _ (sym (first_numbers q qs []) ∙ (no_numbers (place_key (q ∷ qs)) ∙ (e ∙ first_numbers p ps ns))) in
    let b = heads _ _ _ _ a.1 in
    let d = heads _ _ _ _ b.1 in
    let rest = below_by_key ps qs ns (sym (no_numbers (place_key qs)) ∙ d.1) in
    let first : q ≡ p =
    sym (step_again q) ∙ (ap (λ f. step_at f (index_of q) (behind_of q)) a.0 ∙ (ap (λ n. step_at (form_of p) n (behind_of q)) b.0 ∙ (ap (step_at (form_of p) (index_of p)) d.0 ∙ step_again p))) in
    (rest.0, ap (λ x. x ∷ qs) first ∙ ap (λ xs. p ∷ xs) rest.1)

-- and of those below others
pub key_below : (ps path : List PathStep) → place_key (ps ++ path) ≡ place_key ps ++ place_key path
key_below [] path = refl
key_below (p ∷ ps) path = ap (λ ns. step_key p ++ ns) (key_below ps path) ∙ sym (append_assoc (step_key p) (place_key ps) (place_key path))
