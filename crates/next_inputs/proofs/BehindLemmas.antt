-- What follows a case that an input takes, once the account's sum fits.
use Rattle.std.proofs.Common.{◌≡◌, ℕ, suc, ℤ, pos, ◌+ℤ◌, int_lt, int_le, ◌<ℤ◌, arith, Bool, true, false, cond, ◌&&◌, List, [], ◌∷◌, ◌++◌, refl, sym, ap, ◌∙◌, Result, Ok, Err, is_ok, Option, Some, None}
use Rattle.std.specs.Prelude.{slice_get, option_map}
use Rattle.std.proofs.lemmas.Int.{ints}
use Rattle.std.specs.Option.{is_none}
use Rattle.std.specs.Result.{result_err}
use Rattle.std.specs.Int.{int_max}
use Rattle.contract.specs.Names.declared.party.Party.{Party}
use Rattle.contract.specs.Names.declared.token.Token.{Token}
use Rattle.contract.specs.declared.fault.SemFault.{SemFault}
use Rattle.contract.specs.declared.fault.SemFault.TheVariants.{InvalidInterval, IntervalInPast, Useless, Leaves128, Ambiguous}
use Rattle.contract.specs.declared.input.Input.{Input}
use Rattle.contract.specs.declared.input.Input.TheVariants.{Deposit, Choice, Notify}
use Rattle.contract.specs.declared.interval.Interval.{Interval}
use Rattle.contract.specs.States.States.{StateMaps, with_money}
use Rattle.contract.specs.Tree.{ActionTree, ContractTree, CaseTrees, close, when}
use Rattle.semantics.specs.Evaluation.Numbers.{fits, all_fit, within}
use Rattle.semantics.specs.Evaluation.Checked.{checked}
use Rattle.semantics.specs.Evaluation.Path.{waits_for}
use Rattle.semantics.proofs.FromEvaluation.Numbers.{all_fit_append}
use Rattle.semantics.specs.Walk.{Standing, standing, Walk, ended, joined, then_walk, answer_of}
use Rattle.semantics.specs.Reduction.{account_of, balance, timing_out}
use Rattle.semantics.specs.Settling.{reduction_then}
use Rattle.semantics.specs.Transaction.{trimmed, begun}
use Rattle.semantics.specs.Applying.{matches, tried, taken, taken_numbers, taking}
use Rattle.semantics.specs.Computed.{settled, first_match, first_match_index, tried_to_match, take_match, applied, one_input, computed}
use Rattle.semantics.proofs.Ends.{time_goes_on}
use Rattle.semantics.proofs.Walks.{ok_answer}
use Rattle.next_inputs.specs.Taking.{taken_case}
use Rattle.next_inputs.specs.Opening.{opening, case_from, next_case}
use Rattle.next_inputs.specs.Behind.{IsRefusedBehind}
use Rattle.next_inputs.specs.OpeningSupport.{SettlesAnyhow, refused_unless}
use Rattle.next_inputs.proofs.OneInput.{opened, as_opening, still, taken_match, answers_so}

abbrev Pair : Type 0
Pair = ActionTree × ContractTree

-- ---- where the reduction before the inputs leads

ok_same : (a b : Standing) → ◌≡◌ {A = Result Standing SemFault} (Ok a) (Ok b) → a ≡ b
ok_same a b e = cc

-- the minimum time there is the interval's start as it is fixed
opened_time : (i : Interval) (s : StateMaps) (c : ContractTree) (a : Standing) → answer_of (opening i s c) ≡ Ok a → a.state.min_time ≡ int_max i.from s.min_time
opened_time i s c a o = by (is_ok w.end && is_none (slice_get w.turns 0)) refl
  where
    w : Walk
    w = opening i s c

    end : w.end ≡ Ok a
    end = (ok_answer (all_fit w.numbers) w.end a o).1

    by : (b : Bool) → is_ok (opening i s c).end && is_none (slice_get (opening i s c).turns 0) ≡ b → a.state.min_time ≡ int_max i.from s.min_time
    by true e =
        let p = opened i s c a o in
        let q = still (trimmed i s) (begun i s) c (ap (λ (v : Walk). is_ok v.end && is_none (slice_get v.turns 0)) (sym p.2) ∙ e) in
        let here = ok_same (standing (begun i s) c) a (sym (ap answer_of q) ∙ p.1) in
        ap (λ (b : Standing). b.state.min_time) (sym here)
    by false e =
        (time_goes_on i s c [] a (ap (λ (v : Walk). v.end) (as_opening i s c) ∙ (ap (λ b. cond b (Err Useless) (opening i s c).end) e ∙ (ok_answer (all_fit (opening i s c).numbers) (opening i s c).end a o).1))).0

abbrev by_tests : Bool → Bool → Walk → Walk
by_tests b d w = cond b (ended (Err InvalidInterval)) (cond d (ended (Err IntervalInPast)) w)

-- an interval that is fixed doesn't end before it starts
fixed_well : (i : Interval) (s : StateMaps) (c : ContractTree) (a : Standing) → answer_of (opening i s c) ≡ Ok a → int_lt i.to (int_max i.from s.min_time) ≡ false
fixed_well i s c a o = by (int_lt i.to i.from) (int_lt i.to s.min_time) refl refl o
  where
    one : (t : Bool) → int_lt i.to i.from ≡ false → int_lt i.to s.min_time ≡ false → int_lt i.to (cond t i.from s.min_time) ≡ false
    one true h k = h
    one false h k = k

    by : (b d : Bool) → int_lt i.to i.from ≡ b → int_lt i.to s.min_time ≡ d → answer_of (by_tests b d (settled (trimmed i s) (begun i s) c)) ≡ Ok a → int_lt i.to (int_max i.from s.min_time) ≡ false
    by true d e f h = absurd (cc)
    by false true e f h = absurd (cc)
    by false false e f h = one _ e f

itself : (n : ℤ) → int_max n n ≡ n
itself n = by (int_lt n n)
  where
    by : (t : Bool) → cond t n n ≡ n
    by true = refl
    by false = refl

-- where the minimum time is its start, an interval is fixed already
fixed_already : (j : Interval) (s : StateMaps) (c : ContractTree) → s.min_time ≡ j.from → int_lt j.to j.from ≡ false → opening j s c ≡ settled j s c
fixed_already j s c e h =
    ap (λ b. by_tests b (int_lt j.to s.min_time) (settled (trimmed j s) (begun j s) c)) h
    ∙ (ap (λ b. by_tests false b (settled (trimmed j s) (begun j s) c)) (ap (int_lt j.to) e ∙ h)
    ∙ (ap (λ n. let k : Interval = record { from = n; to = j.to } in settled k (begun j s) c) start ∙ ap (λ n. let t : StateMaps = record s { min_time = n } in settled j t c) (start ∙ sym e)))
  where
    start : int_max j.from s.min_time ≡ j.from
    start = ap (int_max j.from) e ∙ itself j.from

-- an input keeps the minimum time
taken_time : (s : StateMaps) (x : Input) → (taken s x).min_time ≡ s.min_time
taken_time s (Deposit a p t n) = by (int_lt (pos 0) n)
  where
    by : (b : Bool) → (cond b (with_money s (account_of a t) (balance s a t +ℤ n)) s).min_time ≡ s.min_time
    by true = refl
    by false = refl
taken_time s (Choice id n) = refl
taken_time s Notify = refl

-- ---- the case

-- what is taken is the first match
found_case : (i : Interval) (s : StateMaps) (x : Input) (ks : List Pair) (n : ℕ) (k : Pair) → taken_case i s x ks ≡ Some n → slice_get ks n ≡ Some k → first_match i s x ks ≡ Some k.1
found_case i s x [] n k h g = absurd (cc)
found_case i s x (j ∷ ks) n k h g = by (all_fit (tried i s x j.0)) (matches i s x j.0) refl h (λ l e f. found_case i s x ks l k e f)
  where
    later : (o : Option ℕ) → option_map suc o ≡ Some n → taken_case i s x ks ≡ o → ((l : ℕ) → taken_case i s x ks ≡ Some l → slice_get ks l ≡ Some k → first_match i s x ks ≡ Some k.1) → first_match i s x ks ≡ Some k.1
    later None e f r = absurd (cc)
    later (Some l) e f r = let z : suc l ≡ n = cc in r l f (ap (slice_get (j ∷ ks)) z ∙ g)

    by : (b m : Bool) → matches i s x j.0 ≡ m → cond b (cond m (Some 0) (option_map suc (taken_case i s x ks))) None ≡ Some n
        → ((l : ℕ) → taken_case i s x ks ≡ Some l → slice_get ks l ≡ Some k → first_match i s x ks ≡ Some k.1) → first_match i s x (j ∷ ks) ≡ Some k.1
    by true true m e r =
        let z : ◌≡◌ {A = ℕ} 0 n = cc in
        let f : ◌≡◌ {A = Option Pair} (Some j) (Some k) = ap (slice_get (j ∷ ks)) z ∙ g in
        ap (λ b. cond b (Some j.1) (first_match i s x ks)) m ∙ ap (option_map (λ (q : Pair). q.1)) f
    by true false m e r = ap (λ b. cond b (Some j.1) (first_match i s x ks)) m ∙ later (taken_case i s x ks) e refl r
    by false m f e r = absurd (cc)

-- the input takes it, and the contract settles again
one_at : (j : Interval) (x : Input) (a : Standing) (d : ContractTree) → first_match j a.state x (waits_for a.contract) ≡ Some d
    → one_input j x a ≡ joined (taking a.state x (tried_to_match j a.state x (waits_for a.contract)) (first_match_index j a.state x (waits_for a.contract)) d) (settled j (taken a.state x) d)
unfolding one_input applied
one_at j x a d e =
    ap (λ f. then_walk (take_match a.state x (tried_to_match j a.state x (waits_for a.contract)) (first_match_index j a.state x (waits_for a.contract)) f) (λ b. settled j b.state b.contract)) e

-- so it is refused where the account's sum leaves, or what follows is
joined_answer : (ns ms : List ℤ) (w : Walk) → all_fit ns ≡ true → cond (all_fit ((ns ++ ms) ++ w.numbers)) w.end (Err Leaves128) ≡ cond (all_fit ms) (answer_of w) (Err Leaves128)
joined_answer ns ms w h =
    ap (λ b. cond b w.end (Err Leaves128)) (all_fit_append (ns ++ ms) w.numbers ∙ ap (λ b. b && all_fit w.numbers) (all_fit_append ns ms ∙ ap (λ b. b && all_fit ms) h))
    ∙ by (all_fit ms)
  where
    by : (b : Bool) → cond (b && all_fit w.numbers) w.end (Err Leaves128) ≡ cond b (answer_of w) (Err Leaves128)
    by true = refl
    by false = refl

module _ (j : Interval) (s : StateMaps) (c : ContractTree) (n : ℕ) (x : Input) (i : Interval) (from : StateMaps) (whole : ContractTree) (o : answer_of (opening i from whole) ≡ Ok (standing s c)) (t : trimmed i from ≡ j) (next : next_case i from whole x ≡ Some n) where
  takes_it : taken_case j s x (waits_for c) ≡ Some n
  takes_it = ap (λ (h : Interval). taken_case h s x (waits_for c)) (sym t) ∙ (sym (ap (case_from (trimmed i from) x) o) ∙ next)

  time_well : ((taken s x).min_time ≡ j.from) × (int_lt j.to j.from ≡ false)
  time_well =
      let a = standing s c in
      (taken_time s x ∙ (opened_time i from whole a o ∙ ap (λ (h : Interval). h.from) t), ap (λ (h : Interval). int_lt h.to h.from) (sym t) ∙ fixed_well i from whole a o)

  behind_settled : (d : ContractTree) → first_match j s x (waits_for c) ≡ Some d → answer_of (computed i from whole (x ∷ [])) ≡ cond (all_fit (taken_numbers s x)) (answer_of (settled j (taken s x) d)) (Err Leaves128)
  behind_settled d e =
      let a = standing s c in
      let ks = waits_for c in
      answers_so i from whole x a o
      ∙ (ap (λ (h : Interval). answer_of (one_input h x a)) t
      ∙ (ap answer_of (one_at j x a d e)
      ∙ joined_answer (tried_to_match j s x ks) (taken_numbers s x) (settled j (taken s x) d) (taken_match j s x ks n takes_it).2))

  behind_answer : (d : ContractTree) → first_match j s x (waits_for c) ≡ Some d → answer_of (computed i from whole (x ∷ [])) ≡ cond (all_fit (taken_numbers s x)) (answer_of (opening j (taken s x) d)) (Err Leaves128)
  behind_answer d e = behind_settled d e ∙ ap (λ w. cond (all_fit (taken_numbers s x)) (answer_of w) (Err Leaves128)) (sym (fixed_already j (taken s x) d time_well.0 time_well.1))

-- ---- what the code tells

sum_leaves : (b : Bool) (t : StateMaps) (f : SemFault) (r : Result Standing SemFault) → cond b (Ok t) (Err Leaves128) ≡ Err f → Some f ≡ result_err (cond b r (Err Leaves128))
sum_leaves true t f r h = absurd (cc)
sum_leaves false t f r h = let e : Leaves128 ≡ f = cc in ap (λ (g : SemFault). let o : Option SemFault = Some g in o) (sym e)

-- a number leaves as the input is taken
pub refused_at_once : (j : Interval) (s : StateMaps) (c : ContractTree) (n : ℕ) (x : Input) (f : SemFault) → within (taken_numbers s x) (taken s x) ≡ Err f → IsRefusedBehind j s c n x (Some f)
refused_at_once j s c n x f h i from whole o t next =
    let m = (taken_match j s x (waits_for c) n (takes_it j s c n x i from whole o t next)).1 in
    sum_leaves (all_fit (taken_numbers s x)) (taken s x) f (answer_of (opening j (taken s x) m.0)) h ∙ ap result_err (sym (behind_answer j s c n x i from whole o t next m.0 m.1))

sum_fits : (b : Bool) (t u : StateMaps) (r : Result Standing SemFault) → cond b (Ok t) (Err Leaves128) ≡ Ok u → (u ≡ t) × (r ≡ cond b r (Err Leaves128))
sum_fits true t u r h = let e : u ≡ t = cc in (e, refl)
sum_fits false t u r h = absurd (cc)

-- or what follows is refused
pub refused_later : (j : Interval) (s : StateMaps) (c : ContractTree) (n : ℕ) (x : Input) (k : Pair) (t : StateMaps) (f : Option SemFault) → slice_get (waits_for c) n ≡ Some k → within (taken_numbers s x) (taken s x) ≡ Ok t
    → f ≡ result_err (answer_of (opening j t k.1)) → IsRefusedBehind j s c n x f
refused_later j s c n x k t f found h g i from whole o l next =
    let m = found_case j s x (waits_for c) n k (takes_it j s c n x i from whole o l next) found in
    let e = sum_fits (all_fit (taken_numbers s x)) (taken s x) t (answer_of (opening j (taken s x) k.1)) h in
    g ∙ (ap (λ (y : StateMaps). result_err (answer_of (opening j y k.1))) e.0 ∙ (ap result_err e.1 ∙ ap result_err (sym (behind_answer j s c n x i from whole o l next k.1 m))))

-- ---- where what follows has settled

before : (n t : ℤ) → n <ℤ t → int_lt n t ≡ true
before n t h = grind (arith, ints)

pub close_settles : (j : Interval) (d : ContractTree) → d ≡ close → SettlesAnyhow j d
close_settles j d e s = ap (λ (c : ContractTree). result_err (answer_of (settled j s c))) e

pub waiting_settles : (j : Interval) (d : ContractTree) (ks : CaseTrees) (timeout : ℤ) (c : ContractTree) → d ≡ when ks timeout c → j.to <ℤ timeout → SettlesAnyhow j d
waiting_settles j d ks timeout c e h s =
    ap (λ (c : ContractTree). result_err (answer_of (settled j s c))) e
    ∙ ap (λ b. result_err (answer_of (cond b (ended (Ok (standing s (when ks timeout c)))) (cond (int_le timeout j.from) (reduction_then (timing_out s c) (settled j s c)) (ended (Err Ambiguous)))))) (before j.to timeout h)

sum_alone : (b : Bool) (r : Result Standing SemFault) → result_err r ≡ None → refused_unless b ≡ result_err (cond b r (Err Leaves128))
sum_alone true r h = sym h
sum_alone false r h = refl

-- only the account's sum can leave
pub refused_at_rest : (j : Interval) (s : StateMaps) (c : ContractTree) (n : ℕ) (x : Input) (k : Pair) (f : Option SemFault) → slice_get (waits_for c) n ≡ Some k → SettlesAnyhow j k.1
    → f ≡ refused_unless (all_fit (taken_numbers s x)) → IsRefusedBehind j s c n x f
refused_at_rest j s c n x k f found rests e i from whole o l next =
    let m = found_case j s x (waits_for c) n k (takes_it j s c n x i from whole o l next) found in
    e ∙ (sum_alone (all_fit (taken_numbers s x)) (answer_of (settled j (taken s x) k.1)) (rests (taken s x)) ∙ ap result_err (sym (behind_settled j s c n x i from whole o l next k.1 m)))

-- the sum that a deposit makes
told_of : (b : Bool) (z : ℤ) → result_err (cond b (Ok z) (Err Leaves128)) ≡ refused_unless (b && true)
told_of true z = refl
told_of false z = refl

pub added : (held n : ℤ) (r : Result ℤ SemFault) (o : Option SemFault) → o ≡ result_err r → r ≡ checked (held +ℤ n) → int_lt (pos 0) n ≡ true → o ≡ refused_unless (all_fit (cond (int_lt (pos 0) n) ((held +ℤ n) ∷ []) []))
unfolding checked
added held n r o f g above =
    f ∙ (ap result_err g ∙ (told_of (fits (held +ℤ n)) (held +ℤ n) ∙ sym (ap (λ b. refused_unless (all_fit (cond b ((held +ℤ n) ∷ []) []))) above)))

pub not_added : (held n : ℤ) → int_lt (pos 0) n ≡ false → None ≡ refused_unless (all_fit (cond (int_lt (pos 0) n) ((held +ℤ n) ∷ []) []))
not_added held n h = sym (ap (λ b. refused_unless (all_fit (cond b ((held +ℤ n) ∷ []) []))) h)
