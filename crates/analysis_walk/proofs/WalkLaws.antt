-- A walk over a contract, step by step: what is concluded at a place, and covered from there on.
use Rattle.std.proofs.Common.{◌≡◌, ◌≢◌, ℕ, suc, ℤ, Bool, true, false, cond, ◌&&◌, List, [], ◌∷◌, ◌++◌, refl, sym, subst, Option, Some, None, IfSome, ◌⊎◌, inl, inr}
use Rattle.std.proofs.lemmas.List.{append-nil}
use Rattle.std.proofs.lemmas.Bool.Decides.{Decides-int_eq}
use Rattle.std.specs.List.{list_any, AllByRecursion}
use Rattle.std.specs.Option.{IsSomeAnd}
use Rattle.std.specs.Ordering.{int_eq}
use Rattle.std.specs.FinMap.{insert}
use Rattle.contract.specs.Names.declared.party.Party.{Party}
use Rattle.contract.specs.Names.declared.payee.Payee.{Payee}
use Rattle.contract.specs.Names.declared.token.Token.{Token}
use Rattle.contract.specs.Names.declared.bound.Bound.{Bound}
use Rattle.contract.specs.Names.declared.choice_id.ChoiceId.{ChoiceId}
use Rattle.contract.specs.Names.Equal.{same_party, same_token, same_choice_id}
use Rattle.contract.proofs.FromNames.EqualLaws.{same_party_decides, same_token_decides, same_choice_id_decides}
use Rattle.contract.specs.declared.input.Input.{Input}
use Rattle.contract.specs.declared.input.Input.TheVariants.{Deposit, Choice, Notify}
use Rattle.contract.specs.declared.interval.Interval.{Interval}
use Rattle.contract.specs.declared.payment.Payment.{Payment}
use Rattle.contract.specs.declared.warning.Warning.{Warning}
use Rattle.contract.specs.Tree.{ValueTree, ObservationTree, ActionTree, deposit, choice, notify, ContractTree, CaseTrees, close, pay, if_obs, when, let_be, assert, no_cases, case_then}
use Rattle.contract.specs.States.States.{StateMaps}
use Rattle.semantics.specs.Evaluation.Evaluation.{eval, visited, holds, looked}
use Rattle.semantics.specs.Reduction.{binding, asserting}
use Rattle.semantics.specs.Applying.{agrees, in_bound, matches, tried, taken, taken_numbers, taken_warnings}
use Rattle.semantics.specs.Computed.{pay_step}
use Rattle.analysis_spec.specs.declared.kind.AlarmKind.{AlarmKind}
use Rattle.analysis_spec.specs.declared.kind.AlarmKind.TheVariants.{NonPositiveDeposit, NonPositivePay, PartialPay, Shadowing, AssertionFailed, Leaves128}
use Rattle.analysis_spec.specs.Promises.{kind_of}
use Rattle.analysis_spec.specs.declared.alarm.Alarm.{Alarm}
use Rattle.analysis_spec.specs.declared.paid.PaidRange.{PaidRange}
use Rattle.analysis_spec.specs.declared.path.PathStep.{PathStep}
use Rattle.analysis_spec.specs.declared.path.PathStep.TheVariants.{Then, Else, TimeoutContinuation, Case, Action}
use Rattle.analysis_walk.specs.Limits.{Limits, Scope, any_runs, written_runs, Allowed, GoesOn, HasAlarm, AreVisited, limits}
use Rattle.analysis_walk.specs.Covered.{NoneTakes, Keeps, KeepsThen, CoversAction, Covers, CoversFrom}
use Rattle.analysis_walk.specs.declared.conclusion.Conclusion.{Conclusion}
use Rattle.analysis_walk.specs.declared.conclusion.Branches.{Branches}
use Rattle.analysis_walk.specs.Conclusions.{IsAmong, Description, Concludes, PaysSo, BindsSo, AssertsSo, ObservesSo, DepositsSo, ChoosesSo, NotifiesSo, IsLater, WaitsSo, TimesOutSo, ClosesIn, DescribesStart}
use Rattle.analysis_walk.specs.Walked.{alarms_at, AreAmong, IsCovered, AreCovered}
use Rattle.analysis_walk.proofs.ListLaws.{both, all_left, all_right, all_weaker}

-- an input that matches a deposit is of its account, its party, its token and its amount
pub same_deposit : (a p : Party) (t : Token) (n : ℤ) (b q : Party) (u : Token) (m : ℤ) → agrees a p t b q u && int_eq n m ≡ true → (b ≡ a) × (q ≡ p) × (u ≡ t) × (m ≡ n)
same_deposit a p t n b q u m h =
    let f = both (agrees a p t b q u) (int_eq n m) h in
    let g = both (same_party a b) (same_party p q && same_token t u) f.0 in
    let l = both (same_party p q) (same_token t u) g.1 in
    (sym ((same_party_decides a b).0 g.0), sym ((same_party_decides p q).0 l.0), sym ((same_token_decides t u).0 l.1), sym ((Decides-int_eq n m).0 f.1))

-- ---- alarms

told_kind : (alarms : List Alarm) (here : List PathStep) (kinds : List AlarmKind) → AreAmong alarms (alarms_at here kinds) → (kind : AlarmKind) → IsAmong kinds kind → HasAlarm alarms here kind
told_kind alarms here [] h kind k = absurd k
told_kind alarms here (x ∷ xs) h kind (inl e) = subst (HasAlarm alarms here) (sym e) h.0
told_kind alarms here (x ∷ xs) h kind (inr k) = told_kind alarms here xs h.1 kind k

leaves_or_not : (kind : AlarmKind) → (kind ≡ Leaves128) ⊎ (kind ≢ Leaves128)
leaves_or_not NonPositiveDeposit = inr (λ e. cc)
leaves_or_not NonPositivePay = inr (λ e. cc)
leaves_or_not PartialPay = inr (λ e. cc)
leaves_or_not Shadowing = inr (λ e. cc)
leaves_or_not AssertionFailed = inr (λ e. cc)
leaves_or_not Leaves128 = inl refl

-- an alarm that numbers leave 128 bits is among these kinds, or runs go on behind all of them
leaving : (kinds : List AlarmKind) → IsAmong kinds Leaves128 ⊎ AllByRecursion (λ kind. kind ≢ Leaves128) kinds
leaving [] = inr tt
leaving (x ∷ xs) = by_kind (leaves_or_not x) (leaving xs)
  where
    by_kind : (x ≡ Leaves128) ⊎ (x ≢ Leaves128) → IsAmong xs Leaves128 ⊎ AllByRecursion (λ kind. kind ≢ Leaves128) xs → IsAmong (x ∷ xs) Leaves128 ⊎ AllByRecursion (λ kind. kind ≢ Leaves128) (x ∷ xs)
    by_kind (inl e) l = inl (inl (sym e))
    by_kind (inr f) (inl k) = inl (inr k)
    by_kind (inr f) (inr z) = inr (f, z)

-- the numbers of a step are allowed, or an alarm stands there
visits : (scope : Scope) (alarms : List Alarm) (here : List PathStep) (kinds : List AlarmKind) (ns : List ℤ) → AreAmong alarms (alarms_at here kinds) → (GoesOn scope kinds → AllByRecursion (Allowed scope) ns) → AreVisited scope alarms here ns
visits any_runs alarms here kinds ns told h = inl (h tt)
visits written_runs alarms here kinds ns told h = by_kinds (leaving kinds)
  where
    by_kinds : IsAmong kinds Leaves128 ⊎ AllByRecursion (λ kind. kind ≢ Leaves128) kinds → AreVisited written_runs alarms here ns
    by_kinds (inl k) = inr (told_kind alarms here kinds told Leaves128 k)
    by_kinds (inr z) = inl (h z)

-- ---- a walk, step by step

module _ {K : Type 0} (Describes : Description K) (alarms : List Alarm) (ranges : List PaidRange) where
  -- what follows where something is known
  abbrev pub IfCovered : List PathStep → Option K → ContractTree → Type 0
  IfCovered here o c = IfSome o (λ m. IsCovered Describes alarms ranges here m c)

  some_known : (P Q : K → Type 0) (o : Option K) → IfSome o Q → IsSomeAnd o P → (m : K) × P m × Q m
  some_known P Q None h k = absurd k
  some_known P Q (Some m) h k = (m, k, h)

  module _ (scope : Scope) where
    -- what a step visits and warns of keeps the limits
    keeps : (here : List PathStep) (x : Conclusion K) (i : Interval) (ns : List ℤ) (ws : List Warning) (s : StateMaps) (ps : List Payment) → Concludes Describes scope x i ns ws s ps → AreAmong alarms (alarms_at here x.kinds)
        → Keeps (limits scope alarms ranges) here ns ws
    keeps here x i ns ws s ps h told =
        (visits scope alarms here x.kinds ns told h.numbers, all_weaker (λ w. IsAmong x.kinds (kind_of w)) (λ w. HasAlarm alarms here (kind_of w)) (λ w m. told_kind alarms here x.kinds told (kind_of w) m) ws h.warned)

    -- and what follows is covered
    goes : (here : List PathStep) (Q : K → Type 0) (x : Conclusion K) (i : Interval) (ns : List ℤ) (ws : List Warning) (s : StateMaps) (ps : List Payment) → Concludes Describes scope x i ns ws s ps
        → IfSome x.known Q → AllByRecursion (Allowed scope) ns → (m : K) × Describes scope m i s ps × Q m
    goes here Q x i ns ws s ps h k a = some_known (λ m. Describes scope m i s ps) Q x.known k (h.known a)

  pub close_covered : (here : List PathStep) (k : K) → ClosesIn Describes k ranges → IsCovered Describes alarms ranges here k close
  close_covered here k h scope i s ps d = h scope i s ps d

  pub pay_covered : (here : List PathStep) (k : K) (p : Party) (y : Payee) (t : Token) (v : ValueTree) (c : ContractTree) (x : Conclusion K) → PaysSo Describes k p y t v x → AreAmong alarms (alarms_at here x.kinds)
      → IfCovered (here ++ Then ∷ []) x.known c → IsCovered Describes alarms ranges here k (pay p y t v c)
  pay_covered here k p y t v c x so told go scope i s ps d =
      let r = pay_step s p y t (eval i s v) (visited i s v) c in
      let w = so scope i s ps c d in (
        keeps scope here x i r.numbers r.warnings r.state (ps ++ r.payments) w told,
        λ a. let m = goes scope here (λ m. IsCovered Describes alarms ranges (here ++ Then ∷ []) m c) x i r.numbers r.warnings r.state (ps ++ r.payments) w go a in m.2 scope i r.state (ps ++ r.payments) m.1,
      )

  pub let_covered : (here : List PathStep) (k : K) (name : List ℕ) (v : ValueTree) (c : ContractTree) (x : Conclusion K) → BindsSo Describes k name v x → AreAmong alarms (alarms_at here x.kinds)
      → IfCovered (here ++ Then ∷ []) x.known c → IsCovered Describes alarms ranges here k (let_be name v c)
  let_covered here k name v c x so told go scope i s ps d =
      let r = binding s name (eval i s v) (visited i s v) c in
      let w = so scope i s ps c d in (
        keeps scope here x i r.numbers r.warnings r.state ps w told,
        λ a. let m = goes scope here (λ m. IsCovered Describes alarms ranges (here ++ Then ∷ []) m c) x i r.numbers r.warnings r.state ps w go a in m.2 scope i r.state ps m.1,
      )

  pub assert_covered : (here : List PathStep) (k : K) (o : ObservationTree) (c : ContractTree) (x : Conclusion K) → AssertsSo Describes k o x → AreAmong alarms (alarms_at here x.kinds)
      → IfCovered (here ++ Then ∷ []) x.known c → IsCovered Describes alarms ranges here k (assert o c)
  assert_covered here k o c x so told go scope i s ps d =
      let r = asserting s (holds i s o) (looked i s o) c in
      let w = so scope i s ps c d in (
        keeps scope here x i r.numbers r.warnings s ps w told,
        λ a. let m = goes scope here (λ m. IsCovered Describes alarms ranges (here ++ Then ∷ []) m c) x i r.numbers r.warnings s ps w go a in m.2 scope i s ps m.1,
      )

  pub if_covered : (here : List PathStep) (k : K) (o : ObservationTree) (c e : ContractTree) (x : Branches K) → ObservesSo Describes k o x → AreAmong alarms (alarms_at here x.kinds)
      → IfCovered (here ++ Then ∷ []) x.if_true c → IfCovered (here ++ Else ∷ []) x.if_false e → IsCovered Describes alarms ranges here k (if_obs o c e)
  if_covered here k o c e x so told go stay scope i s ps d =
      let P : K → Type 0 = λ m. Describes scope m i s ps in
      let w = so scope i s ps d in (
        (visits scope alarms here x.kinds (looked i s o) told w.numbers, tt),
        λ a. (
          λ q. let m = some_known P (λ m. IsCovered Describes alarms ranges (here ++ Then ∷ []) m c) x.if_true go (subst (λ b. IsSomeAnd (cond b x.if_true x.if_false) P) q (w.known a)) in m.2 scope i s ps m.1,
          λ q. let m = some_known P (λ m. IsCovered Describes alarms ranges (here ++ Else ∷ []) m e) x.if_false stay (subst (λ b. IsSomeAnd (cond b x.if_true x.if_false) P) q (w.known a)) in m.2 scope i s ps m.1,
        ),
      )

  pub when_covered : (here : List PathStep) (k l : K) (ks : CaseTrees) (t : ℤ) (c : ContractTree) (o u : Option K) → IsLater Describes k l → WaitsSo Describes l t o → TimesOutSo Describes l t u
      → IfSome o (λ m. AreCovered Describes alarms ranges here 0 m [] ks) → IfCovered (here ++ TimeoutContinuation ∷ []) u c → IsCovered Describes alarms ranges here k (when ks t c)
  when_covered here k l ks t c o u later waits out go end scope i s ps d j now g v a =
      let n : StateMaps = record s { min_time = now } in
      let P : K → Type 0 = λ m. Describes scope m j n ps in
      let known = later scope i j s ps now d g v a in (
        λ q. let m = some_known P (λ m. AreCovered Describes alarms ranges here 0 m [] ks) o go (waits scope j n ps known q) in m.2 scope j n ps m.1,
        λ q. let m = some_known P (λ m. IsCovered Describes alarms ranges (here ++ TimeoutContinuation ∷ []) m c) u end (out scope j n ps known q) in m.2 scope j n ps m.1,
      )

  -- ---- cases

  pub no_case_covered : (here : List PathStep) (n : ℕ) (k : K) (earlier : List ActionTree) → AreCovered Describes alarms ranges here n k earlier no_cases
  no_case_covered here n k earlier scope i s ps d = tt

  deposit_action : (scope : Scope) (here : List PathStep) (Q : K → Type 0) (F : StateMaps → Type 0) (k : K) (i : Interval) (s : StateMaps) (ps : List Payment) (earlier : List ActionTree) (b q : Party) (u : Token) (v : ValueTree)
      (x : Conclusion K) → DepositsSo Describes k earlier b q u v x → AreAmong alarms (alarms_at here x.kinds) → IfSome x.known Q → Describes scope k i s ps → ((m : K) (then : StateMaps) → Describes scope m i then ps → Q m → F then)
      → CoversAction (limits scope alarms ranges) here i s earlier (deposit b q u v) F
  deposit_action scope here Q F k i s ps earlier b q u v x so told know d go = by_input
    where
      L : Limits
      L = limits scope alarms ranges

      by_test : (t : Bool) → AreVisited scope alarms here (cond t (visited i s v) [])
      by_test true = visits scope alarms here x.kinds (visited i s v) told (so scope i s ps d).0
      by_test false = inl tt

      it : NoneTakes i s (Deposit b q u (eval i s v)) earlier
          → KeepsThen L here (visited i s v ++ taken_numbers s (Deposit b q u (eval i s v))) (taken_warnings (Deposit b q u (eval i s v))) (F (taken s (Deposit b q u (eval i s v))))
      it z =
          let y : Input = Deposit b q u (eval i s v) in
          let w = (so scope i s ps d).1 z in (
            keeps scope here x i (visited i s v ++ taken_numbers s y) (taken_warnings y) (taken s y) ps w told,
            λ a. let m = goes scope here Q x i (visited i s v ++ taken_numbers s y) (taken_warnings y) (taken s y) ps w know a in go m.0 (taken s y) m.1 m.2,
          )

      by_input : (x : Input) → NoneTakes i s x earlier → (matches i s x (deposit b q u v) ≡ false → L.Visits here (tried i s x (deposit b q u v)))
          × (matches i s x (deposit b q u v) ≡ true → KeepsThen L here (tried i s x (deposit b q u v) ++ taken_numbers s x) (taken_warnings x) (F (taken s x)))
      by_input (Deposit a p t n) f = (
        λ e. by_test (agrees a p t b q u),
        λ e.
            let l = same_deposit a p t n b q u (eval i s v) e in
            let y : Input = Deposit a p t n in
            let R : Party → Party → Token → ℤ → Type 0 = λ a p t n. NoneTakes i s (Deposit a p t n) earlier → KeepsThen L here (visited i s v ++ taken_numbers s (Deposit a p t n)) (taken_warnings (Deposit a p t n)) (F (taken s (Deposit a p t n))) in
            let kept : R a p t n = subst (λ a. R a p t n) l.0 (subst (λ p. R b p t n) l.1 (subst (λ t. R b q t n) l.2 (subst (λ n. R b q u n) l.3 it))) in
            let agree = (both (agrees a p t b q u) (int_eq n (eval i s v)) e).0 in
            subst (λ c. KeepsThen L here (cond c (visited i s v) [] ++ taken_numbers s y) (taken_warnings y) (F (taken s y))) (sym agree) (kept f),
      )
      by_input (Choice id n) _ = (λ e. inl tt, λ e. absurd (cc))
      by_input Notify _ = (λ e. inl tt, λ e. absurd (cc))

  choice_action : (scope : Scope) (here : List PathStep) (Q : K → Type 0) (F : StateMaps → Type 0) (k : K) (i : Interval) (s : StateMaps) (ps : List Payment) (earlier : List ActionTree) (jd : ChoiceId) (bounds : List Bound)
      (x : Conclusion K) → ChoosesSo Describes k earlier jd bounds x → AreAmong alarms (alarms_at here x.kinds) → IfSome x.known Q → Describes scope k i s ps → ((m : K) (then : StateMaps) → Describes scope m i then ps → Q m → F then)
      → CoversAction (limits scope alarms ranges) here i s earlier (choice jd bounds) F
  choice_action scope here Q F k i s ps earlier jd bounds x so told know d go (Deposit a p t n) f = (λ e. inl tt, λ e. absurd (cc))
  choice_action scope here Q F k i s ps earlier jd bounds x so told know d go (Choice id n) f = (
    λ e. inl tt,
    λ e.
        let l = both (same_choice_id id jd) (list_any (in_bound n) bounds) e in
        let q = (same_choice_id_decides id jd).0 l.0 in
        let then : StateMaps = record s { choices = insert s.choices jd n } in
        let w = so scope i s ps n d (subst (λ (w : ChoiceId). NoneTakes i s (Choice w n) earlier) q f) l.1 in
        let m = goes scope here Q x i [] [] then ps w know tt in
        ((inl tt, tt), λ a. subst (λ (w : ChoiceId). F (record s { choices = insert s.choices w n })) (sym q) (go m.0 then m.1 m.2)),
  )
  choice_action scope here Q F k i s ps earlier jd bounds x so told know d go Notify f = (λ e. inl tt, λ e. absurd (cc))

  notify_action : (scope : Scope) (here : List PathStep) (Q : K → Type 0) (F : StateMaps → Type 0) (k : K) (i : Interval) (s : StateMaps) (ps : List Payment) (earlier : List ActionTree) (o : ObservationTree)
      (x : Conclusion K) → NotifiesSo Describes k earlier o x → AreAmong alarms (alarms_at here x.kinds) → IfSome x.known Q → Describes scope k i s ps → ((m : K) (then : StateMaps) → Describes scope m i then ps → Q m → F then)
      → CoversAction (limits scope alarms ranges) here i s earlier (notify o) F
  notify_action scope here Q F k i s ps earlier o x so told know d go (Deposit a p t n) f = (λ e. inl tt, λ e. absurd (cc))
  notify_action scope here Q F k i s ps earlier o x so told know d go (Choice id n) f = (λ e. inl tt, λ e. absurd (cc))
  notify_action scope here Q F k i s ps earlier o x so told know d go Notify f =
      let w = so scope i s ps d in
      let L = limits scope alarms ranges in (
        λ e. visits scope alarms here x.kinds (looked i s o) told w.0,
        λ e.
            let c = w.1 f e in
            subst (λ ns. KeepsThen L here ns [] (F s)) (sym (append-nil (looked i s o)))
            (keeps scope here x i (looked i s o) [] s ps c told, λ a. let m = goes scope here Q x i (looked i s o) [] s ps c know a in go m.0 s m.1 m.2),
      )

  pub deposit_covered : (here : List PathStep) (n : ℕ) (k : K) (earlier : List ActionTree) (p q : Party) (t : Token) (v : ValueTree) (c : ContractTree) (ks : CaseTrees) (x : Conclusion K) → DepositsSo Describes k earlier p q t v x
      → AreAmong alarms (alarms_at (here ++ Action n ∷ []) x.kinds) → IfCovered (here ++ Case n ∷ []) x.known c → AreCovered Describes alarms ranges here (suc n) k (deposit p q t v ∷ earlier) ks
      → AreCovered Describes alarms ranges here n k earlier (case_then (deposit p q t v) c ks)
  deposit_covered here n k earlier p q t v c ks x so told go rest scope i s ps d = (
    deposit_action scope (here ++ Action n ∷ []) (λ m. IsCovered Describes alarms ranges (here ++ Case n ∷ []) m c) (λ then. Covers (limits scope alarms ranges) (here ++ Case n ∷ []) i then ps c) k i s ps earlier p q t v x so told go d
        (λ m then e f. f scope i then ps e),
    rest scope i s ps d,
  )

  pub choice_covered : (here : List PathStep) (n : ℕ) (k : K) (earlier : List ActionTree) (id : ChoiceId) (bounds : List Bound) (c : ContractTree) (ks : CaseTrees) (x : Conclusion K) → ChoosesSo Describes k earlier id bounds x
      → AreAmong alarms (alarms_at (here ++ Action n ∷ []) x.kinds) → IfCovered (here ++ Case n ∷ []) x.known c → AreCovered Describes alarms ranges here (suc n) k (choice id bounds ∷ earlier) ks
      → AreCovered Describes alarms ranges here n k earlier (case_then (choice id bounds) c ks)
  choice_covered here n k earlier id bounds c ks x so told go rest scope i s ps d = (
    choice_action scope (here ++ Action n ∷ []) (λ m. IsCovered Describes alarms ranges (here ++ Case n ∷ []) m c) (λ then. Covers (limits scope alarms ranges) (here ++ Case n ∷ []) i then ps c) k i s ps earlier id bounds x so told go d
        (λ m then e f. f scope i then ps e),
    rest scope i s ps d,
  )

  pub notify_covered : (here : List PathStep) (n : ℕ) (k : K) (earlier : List ActionTree) (o : ObservationTree) (c : ContractTree) (ks : CaseTrees) (x : Conclusion K) → NotifiesSo Describes k earlier o x
      → AreAmong alarms (alarms_at (here ++ Action n ∷ []) x.kinds) → IfCovered (here ++ Case n ∷ []) x.known c → AreCovered Describes alarms ranges here (suc n) k (notify o ∷ earlier) ks
      → AreCovered Describes alarms ranges here n k earlier (case_then (notify o) c ks)
  notify_covered here n k earlier o c ks x so told go rest scope i s ps d = (
    notify_action scope (here ++ Action n ∷ []) (λ m. IsCovered Describes alarms ranges (here ++ Case n ∷ []) m c) (λ then. Covers (limits scope alarms ranges) (here ++ Case n ∷ []) i then ps c) k i s ps earlier o x so told go d
        (λ m then e f. f scope i then ps e),
    rest scope i s ps d,
  )

  -- what is covered from what is known at the start keeps the limits
  pub start_covered : (scope : Scope) (s : StateMaps) (c : ContractTree) (k : K) → DescribesStart Describes scope k s → IsCovered Describes alarms ranges [] k c → CoversFrom (limits scope alarms ranges) s c
  start_covered scope s c k d h i g v a = h scope i (record s { min_time = i.from }) [] (d i g v a)
