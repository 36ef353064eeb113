-- What a walk finds, step by step.
use Rattle.std.proofs.Common.{◌≡◌, ◌≢◌, ℕ, zero, suc, ◌+◌, ◌<◌, ◌≤◌, ℤ, List, [], ◌∷◌, ◌++◌, map, take, length, refl, sym, ap, subst, ◌∙◌, Option, Some, IfSome, ◌⊎◌, inl, inr, arith, below_more}
use Rattle.std.proofs.Math.ListN.{get_or}
use Rattle.contract.specs.Names.declared.account.Account.{Account}
use Rattle.contract.specs.Names.declared.party.Party.{Party}
use Rattle.contract.specs.Names.declared.payee.Payee.{Payee}
use Rattle.contract.specs.Names.declared.token.Token.{Token}
use Rattle.contract.specs.declared.tree.Case.{Case}
use Rattle.contract.specs.Tree.{ValueTree, ObservationTree, ActionTree, deposit, choice, notify, ContractTree, CaseTrees, close, pay, if_obs, when, let_be, assert, case_then, action_tree, contract_tree, case_tree, case_trees}
use Rattle.contract.proofs.TreeLaws.{case_tree-parts}
use Rattle.semantics.specs.Reduction.{account_of}
use Rattle.semantics.specs.Computed.{refunds}
use Rattle.analysis_spec.specs.declared.kind.AlarmKind.{AlarmKind}
use Rattle.analysis_spec.specs.Runs.{paid_to}
use Rattle.analysis_spec.specs.declared.alarm.Alarm.{Alarm}
use Rattle.analysis_spec.specs.declared.paid.PaidRange.{PaidRange}
use Rattle.analysis_spec.specs.declared.path.PathStep.{PathStep}
use Rattle.analysis_spec.specs.declared.path.PathStep.TheVariants.{Then, Else, TimeoutContinuation, Case as InCase, Action as AtAction}
use Rattle.analysis_walk.specs.declared.conclusion.Conclusion.{Conclusion}
use Rattle.analysis_walk.specs.Conclusions.{Description, PaysSo, BindsSo, AssertsSo, ObservesSo, IsLater, WaitsSo, TimesOutSo, ClosesIn}
use Rattle.analysis_walk.specs.Walked.{alarms_at, AreAmong, IsCovered, AreCovered}
use Rattle.analysis_walk.proofs.ListLaws.{all_left, all_right}
use Rattle.analysis_walk.proofs.WalkLaws.{close_covered, pay_covered, let_covered, assert_covered, if_covered, when_covered, no_case_covered, deposit_covered, choice_covered, notify_covered}
use Rattle.analysis_walk.specs.declared.closings.Closings.{Closings}
use Rattle.analysis_walk.specs.declared.found.Found.{Found}
use Rattle.analysis_walk.specs.declared.span.Span.{Span}
use Rattle.analysis_walk.specs.Spans.{IsBetween}
use Rattle.analysis_walk.specs.Rows.{IsPaidAt, Adds}
use Rattle.analysis_walk.specs.Knowledge.{ClosesBy, TakesSo, actions_behind, actions_before}
use Rattle.analysis_walk.specs.Found.{Shown, Finds, Nothing, TellsOf, PaysWithin, Covers, CoversIf, CoversCasesIf, CoversCase, CoversAt, CoversUnless}

-- ---- one step

pub raised : (old new : Found) (here : List PathStep) (kinds : List AlarmKind) → new.alarms ≡ old.alarms ++ alarms_at here kinds → new.closings ≡ old.closings → Finds (TellsOf here kinds) old new
raised old new here kinds e q alarms range h =
    let all = subst (AreAmong alarms) e h.alarms in (
      record {
        alarms = all_left _ old.alarms (alarms_at here kinds) all;
        bounded = λ n p. h.bounded n (subst (λ (x : Closings). IsPaidAt x.rows x.count (account_of range.party range.token) n) (sym q) p);
      },
      all_right _ old.alarms (alarms_at here kinds) all,
    )

pub closed : (old new : Found) (spans : List (Account × Span)) → new.alarms ≡ old.alarms → new.closings.count ≡ suc old.closings.count → Adds old.closings.rows old.closings.count new.closings.rows spans
    → Finds (PaysWithin spans) old new
closed old new spans e q add alarms range h =
    let a = account_of range.party range.token in
    let more : (n : ℤ) → IsPaidAt new.closings.rows (suc old.closings.count) a n → IsBetween range.least range.most n = λ n p. h.bounded n (subst (λ (m : ℕ). IsPaidAt new.closings.rows m a n) (sym q) p) in
    (record { alarms = subst (AreAmong alarms) e h.alarms; bounded = λ n p. more n (add.kept a n p) }, λ n i. more n (add.added a n i))

-- a place that is left out shows nothing else
pub left_out : (old new : Found) → new.alarms ≡ old.alarms → new.closings ≡ old.closings → Finds Nothing old new
left_out old new e q alarms range h = (
  record {
    alarms = subst (AreAmong alarms) e h.alarms;
    bounded = λ n p. h.bounded n (subst (λ (x : Closings). IsPaidAt x.rows x.count (account_of range.party range.token) n) (sym q) p);
  },
  tt,
)

still_not : (i j : ℕ) → (i ≡ j) ⊎ (i ≢ j) → (suc i ≡ suc j) ⊎ (suc i ≢ suc j)
still_not i j (inl e) = inl (ap suc e)
still_not i j (inr q) = inr (λ e. q (omega (arith, e)))

is_or_not : (i j : ℕ) → (i ≡ j) ⊎ (i ≢ j)
is_or_not zero zero = inl refl
is_or_not zero (suc j) = inr (λ e. omega (arith, e))
is_or_not (suc i) zero = inr (λ e. omega (arith, e))
is_or_not (suc i) (suc j) = still_not i j (is_or_not i j)

-- ---- two steps

pub first_of : (P Q : Shown) (f g h : Found) → Finds P f g → Finds Q g h → Finds P f h
first_of P Q f g h one other alarms range fit = one alarms range (other alarms range fit).0

pub second_of : (P Q : Shown) (f g h : Found) → Finds P f g → Finds Q g h → Finds Q f h
second_of P Q f g h one other alarms range fit =
    let u = other alarms range fit in
    ((one alarms range u.0).0, u.1)

-- what is shown at a place is shown at the same one
pub moved : (P : List PathStep → Shown) (p q : List PathStep) (f g : Found) → p ≡ q → Finds (P p) f g → Finds (P q) f g
moved P p q f g e h = subst (λ (x : List PathStep). Finds (P x) f g) e h

-- ---- a contract

module _ {K : Type 0} (Describes : Description K) where
  pub pays_within : (k : K) (spans : List (Account × Span)) (alarms : List Alarm) (range : PaidRange) → ClosesBy Describes k spans → PaysWithin spans alarms range → ClosesIn Describes k (range ∷ [])
  pays_within k spans alarms range pays w scope i s ps d = (w (paid_to range.party range.token (ps ++ (refunds s).payments)) (pays range.party range.token scope i s ps d).0, tt)

  -- one step on, where something is known there
  pub known_found : (next there : List PathStep) (k : K) (o : Option K) (c : ContractTree) (f g : Found) → next ≡ there → o ≡ Some k → Finds (Covers Describes next k c) f g → Finds (CoversIf Describes there o c) f g
  known_found next there k o c f g e q go alarms range h =
      let u = go alarms range h in
      (u.0, subst (λ (x : Option K). IfSome x (λ m. IsCovered Describes alarms (range ∷ []) there m c)) (sym q) (subst (λ (p : List PathStep). IsCovered Describes alarms (range ∷ []) p k c) e u.1))

  module _ (here : List PathStep) where
    pub tree_found : (tree : ContractTree) (k : K) (c : ContractTree) (f g : Found) → tree ≡ c → Finds (Covers Describes here k c) f g → Finds (Covers Describes here k tree) f g
    tree_found tree k c f g e go = subst (λ (z : ContractTree). Finds (Covers Describes here k z) f g) (sym e) go

    covers : (alarms : List Alarm) (range : PaidRange) (k : K) (tree c : ContractTree) → tree ≡ c → IsCovered Describes alarms (range ∷ []) here k c → IsCovered Describes alarms (range ∷ []) here k tree
    covers alarms range k tree c e h = subst (λ (z : ContractTree). IsCovered Describes alarms (range ∷ []) here k z) (sym e) h

    pub close_found : (tree : ContractTree) (k : K) (spans : List (Account × Span)) (a b : Found) → tree ≡ close → ClosesBy Describes k spans → Finds (PaysWithin spans) a b → Finds (Covers Describes here k tree) a b
    close_found tree k spans a b e pays f alarms range h =
        let w = f alarms range h in
        (w.0, covers alarms range k tree close e (close_covered Describes alarms (range ∷ []) here k (pays_within k spans alarms range pays w.1)))

    pub pay_found : (tree : ContractTree) (k : K) (p : Party) (y : Payee) (t : Token) (v : ValueTree) (c : ContractTree) (kinds : List AlarmKind) (o : Option K) (f g h : Found) → tree ≡ pay p y t v c
        → PaysSo Describes k p y t v (record { kinds = kinds; known = o }) → Finds (TellsOf here kinds) f g → Finds (CoversIf Describes (here ++ Then ∷ []) o c) g h → Finds (Covers Describes here k tree) f h
    pay_found tree k p y t v c kinds o f g h e so told go alarms range fit =
        let u = go alarms range fit in
        let w = told alarms range u.0 in
        (w.0, covers alarms range k tree (pay p y t v c) e (pay_covered Describes alarms (range ∷ []) here k p y t v c (record { kinds = kinds; known = o }) so w.1 u.1))

    pub let_found : (tree : ContractTree) (k : K) (x : List ℕ) (v : ValueTree) (c : ContractTree) (kinds : List AlarmKind) (o : Option K) (f g h : Found) → tree ≡ let_be x v c
        → BindsSo Describes k x v (record { kinds = kinds; known = o }) → Finds (TellsOf here kinds) f g → Finds (CoversIf Describes (here ++ Then ∷ []) o c) g h → Finds (Covers Describes here k tree) f h
    let_found tree k x v c kinds o f g h e so told go alarms range fit =
        let u = go alarms range fit in
        let w = told alarms range u.0 in
        (w.0, covers alarms range k tree (let_be x v c) e (let_covered Describes alarms (range ∷ []) here k x v c (record { kinds = kinds; known = o }) so w.1 u.1))

    pub assert_found : (tree : ContractTree) (k : K) (q : ObservationTree) (c : ContractTree) (kinds : List AlarmKind) (o : Option K) (f g h : Found) → tree ≡ assert q c
        → AssertsSo Describes k q (record { kinds = kinds; known = o }) → Finds (TellsOf here kinds) f g → Finds (CoversIf Describes (here ++ Then ∷ []) o c) g h → Finds (Covers Describes here k tree) f h
    assert_found tree k q c kinds o f g h e so told go alarms range fit =
        let u = go alarms range fit in
        let w = told alarms range u.0 in
        (w.0, covers alarms range k tree (assert q c) e (assert_covered Describes alarms (range ∷ []) here k q c (record { kinds = kinds; known = o }) so w.1 u.1))

    pub if_found : (tree : ContractTree) (k : K) (q : ObservationTree) (c d : ContractTree) (kinds : List AlarmKind) (o m : Option K) (f g h : Found) → tree ≡ if_obs q c d
        → ObservesSo Describes k q (record { kinds = kinds; if_true = o; if_false = m }) → Finds (TellsOf here kinds) f g
        → Finds (CoversIf Describes (here ++ Then ∷ []) o c) g h → Finds (CoversIf Describes (here ++ Else ∷ []) m d) g h → Finds (Covers Describes here k tree) f h
    if_found tree k q c d kinds o m f g h e so told go stay alarms range fit =
        let u = go alarms range fit in
        let v = stay alarms range fit in
        let w = told alarms range u.0 in
        (w.0, covers alarms range k tree (if_obs q c d) e (if_covered Describes alarms (range ∷ []) here k q c d (record { kinds = kinds; if_true = o; if_false = m }) so w.1 u.1 v.1))

    -- ---- a When

    pub cases_first : (k l : K) (ks : CaseTrees) (t : ℤ) (c : ContractTree) (o u : Option K) (f g h : Found) → IsLater Describes k l → WaitsSo Describes l t o → TimesOutSo Describes l t u
        → Finds (CoversCasesIf Describes here o ks) f g → Finds (CoversIf Describes (here ++ TimeoutContinuation ∷ []) u c) g h → Finds (Covers Describes here k (when ks t c)) f h
    cases_first k l ks t c o u f g h later waits out go end alarms range fit =
        let x = end alarms range fit in
        let y = go alarms range x.0 in
        (y.0, when_covered Describes alarms (range ∷ []) here k l ks t c o u later waits out y.1 x.1)

    pub timeout_first : (k l : K) (ks : CaseTrees) (t : ℤ) (c : ContractTree) (o u : Option K) (f g h : Found) → IsLater Describes k l → WaitsSo Describes l t o → TimesOutSo Describes l t u
        → Finds (CoversIf Describes (here ++ TimeoutContinuation ∷ []) u c) f g → Finds (CoversCasesIf Describes here o ks) g h → Finds (Covers Describes here k (when ks t c)) f h
    timeout_first k l ks t c o u f g h later waits out end go alarms range fit =
        let y = go alarms range fit in
        let x = end alarms range y.0 in
        (x.0, when_covered Describes alarms (range ∷ []) here k l ks t c o u later waits out y.1 x.1)

  module _ (here : List PathStep) where
    -- Close after the timeout, with what is known before it
    pub closed_first : (k l : K) (ks : CaseTrees) (t : ℤ) (c : ContractTree) (o : Option K) (spans : List (Account × Span)) (f g h : Found) → IsLater Describes k l → WaitsSo Describes l t o → c ≡ close → ClosesBy Describes l spans
        → Finds (PaysWithin spans) f g → Finds (CoversCasesIf Describes here o ks) g h → Finds (Covers Describes here k (when ks t c)) f h
    closed_first k l ks t c o spans f g h later waits e pays end go =
        timeout_first here k l ks t c o (Some l) f g h later waits (λ scope i s ps d q. d) (close_found (here ++ TimeoutContinuation ∷ []) c l spans f g e pays end) go

    -- ---- cases

    covers_case : (alarms : List Alarm) (range : PaidRange) (k : K) (earlier : List ActionTree) (n : ℕ) (a : ActionTree) (c : ContractTree) (rest : CaseTrees) (x : Conclusion K) → TakesSo Describes k earlier a x
        → AreAmong alarms (alarms_at (here ++ AtAction n ∷ []) x.kinds) → IfSome x.known (λ m. IsCovered Describes alarms (range ∷ []) (here ++ InCase n ∷ []) m c)
        → AreCovered Describes alarms (range ∷ []) here (suc n) k (a ∷ earlier) rest → AreCovered Describes alarms (range ∷ []) here n k earlier (case_then a c rest)
    covers_case alarms range k earlier n (deposit p q t v) c rest x so told go on = deposit_covered Describes alarms (range ∷ []) here n k earlier p q t v c rest x so told go on
    covers_case alarms range k earlier n (choice id bounds) c rest x so told go on = choice_covered Describes alarms (range ∷ []) here n k earlier id bounds c rest x so told go on
    covers_case alarms range k earlier n (notify q) c rest x so told go on = notify_covered Describes alarms (range ∷ []) here n k earlier q c rest x so told go on

    pub case_found : (k : K) (earlier : List ActionTree) (n : ℕ) (case : Case) (kinds : List AlarmKind) (o : Option K) (f g h : Found) → TakesSo Describes k earlier (action_tree case.action) (record { kinds = kinds; known = o })
        → Finds (TellsOf (here ++ AtAction n ∷ []) kinds) f g → Finds (CoversIf Describes (here ++ InCase n ∷ []) o (contract_tree case.then)) g h → Finds (CoversCase Describes here k earlier n case) f h
    case_found k earlier n case kinds o f g h so told go alarms range fit =
        let u = go alarms range fit in
        let w = told alarms range u.0 in
        (w.0, λ rest on. covers_case alarms range k earlier n (action_tree case.action) (contract_tree case.then) rest (record { kinds = kinds; known = o }) so w.1 u.1 on)

    -- each of these cases, behind earlier ones, of which there are so many
    abbrev EachCovered : List Alarm → PaidRange → K → List ActionTree → ℕ → List Case → Type 0
    EachCovered alarms range k earlier n [] = Unit {0}
    EachCovered alarms range k earlier n (case ∷ cases) = CoversCase Describes here k earlier n case alarms range × EachCovered alarms range k (action_tree case.action ∷ earlier) (suc n) cases

    all_covered : (alarms : List Alarm) (range : PaidRange) (k : K) (earlier : List ActionTree) (n : ℕ) (cases : List Case) → EachCovered alarms range k earlier n cases
        → AreCovered Describes alarms (range ∷ []) here n k earlier (case_trees (map case_tree cases))
    all_covered alarms range k earlier n [] h = no_case_covered Describes alarms (range ∷ []) here n k earlier
    all_covered alarms range k earlier n (case ∷ cases) h =
        subst (λ (z : ActionTree × ContractTree). AreCovered Describes alarms (range ∷ []) here n k earlier (case_then z.0 z.1 (case_trees (map case_tree cases)))) (sym (case_tree-parts case))
        (h.0 (case_trees (map case_tree cases)) (all_covered alarms range k (action_tree case.action ∷ earlier) (suc n) cases h.1))

    -- what each place covers, all of them cover
    each_covered : (alarms : List Alarm) (range : PaidRange) (k : K) (earlier : List ActionTree) (n : ℕ) (ks : List Case)
        → ((j : ℕ) (case : Case) → j < length ks → case ≡ get_or ks j case → CoversCase Describes here k (actions_behind earlier (take j ks)) (n + j) case alarms range) → EachCovered alarms range k earlier n ks
    each_covered alarms range k earlier n [] h = tt
    each_covered alarms range k earlier n (x ∷ ks) h =
        let first : n + 0 ≡ n = omega arith in (
          subst (λ (m : ℕ). CoversCase Describes here k earlier m x alarms range) first (h 0 x (omega arith) refl),
          each_covered alarms range k (action_tree x.action ∷ earlier) (suc n) ks (λ j case l e.
              let next : n + suc j ≡ suc n + j = omega arith in
              subst (λ (m : ℕ). CoversCase Describes here k (actions_behind (action_tree x.action ∷ earlier) (take j ks)) m case alarms range) next (h (suc j) case (omega arith) e)),
        )

    -- the cases at places below i are covered, but for the one that comes last
    abbrev pub CoverBelow : K → List Case → ℕ → ℕ → Found → Found → Type 0
    CoverBelow k cases last i start now = Finds (λ alarms range. (j : ℕ) → j < i → CoversUnless Describes here k cases last j alarms range) start now

    pub one_below : (k : K) (cases : List Case) (last i : ℕ) (start now next : Found) → CoverBelow k cases last i start now → Finds (CoversUnless Describes here k cases last i) now next → CoverBelow k cases last (i + 1) start next
    one_below k cases last i start now next below at alarms range h =
        let u = at alarms range h in
        let w = below alarms range u.0 in
        (w.0, below_more (λ j. CoversUnless Describes here k cases last j alarms range) i w.1 u.1)

    -- places below i are all places
    pub all_below : (k : K) (cases : List Case) (last i : ℕ) (start now : Found) → length cases ≤ i → CoverBelow k cases last i start now → CoverBelow k cases last (length cases) start now
    all_below k cases last i start now l below alarms range h = let w = below alarms range h in (w.0, λ j b. w.1 j (omega (arith, b, l)))

    pub known_cases : (k : K) (o : Option K) (ks : CaseTrees) (f g : Found) → o ≡ Some k → Finds (CoversCasesIf Describes here (Some k) ks) f g → Finds (CoversCasesIf Describes here o ks) f g
    known_cases k o ks f g e go = subst (λ (x : Option K). Finds (CoversCasesIf Describes here x ks) f g) (sym e) go

    all_places : (alarms : List Alarm) (range : PaidRange) (k : K) (cases : List Case) → ((j : ℕ) → j < length cases → CoversAt Describes here k cases j alarms range) → AreCovered Describes alarms (range ∷ []) here 0 k [] (case_trees (map case_tree cases))
    all_places alarms range k cases h = all_covered alarms range k [] 0 cases (each_covered alarms range k [] 0 cases (λ j case l e.
        let same : j ≡ 0 + j = omega arith in
        subst (λ (m : ℕ). CoversCase Describes here k (actions_before (take j cases)) m case alarms range) same (h j l case e)))

    -- none comes last
    pub all_found : (k : K) (cases : List Case) (last : ℕ) (start now : Found) → length cases ≤ last → CoverBelow k cases last (length cases) start now → Finds (CoversCasesIf Describes here (Some k) (case_trees (map case_tree cases))) start now
    all_found k cases last start now past below alarms range h =
        let w = below alarms range h in
        (w.0, all_places alarms range k cases (λ j l. w.1 j l (λ e. omega arith)))

    same_case : (ks : List Case) (i : ℕ) (c d : Case) → i < length ks → c ≡ get_or ks i c → d ≡ get_or ks i d → c ≡ d
    same_case [] i c d l e q = absurd (omega arith)
    same_case (x ∷ ks) zero c d l e q = e ∙ sym q
    same_case (x ∷ ks) (suc i) c d l e q = same_case ks i c d (omega arith) e q

    -- a case is the one at its place
    pub at_place : (k : K) (cases earlier : List Case) (n : ℕ) (case : Case) (f g : Found) → n < length cases → case ≡ get_or cases n case → earlier ≡ take n cases → length earlier ≡ n
        → Finds (CoversCase Describes here k (actions_before earlier) (length earlier) case) f g → Finds (CoversAt Describes here k cases n) f g
    at_place k cases earlier n case f g l is e q at alarms range h =
        let u = at alarms range h in (
          u.0,
          λ other o.
              subst (λ (x : Case). CoversCase Describes here k (actions_before (take n cases)) n x alarms range) (same_case cases n case other l is o)
              (subst (λ (es : List Case). CoversCase Describes here k (actions_before es) n case alarms range) e
              (subst (λ (m : ℕ). CoversCase Describes here k (actions_before earlier) m case alarms range) q u.1)),
        )

    pub not_last : (k : K) (cases : List Case) (last n : ℕ) (f g : Found) → Finds (CoversAt Describes here k cases n) f g → Finds (CoversUnless Describes here k cases last n) f g
    not_last k cases last n f g at alarms range h = let u = at alarms range h in (u.0, λ e. u.1)

    pub last_found : (k : K) (cases : List Case) (last : ℕ) (start now next : Found) → CoverBelow k cases last (length cases) start now → Finds (CoversAt Describes here k cases last) now next
        → Finds (CoversCasesIf Describes here (Some k) (case_trees (map case_tree cases))) start next
    last_found k cases last start now next below at alarms range h =
        let u = at alarms range h in
        let w = below alarms range u.0 in
        let each : (j : ℕ) → j < length cases → (j ≡ last) ⊎ (j ≢ last) → CoversAt Describes here k cases j alarms range = λ j l. elim [
          | inl e ↦ subst (λ (m : ℕ). CoversAt Describes here k cases m alarms range) (sym e) u.1
          | inr q ↦ w.1 j l q
        ] in
        (w.0, all_places alarms range k cases (λ j l. each j l (is_or_not j last)))
