-- A walk over a contract, step by step: what is known, and which floors are kept from there on.
use Rattle.std.proofs.Common.{◌≡◌, ℕ, zero, suc, ◌+◌, ◌-◌, ◌<◌, ◌≤◌, ℤ, pos, neg_ℤ, ◌+ℤ◌, ◌≤ℤ◌, Bool, true, false, cond, List, [], ◌∷◌, ◌++◌, map, take, length, refl, sym, subst, ◌∙◌, Option, Some, None, IfSome, arith, below_more}
use Rattle.std.proofs.lemmas.Int.{ints}
use Rattle.std.proofs.Math.ListN.{get_or}
use Rattle.std.specs.List.{AllByRecursion}
use Rattle.std.specs.Option.{IsSomeAnd}
use Rattle.contract.specs.Names.declared.account.Account.{Account}
use Rattle.contract.specs.Names.declared.party.Party.{Party}
use Rattle.contract.specs.Names.declared.payee.Payee.{Payee}
use Rattle.contract.specs.Names.declared.token.Token.{Token}
use Rattle.contract.specs.declared.interval.Interval.{Interval}
use Rattle.contract.specs.declared.payment.Payment.{Payment}
use Rattle.contract.specs.declared.tree.Case.{Case}
use Rattle.contract.specs.Tree.{ValueTree, ObservationTree, ActionTree, ContractTree, CaseTrees, close, pay, if_obs, when, let_be, assert, case_then, action_tree, contract_tree, case_tree, case_trees}
use Rattle.contract.proofs.TreeLaws.{case_tree-parts}
use Rattle.contract.specs.States.States.{StateMaps, counted}
use Rattle.semantics.specs.Evaluation.Evaluation.{eval, visited, looked}
use Rattle.semantics.specs.Reduction.{binding, account_of}
use Rattle.semantics.specs.Applying.{taken}
use Rattle.semantics.specs.Computed.{pay_step, refunds}
use Rattle.analysis_spec.specs.Runs.{reaches_party, paid_to}
use Rattle.losses.specs.Losses.{LosesAtMost}
use Rattle.losses.specs.declared.loss.Loss.{Loss}
use Rattle.losses.specs.Told.{LoseWithin, OthersLoseNothing}
use Rattle.analysis_walk.specs.Limits.{Scope, any_runs, Allowed}
use Rattle.analysis_walk.specs.Conclusions.{PaysSo, BindsSo, AssertsSo, ObservesSo, IsLater, WaitsSo, TimesOutSo, DescribesStart}
use Rattle.analysis_walk.specs.declared.conclusion.Conclusion.{Conclusion}
use Rattle.analysis_walk.specs.declared.conclusion.Branches.{Branches}
use Rattle.analysis_walk.specs.Knowledge.{actions_behind, actions_before}
use Rattle.analysis_walk.proofs.ListLaws.{all_weaker}
use Rattle.analysis_walk.proofs.PaidLaws.{total_append}
use Rattle.analysis_values.specs.Known.{Known, IsDescribed}
use Rattle.loss_walk.specs.declared.question.Question.{Question}
use Rattle.loss_walk.specs.declared.quiet.Quiet.{Quiet}
use Rattle.loss_walk.specs.Cuts.{is_timeless, holds_timeless, quiet_from, quiet_before, after_reading, after_timeout, is_cut}
use Rattle.loss_walk.specs.Nets.{Nets, NetsCases, NetsFrom, of_all_runs, while_keeping_up, NetsBoundLosses, NetsBoundKept}
use Rattle.loss_walk.specs.Brings.{TakesOff, Takes}
use Rattle.loss_walk.specs.Floors.{Rows, IsFloor, Shown, Finds, FindsAll, Nothing, ClosesAbove, IsCovered, AreCovered, CoversIf, CoversCasesIf, CoversEachIf, CoversCase, CoversBehind, CoversIndex, AreFloors, NameAll, RowsHoldWhile}

any_allowed : (ns : List ℤ) → AllByRecursion (Allowed any_runs) ns
any_allowed [] = tt
any_allowed (n ∷ ns) = (tt, any_allowed ns)

some_known : (P Q : Known → Type 0) (o : Option Known) → IfSome o Q → IsSomeAnd o P → (m : Known) × P m × Q m
some_known P Q None h k = absurd k
some_known P Q (Some m) h k = (m, k, h)

paid_append : (a : Account) (ps qs : List Payment) → paid_to a.owner a.token (ps ++ qs) ≡ paid_to a.owner a.token ps +ℤ paid_to a.owner a.token qs
paid_append a ps qs = total_append (λ (p : Payment). reaches_party a.owner p.to (counted a.token p.token p.amount)) ps qs

-- ---- two steps

pub first_of : (asked : List Account) (P Q : Shown) (f g h : Rows) → Finds asked P f g → Finds asked Q g h → Finds asked P f h
first_of asked P Q f g h one other a n fit = one a n (other a n fit).0

pub both_of : (asked : List Account) (P Q : Shown) (f g h : Rows) → Finds asked P f g → Finds asked Q g h → Finds asked (λ a n. P a n × Q a n) f h
both_of asked P Q f g h one other a n fit =
    let u = other a n fit in
    let w = one a n u.0 in
    (w.0, (w.1, u.1))

pub behind_nothing : (asked : List Account) (Q : Shown) (f g h : Rows) → FindsAll Nothing f g → Finds asked Q g h → Finds asked Q f h
behind_nothing asked Q f g h one other a n fit =
    let u = other a n fit in
    ((one asked a n u.0).0, u.1)

module _ (question : Question) (q : Quiet) where
  -- ---- a contract

  tree_found : (tree c : ContractTree) (k : Known) (f g : Rows) → tree ≡ c → Finds question.asked (IsCovered question q k c) f g → Finds question.asked (IsCovered question q k tree) f g
  tree_found tree c k f g e go = subst (λ (z : ContractTree). Finds question.asked (IsCovered question q k z) f g) (sym e) go

  pub close_found : (tree : ContractTree) (k : Known) (f g : Rows) → tree ≡ close → Finds question.asked (ClosesAbove k) f g → Finds question.asked (IsCovered question q k tree) f g
  close_found tree k f g e go =
      tree_found tree close k f g e
      (λ a n fit. let u = go a n fit in (u.0, λ i s ps d. subst (λ (x : ℤ). n ≤ℤ x) (paid_append a ps (refunds s).payments) (u.1 i s ps d)))

  pub pay_found : (tree : ContractTree) (k : Known) (p : Party) (y : Payee) (t : Token) (v : ValueTree) (c : ContractTree) (x : Conclusion Known) (next : Quiet) (f g : Rows) → tree ≡ pay p y t v c → PaysSo IsDescribed k p y t v x
      → next ≡ after_reading q (is_timeless v) → Finds question.asked (CoversIf question next x.known c) f g → Finds question.asked (IsCovered question q k tree) f g
  pay_found tree k p y t v c x next f g e so read go =
      tree_found tree (pay p y t v c) k f g e
      (λ a n fit.
      let u = go a n fit in (
        u.0,
        λ i s ps d.
            let r = pay_step s p y t (eval i s v) (visited i s v) c in
            let m = some_known (λ m. IsDescribed any_runs m i r.state (ps ++ r.payments)) (λ m. IsCovered question next m c a n) x.known u.1 ((so any_runs i s ps c d).known (any_allowed r.numbers)) in
            subst (λ (w : Quiet). Nets question a.owner a.token n w i r.state (paid_to a.owner a.token ps +ℤ paid_to a.owner a.token r.payments) c) read
            (subst (λ (z : ℤ). Nets question a.owner a.token n next i r.state z c) (paid_append a ps r.payments) (m.2 i r.state (ps ++ r.payments) m.1)),
      ))

  pub let_found : (tree : ContractTree) (k : Known) (name : List ℕ) (v : ValueTree) (c : ContractTree) (x : Conclusion Known) (next : Quiet) (f g : Rows) → tree ≡ let_be name v c → BindsSo IsDescribed k name v x
      → next ≡ after_reading q (is_timeless v) → Finds question.asked (CoversIf question next x.known c) f g → Finds question.asked (IsCovered question q k tree) f g
  let_found tree k name v c x next f g e so read go =
      tree_found tree (let_be name v c) k f g e
      (λ a n fit.
      let u = go a n fit in (
        u.0,
        λ i s ps d.
            let r = binding s name (eval i s v) (visited i s v) c in
            let m = some_known (λ m. IsDescribed any_runs m i r.state ps) (λ m. IsCovered question next m c a n) x.known u.1 ((so any_runs i s ps c d).known (any_allowed r.numbers)) in
            subst (λ (w : Quiet). Nets question a.owner a.token n w i r.state (paid_to a.owner a.token ps) c) read (m.2 i r.state ps m.1),
      ))

  pub assert_found : (tree : ContractTree) (k : Known) (o : ObservationTree) (c : ContractTree) (x : Conclusion Known) (f g : Rows) → tree ≡ assert o c → AssertsSo IsDescribed k o x → Finds question.asked (CoversIf question q x.known c) f g
      → Finds question.asked (IsCovered question q k tree) f g
  assert_found tree k o c x f g e so go =
      tree_found tree (assert o c) k f g e
      (λ a n fit.
      let u = go a n fit in (
        u.0,
        λ i s ps d.
            let m = some_known (λ m. IsDescribed any_runs m i s ps) (λ m. IsCovered question q m c a n) x.known u.1 ((so any_runs i s ps c d).known (any_allowed (looked i s o))) in
            m.2 i s ps m.1,
      ))

  pub if_found : (tree : ContractTree) (k : Known) (o : ObservationTree) (c e : ContractTree) (x : Branches Known) (next : Quiet) (f g : Rows) → tree ≡ if_obs o c e → ObservesSo IsDescribed k o x
      → next ≡ after_reading q (holds_timeless o) → Finds question.asked (λ a n. CoversIf question next x.if_true c a n × CoversIf question next x.if_false e a n) f g → Finds question.asked (IsCovered question q k tree) f g
  if_found tree k o c e x next f g is so read go =
      tree_found tree (if_obs o c e) k f g is
      (λ a n fit.
      let u = go a n fit in (
        u.0,
        λ i s ps d.
            let P : Known → Type 0 = λ m. IsDescribed any_runs m i s ps in
            let w = (so any_runs i s ps d).known (any_allowed (looked i s o)) in
            let there : (h : ContractTree) → Nets question a.owner a.token n next i s (paid_to a.owner a.token ps) h → Nets question a.owner a.token n (after_reading q (holds_timeless o)) i s (paid_to a.owner a.token ps) h =
            λ h. subst (λ (z : Quiet). Nets question a.owner a.token n z i s (paid_to a.owner a.token ps) h) read in (
              λ b. let m = some_known P (λ m. IsCovered question next m c a n) x.if_true u.1.0 (subst (λ b. IsSomeAnd (cond b x.if_true x.if_false) P) b w) in there c (m.2 i s ps m.1),
              λ b. let m = some_known P (λ m. IsCovered question next m e a n) x.if_false u.1.1 (subst (λ b. IsSomeAnd (cond b x.if_true x.if_false) P) b w) in there e (m.2 i s ps m.1),
            ),
      ))

  -- ---- a When

  -- what follows its timeout, unless it is cut
  abbrev CoversOver : Known → CaseTrees → ℤ → ContractTree → Shown
  CoversOver l ks t c a n =
      is_cut question.keeper q ks t ≡ false → (i : Interval) (s : StateMaps) (ps : List Payment) → IsDescribed any_runs l i s ps → t ≤ℤ i.from → Nets question a.owner a.token n (after_timeout q t) i s (paid_to a.owner a.token ps) c

  when_covered : (a : Account) (n : ℤ) (k l : Known) (ks : CaseTrees) (t : ℤ) (c : ContractTree) (o : Option Known) (first : Quiet) → IsLater IsDescribed k l → WaitsSo IsDescribed l t o → first ≡ quiet_before t → CoversCasesIf question first o ks a n
      → CoversOver l ks t c a n → IsCovered question q k (when ks t c) a n
  when_covered a n k l ks t c o first later waits is go end i s ps d j now g v =
      let s2 : StateMaps = record s { min_time = now } in
      let P : Known → Type 0 = λ m. IsDescribed any_runs m j s2 ps in
      let known = later any_runs i j s ps now d g v tt in (
        λ b.
            let m = some_known P (λ m. AreCovered question first m [] ks a n) o go (waits any_runs j s2 ps known b) in
            subst (λ (w : Quiet). NetsCases question a.owner a.token n w j s2 (paid_to a.owner a.token ps) [] ks) is (m.2 j s2 ps m.1),
        λ cut b. end cut j s2 ps known b,
      )

  -- it isn't cut: with what is known behind the timeout
  pub when_found : (k l : Known) (ks : CaseTrees) (t : ℤ) (c : ContractTree) (o u : Option Known) (first next : Quiet) (f g h : Rows) → IsLater IsDescribed k l → WaitsSo IsDescribed l t o → TimesOutSo IsDescribed l t u
      → first ≡ quiet_before t → next ≡ after_timeout q t → Finds question.asked (CoversIf question next u c) f g → Finds question.asked (CoversCasesIf question first o ks) g h → Finds question.asked (IsCovered question q k (when ks t c)) f h
  when_found k l ks t c o u first next f g h later waits out is over end go a n fit =
      let y = go a n fit in
      let x = end a n y.0 in (
        x.0,
        when_covered a n k l ks t c o first later waits is y.1
            (λ cut i s ps d b.
            let m = some_known (λ m. IsDescribed any_runs m i s ps) (λ m. IsCovered question next m c a n) u x.1 (out any_runs i s ps d b) in
            subst (λ (w : Quiet). Nets question a.owner a.token n w i s (paid_to a.owner a.token ps) c) over (m.2 i s ps m.1)),
      )

  -- it is cut
  pub cut_found : (k l : Known) (ks : CaseTrees) (t : ℤ) (c : ContractTree) (o : Option Known) (first : Quiet) (f g : Rows) → IsLater IsDescribed k l → WaitsSo IsDescribed l t o → first ≡ quiet_before t
      → is_cut question.keeper q ks t ≡ true → Finds question.asked (CoversCasesIf question first o ks) f g → Finds question.asked (IsCovered question q k (when ks t c)) f g
  cut_found k l ks t c o first f g later waits is cut go a n fit =
      let y = go a n fit in
      (y.0, when_covered a n k l ks t c o first later waits is y.1 (λ kept i s ps d b. absurd (let z : true ≡ false = sym cut ∙ kept in cc)))

-- Close after the timeout, with what is known before it
pub closed_found : (question : Question) (q : Quiet) (k l : Known) (ks : CaseTrees) (t : ℤ) (c : ContractTree) (o : Option Known) (first : Quiet) (f g h : Rows) → IsLater IsDescribed k l → WaitsSo IsDescribed l t o → first ≡ quiet_before t → c ≡ close
    → Finds question.asked (ClosesAbove l) f g → Finds question.asked (CoversCasesIf question first o ks) g h → Finds question.asked (IsCovered question q k (when ks t c)) f h
closed_found question q k l ks t c o first f g h later waits is e end go =
    when_found question q k l ks t c o (Some l) first (after_timeout q t) f g h later waits (λ scope i s ps d b. d) is refl (close_found question (after_timeout q t) c l f g e end) go

-- ---- cases

same_case : (ks : List Case) (i : ℕ) (c d : Case) → i < length ks → c ≡ get_or ks i c → d ≡ get_or ks i d → c ≡ d
same_case [] i c d l e q = absurd (omega arith)
same_case (x ∷ ks) zero c d l e q = e ∙ sym q
same_case (x ∷ ks) (suc i) c d l e q = same_case ks i c d (omega arith) e q

pub last_below : (n : ℕ) → (n ≡ 0 → ⊥) → n - 1 < n
last_below n h = omega (arith, h)

up_to_last : (n : ℕ) → n ≤ n - 1 + 1
up_to_last n = omega arith

pub none_known : {K : Type 0} (o : Option K) → ((m : K) → o ≡ Some m → ⊥) → o ≡ None
none_known None h = refl
none_known (Some m) h = absurd (h m refl)

module _ (question : Question) (q : Quiet) where
  pub case_found : (k : Known) (earlier : List ActionTree) (case : Case) (o : Option Known) (f g : Rows) → Takes question.net k earlier (action_tree case.action) o → Finds question.asked (CoversIf question q o (contract_tree case.then)) f g
      → Finds question.asked (CoversCase question q k earlier case) f g
  case_found k earlier case o f g so go a n fit =
      let u = go a n fit in (
        u.0,
        λ rest on i s ps d. (
          λ x z e.
              let P : Known → Type 0 = λ m. (qs : List Payment) × IsDescribed any_runs m i (taken s x) qs × TakesOff question.net ps qs x in
              let m = some_known P (λ m. IsCovered question q m (contract_tree case.then) a n) o u.1 (so i s ps x d z e) in
              subst (λ (y : ℤ). Nets question a.owner a.token n q i (taken s x) y (contract_tree case.then)) (m.1.2 a) (m.2 i (taken s x) m.1.0 m.1.1),
          on i s ps d,
        ),
      )

  -- each of these cases, behind earlier ones
  abbrev EachCovered : Account → ℤ → Known → List ActionTree → List Case → Type 0
  EachCovered a n k earlier [] = Unit {0}
  EachCovered a n k earlier (case ∷ cases) = CoversCase question q k earlier case a n × EachCovered a n k (action_tree case.action ∷ earlier) cases

  all_covered : (a : Account) (n : ℤ) (k : Known) (earlier : List ActionTree) (cases : List Case) → EachCovered a n k earlier cases → AreCovered question q k earlier (case_trees (map case_tree cases)) a n
  all_covered a n k earlier [] h = λ i s ps d. tt
  all_covered a n k earlier (case ∷ cases) h =
      subst (λ (z : ActionTree × ContractTree). AreCovered question q k earlier (case_then z.0 z.1 (case_trees (map case_tree cases))) a n) (sym (case_tree-parts case))
      (h.0 (case_trees (map case_tree cases)) (all_covered a n k (action_tree case.action ∷ earlier) cases h.1))

  each_covered : (a : Account) (n : ℤ) (k : Known) (earlier : List ActionTree) (ks : List Case) → ((j : ℕ) (case : Case) → j < length ks → case ≡ get_or ks j case → CoversCase question q k (actions_behind earlier (take j ks)) case a n)
      → EachCovered a n k earlier ks
  each_covered a n k earlier [] h = tt
  each_covered a n k earlier (x ∷ ks) h = (h 0 x (omega arith) refl, each_covered a n k (action_tree x.action ∷ earlier) ks (λ j case l e. h (suc j) case (omega arith) e))

  -- the cases at indexes below i are covered
  abbrev pub CoverBelow : Known → List Case → ℕ → Rows → Rows → Type 0
  CoverBelow k cases i start now = Finds question.asked (λ a n. (j : ℕ) → j < i → CoversIndex question q k cases j a n) start now

  pub none_below : (k : Known) (cases : List Case) (rows : Rows) → CoverBelow k cases 0 rows rows
  none_below k cases rows a n h = (h, λ j l. absurd (omega (arith, l)))

  pub one_below : (k : Known) (cases : List Case) (i : ℕ) (start now next : Rows) → CoverBelow k cases i start now → Finds question.asked (CoversIndex question q k cases i) now next → CoverBelow k cases (i + 1) start next
  one_below k cases i start now next below at a n h =
      let u = at a n h in
      let w = below a n u.0 in
      (w.0, below_more (λ j. CoversIndex question q k cases j a n) i w.1 u.1)

  pub all_below : (k : Known) (o : Option Known) (cases : List Case) (i : ℕ) (start now : Rows) → o ≡ Some k → length cases ≤ i → CoverBelow k cases i start now → Finds question.asked (CoversEachIf question q o cases) start now
  all_below k o cases i start now e l below =
      subst (λ (x : Option Known). Finds question.asked (CoversEachIf question q x cases) start now) (sym e)
      (λ a n h. let w = below a n h in (w.0, all_covered a n k [] cases (each_covered a n k [] cases (λ j case b is. w.1 j (omega (arith, b, l)) case is))))

  pub at_index : (k : Known) (cases : List Case) (i : ℕ) (case : Case) (f g : Rows) → i < length cases → case ≡ get_or cases i case → Finds question.asked (CoversBehind question q k (take i cases) case) f g → Finds question.asked (CoversIndex question q k cases i) f g
  at_index k cases i case f g l is at a n h =
      let u = at a n h in
      (u.0, λ other o. subst (λ (x : Case). CoversCase question q k (actions_before (take i cases)) x a n) (same_case cases i case other l is o) u.1)

  -- ---- the last case

  fewer_below : (k : Known) (cases : List Case) (n i : ℕ) (start now : Rows) → n ≤ i → CoverBelow k cases i start now → CoverBelow k cases n start now
  fewer_below k cases n i start now l below a m h =
      let w = below a m h in
      (w.0, λ j b. w.1 j (omega (arith, b, l)))

  pub last_found : (k : Known) (o : Option Known) (cases : List Case) (i : ℕ) (case : Case) (start now next : Rows) → o ≡ Some k → (length cases ≡ 0 → ⊥) → length cases - 1 ≤ i → case ≡ get_or cases (length cases - 1) case → CoverBelow k cases i start now
      → Finds question.asked (CoversBehind question q k (take (length cases - 1) cases) case) now next → Finds question.asked (CoversEachIf question q o cases) start next
  last_found k o cases i case start now next e some end is below at =
      let n = length cases - 1 in
      all_below k o cases (n + 1) start next e (up_to_last (length cases))
      (one_below k cases n start now next (fewer_below k cases n i start now end below) (at_index k cases n case now next (last_below (length cases) some) is at))

  -- ---- where something is known

  pub known_found : (k : Known) (o : Option Known) (c : ContractTree) (f g : Rows) → o ≡ Some k → Finds question.asked (IsCovered question q k c) f g → Finds question.asked (CoversIf question q o c) f g
  known_found k o c f g e go = subst (λ (x : Option Known). Finds question.asked (CoversIf question q x c) f g) (sym e) go

  pub none_found : (o : Option Known) (c : ContractTree) (f : Rows) → o ≡ None → Finds question.asked (CoversIf question q o c) f f
  none_found o c f e = subst (λ (x : Option Known). Finds question.asked (CoversIf question q x c) f f) (sym e) (λ a n h. (h, tt))

  pub no_cases_found : (o : Option Known) (cases : List Case) (f : Rows) → o ≡ None → Finds question.asked (CoversEachIf question q o cases) f f
  no_cases_found o cases f e = subst (λ (x : Option Known). Finds question.asked (CoversEachIf question q x cases) f f) (sym e) (λ a n h. (h, tt))

-- ---- all

module _ (question : Question) (k : Known) (s : StateMaps) (c : ContractTree) (from : Quiet) (none rows : Rows) (start : (scope : Scope) → DescribesStart IsDescribed scope k s) (is : from ≡ quiet_from s.min_time)
    (walked : Finds question.asked (IsCovered question from k c) none rows) where
  nets_from : (p : Party) (t : Token) (n : ℤ) → IsFloor question.asked rows (account_of p t) n → NetsFrom question p t n s c
  nets_from p t n h i g v =
      subst (λ (q : Quiet). Nets question p t n q i (record s { min_time = i.from }) (pos 0) c) is ((walked (account_of p t) n h).1 i (record s { min_time = i.from }) [] (start any_runs i g v tt))

-- of all runs
module _ (k : Known) (s : StateMaps) (c : ContractTree) (question : Question) (from : Quiet) (none rows : Rows) (all : question ≡ of_all_runs) (start : (scope : Scope) → DescribesStart IsDescribed scope k s)
    (is : from ≡ quiet_from s.min_time) (walked : Finds question.asked (IsCovered question from k c) none rows) (law : NetsBoundLosses) where
  loses : (p : Party) (t : Token) (n : ℤ) → IsFloor [] rows (account_of p t) n → LosesAtMost p t (neg_ℤ n) s c
  loses p t n h = law p t n s c (subst (λ (z : Question). IsFloor z.asked rows (account_of p t) n → NetsFrom z p t n s c) all (nets_from question k s c from none rows start is walked p t n) h)

  turned_back : (n : ℤ) → neg_ℤ (neg_ℤ n) ≡ n
  turned_back n = omega (arith, ints)

  most : (p : Party) (t : Token) (o : Option ℤ) → IfSome o (λ n. IsFloor [] rows (account_of p t) (neg_ℤ n)) → IfSome o (λ n. LosesAtMost p t n s c)
  most p t None h = tt
  most p t (Some n) h = subst (λ (m : ℤ). LosesAtMost p t m s c) (turned_back n) (loses p t (neg_ℤ n) h)

  pub lose_within : (losses : List Loss) → AreFloors rows losses → LoseWithin losses s c
  lose_within losses h =
      all_weaker (λ (l : Loss). IfSome l.most (λ n. IsFloor [] rows (account_of l.party l.token) (neg_ℤ n))) (λ (l : Loss). IfSome l.most (λ n. LosesAtMost l.party l.token n s c)) (λ l f. most l.party l.token l.most f) losses h

  no_loss : neg_ℤ (pos 0) ≡ pos 0
  no_loss = omega (arith, ints)

  pub others_lose_nothing : (losses : List Loss) → NameAll rows losses → OthersLoseNothing losses s c
  others_lose_nothing losses h p t u = subst (λ (m : ℤ). LosesAtMost p t m s c) no_loss (loses p t (pos 0) (h p t u))

-- of those in which a party keeps up
pub rows_hold : (net : Bool) (party : Party) (asked : List Account) (k : Known) (s : StateMaps) (c : ContractTree) (question : Question) (from : Quiet) (none rows : Rows) → question ≡ while_keeping_up party net asked
    → ((scope : Scope) → DescribesStart IsDescribed scope k s) → from ≡ quiet_from s.min_time → Finds question.asked (IsCovered question from k c) none rows → NetsBoundKept → RowsHoldWhile net party asked rows s c
rows_hold net party asked k s c question from none rows all start is walked law t n h =
    law net asked party t n s c
    (subst (λ (z : Question). IsFloor z.asked rows (account_of party t) n → NetsFrom z party t n s c) all (nets_from question k s c from none rows start is walked party t n) h)
