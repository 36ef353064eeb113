-- Which places a walk leaves out, step by step.
use Rattle.std.proofs.Common.{◌≡◌, ℕ, zero, suc, ◌<◌, ℤ, true, cond, ◌&&◌, List, [], ◌∷◌, ◌++◌, append_assoc, map, take, length, refl, sym, ap, ◌∙◌, subst, Option, Some, None, IfSome, ◌⊎◌, inl, inr, arith}
use Rattle.std.proofs.Math.ListN.{get_or}
use Rattle.std.proofs.lemmas.List.{append-nil}
use Rattle.std.specs.List.{list_any, AllByRecursion}
use Rattle.std.specs.Option.{IsSomeAnd}
use Rattle.std.specs.Ordering.{int_eq}
use Rattle.contract.specs.Names.declared.party.Party.{Party}
use Rattle.contract.specs.Names.declared.payee.Payee.{Payee}
use Rattle.contract.specs.Names.declared.token.Token.{Token}
use Rattle.contract.specs.Names.declared.choice_id.ChoiceId.{ChoiceId}
use Rattle.contract.specs.Names.Equal.{same_choice_id}
use Rattle.contract.proofs.FromNames.EqualLaws.{same_choice_id_decides}
use Rattle.contract.specs.declared.input.Input.{Input}
use Rattle.contract.specs.declared.input.Input.TheVariants.{Deposit, Choice, Notify}
use Rattle.contract.specs.declared.interval.Interval.{Interval}
use Rattle.contract.specs.declared.payment.Payment.{Payment}
use Rattle.contract.specs.declared.tree.Case.{Case}
use Rattle.contract.specs.declared.tree.Contract.{Contract}
use Rattle.contract.specs.Tree.{ValueTree, ObservationTree, ActionTree, deposit, choice, notify, ContractTree, CaseTrees, close, pay, if_obs, when, let_be, assert, case_then, action_tree, contract_tree, case_tree, case_trees}
use Rattle.contract.proofs.TreeLaws.{case_tree-parts}
use Rattle.contract.specs.States.States.{StateMaps}
use Rattle.semantics.specs.Evaluation.Evaluation.{eval, visited, holds, looked}
use Rattle.semantics.specs.Reduction.{binding, asserting}
use Rattle.semantics.specs.Applying.{in_bound, matches, taken, taken_numbers, taken_warnings}
use Rattle.semantics.specs.Computed.{pay_step}
use Rattle.analysis_spec.specs.declared.path.PathStep.{PathStep}
use Rattle.analysis_spec.specs.declared.path.PathStep.TheVariants.{Then, Else, TimeoutContinuation, Case as InCase}
use Rattle.analysis_spec.specs.Places.{behind_case, part_behind, IsPart}
use Rattle.analysis_spec.specs.Promises.{NeverReached}
use Rattle.analysis_spec.specs.Analysed.{AreNeverReached}
use Rattle.analysis_walk.specs.declared.conclusion.Conclusion.{Conclusion}
use Rattle.analysis_walk.specs.declared.conclusion.Branches.{Branches}
use Rattle.analysis_walk.specs.declared.found.Found.{Found}
use Rattle.analysis_walk.specs.Limits.{any_runs, Allowed}
use Rattle.analysis_walk.specs.Covered.{NoneTakes}
use Rattle.analysis_walk.specs.Conclusions.{Description, PaysSo, BindsSo, AssertsSo, ObservesSo, IsLater, WaitsSo, TimesOutSo, DescribesStart}
use Rattle.analysis_walk.specs.Knowledge.{TakesSo, actions_behind, actions_before}
use Rattle.analysis_walk.specs.Avoided.{Avoids, AvoidsCase, IsAvoided, IsCaseAvoided, IsTakenAvoided}
use Rattle.analysis_walk.specs.LeftOut.{LeavesOut, IsBehind, IsBehindCase, IsLeftOut, IsLeftOutNext, IsLeftOutOfBoth, IsLeftOutOfCases, IsLeftOutOfCase}
use Rattle.analysis_walk.specs.Laws.{AvoidedIsNeverReached}
use Rattle.analysis_walk.proofs.ListLaws.{both, all_append, all_weaker}
use Rattle.analysis_walk.proofs.PlacesLemmas.{behind_at}
use Rattle.analysis_walk.proofs.WalkLaws.{same_deposit}

-- ---- where nothing is known

pub none_known : {K : Type 0} (o : Option K) → ((m : K) → o ≡ Some m → ⊥) → o ≡ None
none_known None h = refl
none_known (Some m) h = absurd (h m refl)

pub if_none : {K : Type 0} (P : K → Type 0) (o : Option K) → o ≡ None → IfSome o P
if_none P o e = subst (λ x. IfSome x P) (sym e) tt

-- ---- places that are left out

pub none_left : (P : List PathStep → Type 0) (f g : Found) → g.unreached ≡ f.unreached → LeavesOut P f g
none_left P f g e = record { more = []; put = e ∙ sym (append-nil f.unreached); each = tt }

-- behind what leaves nothing out, and of which more holds
pub left_on : (P Q : List PathStep → Type 0) → ((place : List PathStep) → P place → Q place) → (f g h : Found) → g.unreached ≡ f.unreached → LeavesOut P g h → LeavesOut Q f h
left_on P Q w f g h e l = record { more = l.more; put = l.put ∙ ap (λ u. u ++ l.more) e; each = all_weaker P Q w l.more l.each }

pub left_both : (P Q R : List PathStep → Type 0) → ((place : List PathStep) → P place → R place) → ((place : List PathStep) → Q place → R place) → (f g h : Found) → LeavesOut P f g → LeavesOut Q g h → LeavesOut R f h
left_both P Q R w v f g h l m = record {
  more = l.more ++ m.more;
  put = m.put ∙ (ap (λ u. u ++ m.more) l.put ∙ append_assoc f.unreached l.more m.more);
  each = all_append R l.more m.more (all_weaker P R w l.more l.each) (all_weaker Q R v m.more m.each);
}

-- what is left out behind a place is so behind the same one
pub moved_left : (P : List PathStep → List PathStep → Type 0) (p q : List PathStep) (f g : Found) → p ≡ q → LeavesOut (P p) f g → LeavesOut (P q) f g
moved_left P p q f g e l = subst (λ (x : List PathStep). LeavesOut (P x) f g) e l

-- a place behind a part is behind what holds the part
step_behind : (here : List PathStep) (step : PathStep) (c d : ContractTree) (P Q : List PathStep → Type 0) → part_behind d step ≡ Some c → ((path : List PathStep) → P path → Q (step ∷ path)) → (place : List PathStep)
    → IsBehind (here ++ step ∷ []) c P place → IsBehind here d Q place
step_behind here step c d P Q e w place b = record {
  path = step ∷ b.path;
  behind = b.behind ∙ append_assoc here (step ∷ []) b.path;
  is_part = subst (λ (o : Option ContractTree). IsSomeAnd o (IsPart b.path)) (sym e) b.is_part;
  so = w b.path b.so;
}

-- ---- cases that are left out

is_case : (ks : List Case) (n : ℕ) → n < length ks → IsSomeAnd (behind_case (case_trees (map case_tree ks)) n) (IsPart [])
is_case [] n l = absurd (omega arith)
is_case (x ∷ ks) zero l = tt
is_case (x ∷ ks) (suc n) l = is_case ks n (omega arith)

pub one_left_out : (here : List PathStep) (ks : List Case) (n : ℕ) (f g h : Found) → n < length ks → LeavesOut (IsBehindCase here (case_trees (map case_tree ks)) (λ n path. Unit {0})) f g
    → h.unreached ≡ g.unreached ++ (here ++ InCase n ∷ []) ∷ [] → LeavesOut (IsBehindCase here (case_trees (map case_tree ks)) (λ n path. Unit {0})) f h
one_left_out here ks n f g h l m e =
    let P = IsBehindCase here (case_trees (map case_tree ks)) (λ n path. Unit {0}) in
    let one : LeavesOut P g h = record { more = (here ++ InCase n ∷ []) ∷ []; put = e; each = (record { index = n; path = []; behind = refl; is_part = is_case ks n l; so = tt }, tt) } in
    left_both P P P (λ place b. b) (λ place b. b) f g h m one

-- ---- what is avoided

all_any : (ns : List ℤ) → AllByRecursion (Allowed any_runs) ns
all_any [] = tt
all_any (n ∷ ns) = (tt, all_any ns)

both_known : {K : Type 0} (P Q : K → Type 0) (o : Option K) → IfSome o Q → IsSomeAnd o P → (m : K) × P m × Q m
both_known P Q None h k = absurd k
both_known P Q (Some m) h k = (m, k, h)

module _ {K : Type 0} (Describes : Description K) where
  abbrev IfAvoided : Option K → ContractTree → List PathStep → Type 0
  IfAvoided o c path = IfSome o (λ m. IsAvoided Describes m c path)

  pay_avoided : (k : K) (p : Party) (y : Payee) (t : Token) (v : ValueTree) (c : ContractTree) (x : Conclusion K) → PaysSo Describes k p y t v x → (path : List PathStep) → IfAvoided x.known c path → IsAvoided Describes k (pay p y t v c) (Then ∷ path)
  pay_avoided k p y t v c x so path go i s ps d =
      let r = pay_step s p y t (eval i s v) (visited i s v) c in
      let m = both_known (λ m. Describes any_runs m i r.state (ps ++ r.payments)) (λ m. IsAvoided Describes m c path) x.known go ((so any_runs i s ps c d).known (all_any r.numbers)) in
      m.2 i r.state (ps ++ r.payments) m.1

  let_avoided : (k : K) (name : List ℕ) (v : ValueTree) (c : ContractTree) (x : Conclusion K) → BindsSo Describes k name v x → (path : List PathStep) → IfAvoided x.known c path → IsAvoided Describes k (let_be name v c) (Then ∷ path)
  let_avoided k name v c x so path go i s ps d =
      let r = binding s name (eval i s v) (visited i s v) c in
      let m = both_known (λ m. Describes any_runs m i r.state ps) (λ m. IsAvoided Describes m c path) x.known go ((so any_runs i s ps c d).known (all_any r.numbers)) in
      m.2 i r.state ps m.1

  assert_avoided : (k : K) (o : ObservationTree) (c : ContractTree) (x : Conclusion K) → AssertsSo Describes k o x → (path : List PathStep) → IfAvoided x.known c path → IsAvoided Describes k (assert o c) (Then ∷ path)
  assert_avoided k o c x so path go i s ps d =
      let r = asserting s (holds i s o) (looked i s o) c in
      let m = both_known (λ m. Describes any_runs m i s ps) (λ m. IsAvoided Describes m c path) x.known go ((so any_runs i s ps c d).known (all_any r.numbers)) in
      m.2 i s ps m.1

  then_avoided : (k : K) (o : ObservationTree) (c e : ContractTree) (x : Branches K) → ObservesSo Describes k o x → (path : List PathStep) → IfAvoided x.if_true c path → IsAvoided Describes k (if_obs o c e) (Then ∷ path)
  then_avoided k o c e x so path go i s ps d q =
      let P : K → Type 0 = λ m. Describes any_runs m i s ps in
      let m = both_known P (λ m. IsAvoided Describes m c path) x.if_true go (subst (λ b. IsSomeAnd (cond b x.if_true x.if_false) P) q ((so any_runs i s ps d).known (all_any (looked i s o)))) in
      m.2 i s ps m.1

  else_avoided : (k : K) (o : ObservationTree) (c e : ContractTree) (x : Branches K) → ObservesSo Describes k o x → (path : List PathStep) → IfAvoided x.if_false e path → IsAvoided Describes k (if_obs o c e) (Else ∷ path)
  else_avoided k o c e x so path go i s ps d q =
      let P : K → Type 0 = λ m. Describes any_runs m i s ps in
      let m = both_known P (λ m. IsAvoided Describes m e path) x.if_false go (subst (λ b. IsSomeAnd (cond b x.if_true x.if_false) P) q ((so any_runs i s ps d).known (all_any (looked i s o)))) in
      m.2 i s ps m.1

  timeout_avoided : (k l : K) (ks : CaseTrees) (t : ℤ) (c : ContractTree) (u : Option K) → IsLater Describes k l → TimesOutSo Describes l t u → (path : List PathStep) → IfAvoided u c path → IsAvoided Describes k (when ks t c) (TimeoutContinuation ∷ path)
  timeout_avoided k l ks t c u later out path go i s ps d j now g v q =
      let n : StateMaps = record s { min_time = now } in
      let m = both_known (λ m. Describes any_runs m j n ps) (λ m. IsAvoided Describes m c path) u go (out any_runs j n ps (later any_runs i j s ps now d g v tt) q) in
      m.2 j n ps m.1

  cases_avoided : (k l : K) (ks : CaseTrees) (t : ℤ) (c : ContractTree) (o : Option K) → IsLater Describes k l → WaitsSo Describes l t o → (index : ℕ) (path : List PathStep) → IfSome o (λ m. IsCaseAvoided Describes m ks index path)
      → IsAvoided Describes k (when ks t c) (InCase index ∷ path)
  cases_avoided k l ks t c o later waits index path go i s ps d j now g v q =
      let n : StateMaps = record s { min_time = now } in
      let m = both_known (λ m. Describes any_runs m j n ps) (λ m. IsCaseAvoided Describes m ks index path) o go (waits any_runs j n ps (later any_runs i j s ps now d g v tt) q) in
      m.2 j n ps m.1

  take_avoided : (k : K) (earlier : List ActionTree) (a : ActionTree) (c : ContractTree) (x : Conclusion K) → TakesSo Describes k earlier a x → (path : List PathStep) → IfAvoided x.known c path → IsTakenAvoided Describes k earlier a c path
  take_avoided k earlier (deposit b q u v) c x so path go i s ps (Deposit a p t n) d z e =
      let y : Input = Deposit b q u (eval i s v) in
      let it : NoneTakes i s y earlier → Avoids i (taken s y) ps c path = λ w.
      let m = both_known (λ m. Describes any_runs m i (taken s y) ps) (λ m. IsAvoided Describes m c path) x.known go (((so any_runs i s ps d).1 w).known (all_any (visited i s v ++ taken_numbers s y))) in
      m.2 i (taken s y) ps m.1
      in
      let l = same_deposit a p t n b q u (eval i s v) e in
      let R : Party → Party → Token → ℤ → Type 0 = λ a p t n. NoneTakes i s (Deposit a p t n) earlier → Avoids i (taken s (Deposit a p t n)) ps c path in
      let same : R a p t n = subst (λ a. R a p t n) l.0 (subst (λ p. R b p t n) l.1 (subst (λ t. R b q t n) l.2 (subst (λ n. R b q u n) l.3 it))) in
      same z
  take_avoided k earlier (deposit b q u v) c x so path go i s ps (Choice id n) d z e = absurd (cc)
  take_avoided k earlier (deposit b q u v) c x so path go i s ps Notify d z e = absurd (cc)
  take_avoided k earlier (choice jd bounds) c x so path go i s ps (Deposit a p t n) d z e = absurd (cc)
  take_avoided k earlier (choice jd bounds) c x so path go i s ps (Choice id n) d z e =
      let l = both (same_choice_id id jd) (list_any (in_bound n) bounds) e in
      let q = (same_choice_id_decides id jd).0 l.0 in
      let y : Input = Choice jd n in
      let w = so any_runs i s ps n d (subst (λ (w : ChoiceId). NoneTakes i s (Choice w n) earlier) q z) l.1 in
      let m = both_known (λ m. Describes any_runs m i (taken s y) ps) (λ m. IsAvoided Describes m c path) x.known go (w.known tt) in
      subst (λ (w : ChoiceId). Avoids i (taken s (Choice w n)) ps c path) (sym q) (m.2 i (taken s y) ps m.1)
  take_avoided k earlier (choice jd bounds) c x so path go i s ps Notify d z e = absurd (cc)
  take_avoided k earlier (notify o) c x so path go i s ps (Deposit a p t n) d z e = absurd (cc)
  take_avoided k earlier (notify o) c x so path go i s ps (Choice id n) d z e = absurd (cc)
  take_avoided k earlier (notify o) c x so path go i s ps Notify d z e =
      let m = both_known (λ m. Describes any_runs m i s ps) (λ m. IsAvoided Describes m c path) x.known go (((so any_runs i s ps d).1 z e).known (all_any (looked i s o))) in
      m.2 i s ps m.1

  place_avoided : (k : K) (earlier : List ActionTree) (ks : List Case) (n : ℕ) (case : Case) (path : List PathStep) → n < length ks → case ≡ get_or ks n case
      → IsTakenAvoided Describes k (actions_behind earlier (take n ks)) (action_tree case.action) (contract_tree case.then) path
      → (i : Interval) (s : StateMaps) (ps : List Payment) → Describes any_runs k i s ps → AvoidsCase i s ps earlier (case_trees (map case_tree ks)) n path
  place_avoided k earlier [] n case path l is h i s ps d = absurd (omega arith)
  place_avoided k earlier (x ∷ ks) zero case path l is h i s ps d =
      subst (λ (z : ActionTree × ContractTree). AvoidsCase i s ps earlier (case_then z.0 z.1 (case_trees (map case_tree ks))) zero path) (sym (case_tree-parts x))
      (subst (λ (y : Case). (w : Input) → NoneTakes i s w earlier → matches i s w (action_tree y.action) ≡ true → Avoids i (taken s w) ps (contract_tree y.then) path) is (λ w. h i s ps w d))
  place_avoided k earlier (x ∷ ks) (suc n) case path l is h i s ps d =
      subst (λ (z : ActionTree × ContractTree). AvoidsCase i s ps earlier (case_then z.0 z.1 (case_trees (map case_tree ks))) (suc n) path) (sym (case_tree-parts x))
      (place_avoided k (action_tree x.action ∷ earlier) ks n case path (omega arith) is h i s ps d)

  module _ (here : List PathStep) where
    -- ---- one step on

    pub known_left : (next : List PathStep) (step : PathStep) (m : K) (o : Option K) (c : Contract) (f g : Found) → next ≡ here ++ step ∷ [] → o ≡ Some m → LeavesOut (IsLeftOut Describes next m (contract_tree c)) f g
        → LeavesOut (IsLeftOutNext Describes here step o c) f g
    known_left next step m o c f g e q l =
        let P = IsLeftOut Describes next m (contract_tree c) in
        let Q = IsLeftOutNext Describes here step o c in
        left_on P Q (λ place b. record {
          path = b.path;
          behind = b.behind ∙ ap (λ at. at ++ b.path) e;
          is_part = b.is_part;
          so = subst (λ (x : Option K). IfAvoided x (contract_tree c) b.path) (sym q) b.so;
        }) f f g refl l

    pub next_left : (step : PathStep) (o : Option K) (c : Contract) (f g : Found) → o ≡ None → g.unreached ≡ f.unreached ++ (here ++ step ∷ []) ∷ [] → LeavesOut (IsLeftOutNext Describes here step o c) f g
    next_left step o c f g q e = record {
      more = (here ++ step ∷ []) ∷ [];
      put = e;
      each = (record { path = []; behind = sym (append-nil (here ++ step ∷ [])); is_part = tt; so = subst (λ (x : Option K). IfAvoided x (contract_tree c) []) (sym q) tt }, tt);
    }

    -- ---- a contract

    pub tree_left : (k : K) (tree c : ContractTree) (f g : Found) → tree ≡ c → LeavesOut (IsLeftOut Describes here k c) f g → LeavesOut (IsLeftOut Describes here k tree) f g
    tree_left k tree c f g e l = subst (λ (x : ContractTree). LeavesOut (IsLeftOut Describes here k x) f g) (sym e) l

    pub pay_left : (tree : ContractTree) (k : K) (p : Party) (y : Payee) (t : Token) (v : ValueTree) (c : Contract) (x : Conclusion K) (f g h : Found) → tree ≡ pay p y t v (contract_tree c) → PaysSo Describes k p y t v x
        → g.unreached ≡ f.unreached → LeavesOut (IsLeftOutNext Describes here Then x.known c) g h → LeavesOut (IsLeftOut Describes here k tree) f h
    pay_left tree k p y t v c x f g h e so same l =
        let d = pay p y t v (contract_tree c) in
        tree_left k tree d f h e
        (left_on (IsLeftOutNext Describes here Then x.known c) (IsLeftOut Describes here k d)
        (step_behind here Then (contract_tree c) d (IfAvoided x.known (contract_tree c)) (IsAvoided Describes k d) refl (pay_avoided k p y t v (contract_tree c) x so)) f g h same l)

    pub let_left : (tree : ContractTree) (k : K) (name : List ℕ) (v : ValueTree) (c : Contract) (x : Conclusion K) (f g h : Found) → tree ≡ let_be name v (contract_tree c) → BindsSo Describes k name v x
        → g.unreached ≡ f.unreached → LeavesOut (IsLeftOutNext Describes here Then x.known c) g h → LeavesOut (IsLeftOut Describes here k tree) f h
    let_left tree k name v c x f g h e so same l =
        let d = let_be name v (contract_tree c) in
        tree_left k tree d f h e
        (left_on (IsLeftOutNext Describes here Then x.known c) (IsLeftOut Describes here k d)
        (step_behind here Then (contract_tree c) d (IfAvoided x.known (contract_tree c)) (IsAvoided Describes k d) refl (let_avoided k name v (contract_tree c) x so)) f g h same l)

    pub assert_left : (tree : ContractTree) (k : K) (o : ObservationTree) (c : Contract) (x : Conclusion K) (f g h : Found) → tree ≡ assert o (contract_tree c) → AssertsSo Describes k o x
        → g.unreached ≡ f.unreached → LeavesOut (IsLeftOutNext Describes here Then x.known c) g h → LeavesOut (IsLeftOut Describes here k tree) f h
    assert_left tree k o c x f g h e so same l =
        let d = assert o (contract_tree c) in
        tree_left k tree d f h e
        (left_on (IsLeftOutNext Describes here Then x.known c) (IsLeftOut Describes here k d)
        (step_behind here Then (contract_tree c) d (IfAvoided x.known (contract_tree c)) (IsAvoided Describes k d) refl (assert_avoided k o (contract_tree c) x so)) f g h same l)

    pub if_left : (tree : ContractTree) (k : K) (o : ObservationTree) (c e : Contract) (x : Branches K) (f g h : Found) → tree ≡ if_obs o (contract_tree c) (contract_tree e) → ObservesSo Describes k o x
        → g.unreached ≡ f.unreached → LeavesOut (IsLeftOutOfBoth Describes here x.if_true c x.if_false e) g h → LeavesOut (IsLeftOut Describes here k tree) f h
    if_left tree k o c e x f g h is so same l =
        let d = if_obs o (contract_tree c) (contract_tree e) in
        let one : (place : List PathStep) → IsLeftOutOfBoth Describes here x.if_true c x.if_false e place → IsLeftOut Describes here k d place = λ place. elim [
          | inl b ↦ step_behind here Then (contract_tree c) d (IfAvoided x.if_true (contract_tree c)) (IsAvoided Describes k d) refl (then_avoided k o (contract_tree c) (contract_tree e) x so) place b
          | inr b ↦ step_behind here Else (contract_tree e) d (IfAvoided x.if_false (contract_tree e)) (IsAvoided Describes k d) refl (else_avoided k o (contract_tree c) (contract_tree e) x so) place b
        ] in
        tree_left k tree d f h is (left_on (IsLeftOutOfBoth Describes here x.if_true c x.if_false e) (IsLeftOut Describes here k d) one f g h same l)

    -- ---- a When

    of_cases : (k l : K) (cases : List Case) (t : ℤ) (c : ContractTree) (o : Option K) → IsLater Describes k l → WaitsSo Describes l t o → (place : List PathStep) → IsLeftOutOfCases Describes here o cases place
        → IsLeftOut Describes here k (when (case_trees (map case_tree cases)) t c) place
    of_cases k l cases t c o later waits place b =
        let ks = case_trees (map case_tree cases) in
        record { path = InCase b.index ∷ b.path; behind = b.behind; is_part = b.is_part; so = cases_avoided k l ks t c o later waits b.index b.path b.so }

    of_timeout : (k l : K) (cases : List Case) (t : ℤ) (c : Contract) (u : Option K) → IsLater Describes k l → TimesOutSo Describes l t u → (place : List PathStep) → IsLeftOutNext Describes here TimeoutContinuation u c place
        → IsLeftOut Describes here k (when (case_trees (map case_tree cases)) t (contract_tree c)) place
    of_timeout k l cases t c u later out place b =
        let d = when (case_trees (map case_tree cases)) t (contract_tree c) in
        step_behind here TimeoutContinuation (contract_tree c) d (IfAvoided u (contract_tree c)) (IsAvoided Describes k d) refl (timeout_avoided k l (case_trees (map case_tree cases)) t (contract_tree c) u later out) place b

    pub waiting_left : (k l : K) (cases : List Case) (t : ℤ) (c : ContractTree) (o : Option K) (f g h : Found) → IsLater Describes k l → WaitsSo Describes l t o → g.unreached ≡ f.unreached
        → LeavesOut (IsLeftOutOfCases Describes here o cases) g h → LeavesOut (IsLeftOut Describes here k (when (case_trees (map case_tree cases)) t c)) f h
    waiting_left k l cases t c o f g h later waits same m =
        left_on (IsLeftOutOfCases Describes here o cases) (IsLeftOut Describes here k (when (case_trees (map case_tree cases)) t c)) (of_cases k l cases t c o later waits) f g h same m

    pub cases_first_left : (k l : K) (cases : List Case) (t : ℤ) (c : Contract) (o u : Option K) (f g h : Found) → IsLater Describes k l → WaitsSo Describes l t o → TimesOutSo Describes l t u
        → LeavesOut (IsLeftOutOfCases Describes here o cases) f g → LeavesOut (IsLeftOutNext Describes here TimeoutContinuation u c) g h → LeavesOut (IsLeftOut Describes here k (when (case_trees (map case_tree cases)) t (contract_tree c))) f h
    cases_first_left k l cases t c o u f g h later waits out m n =
        left_both (IsLeftOutOfCases Describes here o cases) (IsLeftOutNext Describes here TimeoutContinuation u c) (IsLeftOut Describes here k (when (case_trees (map case_tree cases)) t (contract_tree c)))
        (of_cases k l cases t (contract_tree c) o later waits) (of_timeout k l cases t c u later out) f g h m n

    pub timeout_first_left : (k l : K) (cases : List Case) (t : ℤ) (c : Contract) (o u : Option K) (f g h : Found) → IsLater Describes k l → WaitsSo Describes l t o → TimesOutSo Describes l t u
        → LeavesOut (IsLeftOutNext Describes here TimeoutContinuation u c) f g → LeavesOut (IsLeftOutOfCases Describes here o cases) g h → LeavesOut (IsLeftOut Describes here k (when (case_trees (map case_tree cases)) t (contract_tree c))) f h
    timeout_first_left k l cases t c o u f g h later waits out n m =
        left_both (IsLeftOutNext Describes here TimeoutContinuation u c) (IsLeftOutOfCases Describes here o cases) (IsLeftOut Describes here k (when (case_trees (map case_tree cases)) t (contract_tree c)))
        (of_timeout k l cases t c u later out) (of_cases k l cases t (contract_tree c) o later waits) f g h n m

    -- ---- cases

    pub no_cases_left : (o : Option K) (cases : List Case) (f g : Found) → o ≡ None → LeavesOut (IsBehindCase here (case_trees (map case_tree cases)) (λ n path. Unit {0})) f g → LeavesOut (IsLeftOutOfCases Describes here o cases) f g
    no_cases_left o cases f g q l =
        let ks = case_trees (map case_tree cases) in
        left_on (IsBehindCase here ks (λ n path. Unit {0})) (IsLeftOutOfCases Describes here o cases)
        (λ place b. record { index = b.index; path = b.path; behind = b.behind; is_part = b.is_part; so = subst (λ (x : Option K). IfSome x (λ m. IsCaseAvoided Describes m ks b.index b.path)) (sym q) tt }) f f g refl l

    pub known_cases_left : (k : K) (o : Option K) (cases : List Case) (f g : Found) → o ≡ Some k → LeavesOut (IsLeftOutOfCases Describes here (Some k) cases) f g → LeavesOut (IsLeftOutOfCases Describes here o cases) f g
    known_cases_left k o cases f g q l = subst (λ (x : Option K). LeavesOut (IsLeftOutOfCases Describes here x cases) f g) (sym q) l

    pub more_cases_left : (k : K) (cases : List Case) (f g h : Found) → LeavesOut (IsLeftOutOfCases Describes here (Some k) cases) f g → LeavesOut (IsLeftOutOfCases Describes here (Some k) cases) g h
        → LeavesOut (IsLeftOutOfCases Describes here (Some k) cases) f h
    more_cases_left k cases f g h l m = let P = IsLeftOutOfCases Describes here (Some k) cases in left_both P P P (λ place b. b) (λ place b. b) f g h l m

    pub case_left : (k : K) (earlier : List Case) (case : Case) (x : Conclusion K) (f g h : Found) → TakesSo Describes k (actions_before earlier) (action_tree case.action) x → g.unreached ≡ f.unreached
        → LeavesOut (IsLeftOutNext Describes here (InCase (length earlier)) x.known case.then) g h → LeavesOut (IsLeftOutOfCase Describes here k earlier case) f h
    case_left k earlier case x f g h so same l =
        let c = contract_tree case.then in
        left_on (IsLeftOutNext Describes here (InCase (length earlier)) x.known case.then) (IsLeftOutOfCase Describes here k earlier case)
        (λ place b. record { path = b.path; behind = b.behind; is_part = b.is_part; so = take_avoided k (actions_before earlier) (action_tree case.action) c x so b.path b.so }) f g h same l

    -- the case at an index
    pub at_index_left : (k : K) (cases : List Case) (n : ℕ) (case : Case) (f g : Found) → n < length cases → case ≡ get_or cases n case → length (take n cases) ≡ n → LeavesOut (IsLeftOutOfCase Describes here k (take n cases) case) f g
        → LeavesOut (IsLeftOutOfCases Describes here (Some k) cases) f g
    at_index_left k cases n case f g l is q m =
        left_on (IsLeftOutOfCase Describes here k (take n cases) case) (IsLeftOutOfCases Describes here (Some k) cases)
        (λ place b. record {
          index = n;
          path = b.path;
          behind = b.behind ∙ (append_assoc here (InCase (length (take n cases)) ∷ []) b.path ∙ ap (λ j. here ++ InCase j ∷ b.path) q);
          is_part = subst (λ (o : Option ContractTree). IsSomeAnd o (IsPart b.path)) (sym (behind_at cases n case l is)) b.is_part;
          so = λ i s ps d. place_avoided k [] cases n case b.path l is b.so i s ps d;
        }) f f g refl m

-- ---- a walk from the start

pub left_never_reached : {K : Type 0} (Describes : Description K) (k : K) (s : StateMaps) (c : ContractTree) → DescribesStart Describes any_runs k s → AvoidedIsNeverReached → (none found : Found) → none.unreached ≡ []
    → LeavesOut (IsLeftOut Describes [] k c) none found → AreNeverReached found.unreached s c
left_never_reached Describes k s c start law none found e l =
    subst (λ places. AreNeverReached places s c) (sym (l.put ∙ ap (λ u. u ++ l.more) e))
    (all_weaker (IsLeftOut Describes [] k c) (λ place. IsPart place c × NeverReached place s c)
    (λ place b. subst (λ at. IsPart at c × NeverReached at s c) (sym b.behind) (b.is_part, law s c b.path (λ i g v. b.so i (record s { min_time = i.from }) [] (start i g v tt)))) l.more l.each)
