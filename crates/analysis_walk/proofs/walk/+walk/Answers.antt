use Rattle.std.proofs.Common.{◌≡◌, refl, sym, ◌∙◌, ap, subst, Option, Some, None, inl, inr, ◌<◌, List, [], ◌∷◌, ◌++◌, length, take, map, arith, rules, w64, SFits}
use Rattle.std.proofs.lemmas.Grind.{common_steps}
use Rattle.std.proofs.lemmas.Int.{to_z-of_z}
use Rattle.std.proofs.lemmas.List.{length-take-le}
use Rattle.contract.specs.Tree.{value_tree, observation_tree, contract_tree, case_tree, case_trees, when}
use Rattle.analysis_spec.specs.declared.path.PathStep.{PathStep}
use Rattle.analysis_spec.specs.declared.path.PathStep.TheVariants.{Then, Else, TimeoutContinuation, Case as InCase}
use Rattle.analysis_walk.specs.Conclusions.{WaitsSo, TimesOutSo}
use Rattle.analysis_walk.specs.Knowledge.{actions_before, ClosesBy}
use Rattle.analysis_walk.specs.Found.{Finds, TellsOf, Covers, CoversIf, CoversCasesIf, CoversCase, CoversUnless}
use Rattle.analysis_walk.proofs.FoundLemmas.{first_of, second_of, moved, known_found, tree_found, close_found, pay_found, let_found, assert_found, if_found, cases_first, timeout_first, closed_first, case_found, one_below, all_below, known_cases, all_found, at_place, not_last, last_found}
use Rattle.analysis_walk.specs.LeftOut.{LeavesOut, IsBehindCase, IsLeftOut, IsLeftOutNext, IsLeftOutOfBoth, IsLeftOutOfCases, IsLeftOutOfCase}
use Rattle.analysis_walk.proofs.LeftOutLemmas.{none_known, if_none, moved_left, left_both, known_left, next_left, tree_left, pay_left, let_left, assert_left, if_left, waiting_left, cases_first_left, timeout_first_left, no_cases_left, known_cases_left, more_cases_left, case_left, at_index_left}
use Rattle.analysis_walk.proofs.NodesLemmas.{is-Close, is-Pay, is-Let, is-Assert, is-If, is-When, nodes-at}
use Rattle.analysis_walk.proofs.walk.+walk.Goals as goal

-- ---- a contract

pub go_on-returns-clause-found : goal.go_on-returns-clause-found
go_on-returns-clause-found g t c =
    known_found g.K.Knowledge.describes c.push.new.self.items (c.args.place.now.items ++ c.args.step ∷ []) c.in-Some.there c.args.known (contract_tree c.args.contract.now) c.args.found.now c.walk.new.found
    c.in_ok-push.ensures.items c.in-Some.is c.in_ok-walk.ensures.found

pub walk-returns-in_ok-close-in-Close-clause-found : goal.walk-returns-in_ok-close-in-Close-clause-found
walk-returns-in_ok-close-in-Close-clause-found g t c =
    let D = g.K.Knowledge.describes in
    let d = c.args.contract.now in
    close_found D c.args.place.now.items (contract_tree d) c.args.known c.as_slice.result.now c.args.found.now c.close-in-Close.new.self (is-Close d c.in-Close.is)
    (subst (ClosesBy D c.args.known) (sym c.as_slice.ensures.all) c.in_ok-spans-in-Close.ensures) c.in_ok-close-in-Close.ensures.found

pub walk-returns-in_ok-go_on-in-Pay-clause-found : goal.walk-returns-in_ok-go_on-in-Pay-clause-found
walk-returns-in_ok-go_on-in-Pay-clause-found g t c =
    let d = c.args.contract.now in
    let p = c.in-Pay in
    let x = c.in_ok-kinds-in-Pay.field-0 in
    pay_found g.K.Knowledge.describes c.args.place.now.items (contract_tree d) c.args.known p.from p.to p.token (value_tree p.amount) (contract_tree c.get.result.now) x.kinds x.known c.args.found.now c.raise.new.self c.go_on.new.found
    (is-Pay d p.from p.to p.token p.amount p.then c.get.result.now p.is c.get.ensures) c.in_ok-kinds-in-Pay.ensures
    (subst (λ (here : List PathStep). Finds (TellsOf here x.kinds) c.args.found.now c.raise.new.self) c.deref.ensures.value c.in_ok-raise-in-Pay.ensures.found) c.in_ok-go_on-in-Pay.ensures.found

pub walk-returns-in_ok-go_on-in-Let-clause-found : goal.walk-returns-in_ok-go_on-in-Let-clause-found
walk-returns-in_ok-go_on-in-Let-clause-found g t c =
    let d = c.args.contract.now in
    let p = c.in-Let in
    let x = c.in_ok-kinds-in-Let.field-0 in
    let_found g.K.Knowledge.describes c.args.place.now.items (contract_tree d) c.args.known p.name (value_tree p.value) (contract_tree c.get-in-Let.result.now) x.kinds x.known c.args.found.now c.raise-in-Let.new.self c.go_on-in-Let.new.found
    (is-Let d p.name p.value p.then c.get-in-Let.result.now p.is c.get-in-Let.ensures) c.in_ok-kinds-in-Let.ensures
    (subst (λ (here : List PathStep). Finds (TellsOf here x.kinds) c.args.found.now c.raise-in-Let.new.self) c.deref-in-Let.ensures.value c.in_ok-raise-in-Let.ensures.found) c.in_ok-go_on-in-Let.ensures.found

pub walk-returns-in_ok-go_on-in-Assert-clause-found : goal.walk-returns-in_ok-go_on-in-Assert-clause-found
walk-returns-in_ok-go_on-in-Assert-clause-found g t c =
    let d = c.args.contract.now in
    let p = c.in-Assert in
    let x = c.in_ok-kinds-in-Assert.field-0 in
    assert_found g.K.Knowledge.describes c.args.place.now.items (contract_tree d) c.args.known (observation_tree p.observation) (contract_tree c.get-in-Assert.result.now) x.kinds x.known c.args.found.now c.raise-in-Assert.new.self c.go_on-in-Assert.new.found
    (is-Assert d p.observation p.then c.get-in-Assert.result.now p.is c.get-in-Assert.ensures) c.in_ok-kinds-in-Assert.ensures
    (subst (λ (here : List PathStep). Finds (TellsOf here x.kinds) c.args.found.now c.raise-in-Assert.new.self) c.deref-in-Assert.ensures.value c.in_ok-raise-in-Assert.ensures.found) c.in_ok-go_on-in-Assert.ensures.found

pub walk-returns-in_ok-walk_both-in-If-clause-found : goal.walk-returns-in_ok-walk_both-in-If-clause-found
walk-returns-in_ok-walk_both-in-If-clause-found g t c =
    let d = c.args.contract.now in
    let p = c.in-If in
    let x = c.in_ok-kinds-in-If.field-0 in
    if_found g.K.Knowledge.describes c.args.place.now.items (contract_tree d) c.args.known (observation_tree p.observation) (contract_tree c.get-in-If.result.now) (contract_tree c.get-in-If-2.result.now) x.kinds x.if_true x.if_false
    c.args.found.now c.raise-in-If.new.self c.walk_both.new.found
    (is-If d p.observation p.then p.otherwise c.get-in-If.result.now c.get-in-If-2.result.now p.is c.get-in-If.ensures c.get-in-If-2.ensures) c.in_ok-kinds-in-If.ensures
    (subst (λ (here : List PathStep). Finds (TellsOf here x.kinds) c.args.found.now c.raise-in-If.new.self) c.deref-in-If.ensures.value c.in_ok-raise-in-If.ensures.found)
    c.in_ok-walk_both-in-If.ensures.then c.in_ok-walk_both-in-If.ensures.otherwise

pub walk-returns-in_ok-walk_when-in-When-clause-found : goal.walk-returns-in_ok-walk_when-in-When-clause-found
walk-returns-in_ok-walk_when-in-When-clause-found g t c =
    let D = g.K.Knowledge.describes in
    let d = c.args.contract.now in
    let p = c.in-When in
    let fits : SFits w64 p.timeout = search rules in
    let f = c.args.found.now in
    let h = c.walk_when.new.found in
    let here = c.args.place.now.items in
    let ks = case_trees (map case_tree c.as_slice-in-When.result.now) in
    let then = contract_tree c.get-in-When.result.now in
    let lent = ap (λ cases. when (case_trees (map case_tree cases)) p.timeout then) (sym c.as_slice-in-When.ensures) in
    tree_found D here (contract_tree d) c.args.known (when ks p.timeout then) f h (is-When d p.cases p.timeout p.then c.get-in-When.result.now p.is c.get-in-When.ensures ∙ lent)
    (subst (λ n. Finds (Covers D here c.args.known (when ks n then)) f h) (to_z-of_z w64 p.timeout fits) c.in_ok-walk_when-in-When.ensures.found)

-- ---- an If

pub walk_both-returns-in_ok-go_on-2-clause-then : goal.walk_both-returns-in_ok-go_on-2-clause-then
walk_both-returns-in_ok-go_on-2-clause-then g t c = first_of _ _ _ _ _ c.in_ok-go_on.ensures.found c.in_ok-go_on-2.ensures.found

pub walk_both-returns-in_ok-go_on-2-clause-otherwise : goal.walk_both-returns-in_ok-go_on-2-clause-otherwise
walk_both-returns-in_ok-go_on-2-clause-otherwise g t c =
    second_of _ _ _ _ _ c.in_ok-go_on.ensures.found
    (subst (λ (here : List PathStep). Finds (CoversIf g.K.Knowledge.describes (here ++ Else ∷ []) c.args.if_false (contract_tree c.args.otherwise.now)) c.go_on.new.found c.go_on-then-weight.new.found) c.in_ok-go_on.ensures.place c.in_ok-go_on-2.ensures.found)

pub walk_both-returns-in_ok-go_on-4-clause-then : goal.walk_both-returns-in_ok-go_on-4-clause-then
walk_both-returns-in_ok-go_on-4-clause-then g t c =
    second_of _ _ _ _ _ c.in_ok-go_on-3.ensures.found
    (subst (λ (here : List PathStep). Finds (CoversIf g.K.Knowledge.describes (here ++ Then ∷ []) c.args.if_true (contract_tree c.args.then.now)) c.go_on-else-weight.new.found c.go_on-else-weight-2.new.found) c.in_ok-go_on-3.ensures.place c.in_ok-go_on-4.ensures.found)

pub walk_both-returns-in_ok-go_on-4-clause-otherwise : goal.walk_both-returns-in_ok-go_on-4-clause-otherwise
walk_both-returns-in_ok-go_on-4-clause-otherwise g t c = first_of _ _ _ _ _ c.in_ok-go_on-3.ensures.found c.in_ok-go_on-4.ensures.found

-- ---- a When

pub walk_when-returns-in_ok-walk_cases-clause-found : goal.walk_when-returns-in_ok-walk_cases-clause-found
walk_when-returns-in_ok-walk_cases-clause-found g t c =
    let D = g.K.Knowledge.describes in
    let l = c.in_ok-known.known in
    closed_first D c.args.place.now.items c.args.known l (case_trees (map case_tree c.args.cases.now)) c.args.timeout (contract_tree c.args.then.now) c.in_ok-waiting.waiting c.as_slice.result.now _ _ _
    c.in_ok-known.ensures (subst (λ n. WaitsSo D l n c.in_ok-waiting.waiting) (to_z-of_z w64 c.args.timeout c.ranges.timeout) c.in_ok-waiting.ensures) (c.is_closed.ensures c.if-is_closed.true)
    (subst (ClosesBy D l) (sym c.as_slice.ensures.all) c.in_ok-spans.ensures) c.in_ok-close.ensures.found c.in_ok-walk_cases.ensures.found

pub walk_when-returns-in_ok-go_on-clause-found : goal.walk_when-returns-in_ok-go_on-clause-found
walk_when-returns-in_ok-go_on-clause-found g t c =
    let D = g.K.Knowledge.describes in
    let l = c.in_ok-known.known in
    let waits = subst (λ k. WaitsSo D k c.args.timeout c.in_ok-waiting-2.waiting) c.in_ok-try_clone.ensures
    (subst (λ n. WaitsSo D c.in_ok-try_clone.field-0 n c.in_ok-waiting-2.waiting) (to_z-of_z w64 c.args.timeout c.ranges.timeout) c.in_ok-waiting-2.ensures) in
    cases_first D c.args.place.now.items c.args.known l (case_trees (map case_tree c.args.cases.now)) c.args.timeout (contract_tree c.args.then.now) c.in_ok-waiting-2.waiting c.in_ok-over.over _ _ _
    c.in_ok-known.ensures waits (subst (λ n. TimesOutSo D l n c.in_ok-over.over) (to_z-of_z w64 c.args.timeout c.ranges.timeout) c.in_ok-over.ensures) c.in_ok-walk_cases-2.ensures.found
    (moved (λ here. CoversIf D (here ++ TimeoutContinuation ∷ []) c.in_ok-over.over (contract_tree c.args.then.now)) _ _ _ _ c.in_ok-walk_cases-2.ensures.place c.in_ok-go_on.ensures.found)

pub walk_when-returns-in_ok-walk_cases-3-clause-found : goal.walk_when-returns-in_ok-walk_cases-3-clause-found
walk_when-returns-in_ok-walk_cases-3-clause-found g t c =
    let D = g.K.Knowledge.describes in
    let l = c.in_ok-known.known in
    let over = c.in_ok-over-2.over in
    let waiting = c.in_ok-waiting-3.waiting in
    let ks = case_trees (map case_tree c.args.cases.now) in
    let out = subst (λ k. TimesOutSo D k c.args.timeout over) c.in_ok-try_clone-2.ensures
    (subst (λ n. TimesOutSo D c.in_ok-try_clone-2.field-0 n over) (to_z-of_z w64 c.args.timeout c.ranges.timeout) c.in_ok-over-2.ensures) in
    timeout_first D c.args.place.now.items c.args.known l ks c.args.timeout (contract_tree c.args.then.now) waiting over _ _ _
    c.in_ok-known.ensures (subst (λ n. WaitsSo D l n waiting) (to_z-of_z w64 c.args.timeout c.ranges.timeout) c.in_ok-waiting-3.ensures) out c.in_ok-go_on-2.ensures.found
    (moved (λ here. CoversCasesIf D here waiting ks) _ _ _ _ c.in_ok-go_on-2.ensures.place c.in_ok-walk_cases-3.ensures.found)

-- ---- its cases

pub walk_cases-loop-index-preserved : goal.walk_cases-loop-index-preserved
walk_cases-loop-index-preserved g t c =
    let D = g.K.Knowledge.describes in
    let here = c.args.place.now.items in
    let ks = c.args.cases.now in
    let each = c.in-Some.each in
    let i = c.loop-index.index in
    let kept = c.loop-index.invariant in
    record {
      place = c.in_ok-walk_copied.ensures.place ∙ kept.place;
      found =
          one_below D here each ks c.args.last i c.args.found.now c.loop-index.found c.walk_copied.new.found kept.found
          (subst (λ (p : List PathStep). Finds (CoversUnless D p each ks c.args.last i) c.loop-index.found c.walk_copied.new.found) kept.place c.in_ok-walk_copied.ensures.found);
      unreached =
          more_cases_left D here each ks c.args.found.now c.loop-index.found c.walk_copied.new.found kept.unreached
          (subst (λ (p : List PathStep). LeavesOut (IsLeftOutOfCases D p (Some each) ks) c.loop-index.found c.walk_copied.new.found) kept.place c.in_ok-walk_copied.ensures.unreached);
    }

pub walk_cases-returns-then-last-cases-clause-found : goal.walk_cases-returns-then-last-cases-clause-found
walk_cases-returns-then-last-cases-clause-found g t c =
    let D = g.K.Knowledge.describes in
    let here = c.args.place.now.items in
    let ks = c.args.cases.now in
    let each = c.in-Some.each in
    let below = all_below D here each ks c.args.last c.loop-index.index c.args.found.now c.loop-index.found c.loop-index-test.false c.loop-index.invariant.found in
    known_cases D here each c.args.known (case_trees (map case_tree ks)) c.args.found.now c.loop-index.found c.in-Some.is (all_found D here each ks c.args.last c.args.found.now c.loop-index.found (omega (arith, c.if-last-cases.true)) below)

pub walk_cases-walk_case-requires : goal.walk_cases-walk_case-requires
walk_cases-walk_case-requires g t c κs within =
    (omega (arith, c.decreases, nodes-at c.args.cases.now c.args.last c.index-cases-last.result (omega (arith, c.if-last-cases.false)) c.index-cases-last.is), within)

pub walk_cases-returns-clause-found : goal.walk_cases-returns-clause-found
walk_cases-returns-clause-found g t c =
    let D = g.K.Knowledge.describes in
    let here = c.args.place.now.items in
    let ks = c.args.cases.now in
    let n = c.args.last in
    let each = c.in-Some.each in
    let case = c.index-cases-last.result in
    let few : n < length ks = omega (arith, c.if-last-cases.false) in
    let below = all_below D here each ks n c.loop-index.index c.args.found.now c.loop-index.found c.loop-index-test.false c.loop-index.invariant.found in
    let there =
    subst (λ (p : List PathStep). Finds (CoversCase D p each (actions_before (take n ks)) (length (take n ks)) case) c.loop-index.found c.walk_case.new.found) c.loop-index.invariant.place c.in_ok-walk_case.ensures.found in
    let at = at_place D here each ks (take n ks) n case c.loop-index.found c.walk_case.new.found few c.index-cases-last.is refl (length-take-le n ks (omega (arith, few))) there in
    known_cases D here each c.args.known (case_trees (map case_tree ks)) c.args.found.now c.walk_case.new.found c.in-Some.is (last_found D here each ks n c.args.found.now c.loop-index.found c.walk_case.new.found below at)

pub walk_copied-walk_case-requires : goal.walk_copied-walk_case-requires
walk_copied-walk_case-requires g t c κs within =
    (omega (arith, c.decreases, nodes-at c.args.cases.now c.args.index c.index-cases-index.result c.requires c.index-cases-index.is), within)

pub walk_copied-returns-clause-found : goal.walk_copied-returns-clause-found
walk_copied-returns-clause-found g t c =
    let D = g.K.Knowledge.describes in
    let here = c.args.place.now.items in
    let ks = c.args.cases.now in
    let n = c.args.index in
    let k = c.args.known.now in
    let case = c.index-cases-index.result in
    let there = subst (λ l. Finds (CoversCase D here l (actions_before (take n ks)) (length (take n ks)) case) c.args.found.now c.walk_case.new.found) c.in_ok-copy.ensures c.in_ok-walk_case.ensures.found in
    not_last D here k ks c.args.last n c.args.found.now c.walk_case.new.found
    (at_place D here k ks (take n ks) n case c.args.found.now c.walk_case.new.found c.requires c.index-cases-index.is refl (length-take-le n ks (omega (arith, c.requires))) there)

pub walk_case-returns-clause-found : goal.walk_case-returns-clause-found
walk_case-returns-clause-found g t c =
    let D = g.K.Knowledge.describes in
    let here = c.args.place.now.items in
    let n = length c.args.earlier.now in
    let x = c.in_ok-kinds.field-0 in
    let f = c.args.found.now in
    let back : c.pop.new.self.items ≡ here = grind (arith, common_steps) in
    let told = subst (λ (p : List PathStep). Finds (TellsOf p x.kinds) f c.raise.new.self) (c.deref.ensures.value ∙ c.in_ok-push.ensures.items) c.in_ok-raise.ensures.found in
    let gone = subst (λ (p : List PathStep). Finds (CoversIf D (p ++ InCase n ∷ []) x.known (contract_tree c.args.case.now.then)) c.raise.new.self c.go_on.new.found) back c.in_ok-go_on.ensures.found in
    case_found D here c.args.known (actions_before c.args.earlier.now) n c.args.case.now x.kinds x.known f c.raise.new.self c.go_on.new.found c.in_ok-kinds.ensures told gone

-- ---- places that are left out

pub go_on-returns-clause-unreached : goal.go_on-returns-clause-unreached
go_on-returns-clause-unreached g t c =
    known_left g.K.Knowledge.describes c.args.place.now.items c.push.new.self.items c.args.step c.in-Some.there c.args.known c.args.contract.now c.args.found.now c.walk.new.found c.in_ok-push.ensures.items c.in-Some.is
    c.in_ok-walk.ensures.unreached

pub walk-returns-in_ok-go_on-in-Pay-clause-unreached : goal.walk-returns-in_ok-go_on-in-Pay-clause-unreached
walk-returns-in_ok-go_on-in-Pay-clause-unreached g t c =
    let d = c.args.contract.now in
    let p = c.in-Pay in
    let x = c.in_ok-kinds-in-Pay.field-0 in
    pay_left g.K.Knowledge.describes c.args.place.now.items (contract_tree d) c.args.known p.from p.to p.token (value_tree p.amount) c.get.result.now x c.args.found.now c.raise.new.self c.go_on.new.found
    (is-Pay d p.from p.to p.token p.amount p.then c.get.result.now p.is c.get.ensures) c.in_ok-kinds-in-Pay.ensures c.raise.ensures.unreached c.in_ok-go_on-in-Pay.ensures.unreached

pub walk-returns-in_ok-go_on-in-Let-clause-unreached : goal.walk-returns-in_ok-go_on-in-Let-clause-unreached
walk-returns-in_ok-go_on-in-Let-clause-unreached g t c =
    let d = c.args.contract.now in
    let p = c.in-Let in
    let x = c.in_ok-kinds-in-Let.field-0 in
    let_left g.K.Knowledge.describes c.args.place.now.items (contract_tree d) c.args.known p.name (value_tree p.value) c.get-in-Let.result.now x c.args.found.now c.raise-in-Let.new.self c.go_on-in-Let.new.found
    (is-Let d p.name p.value p.then c.get-in-Let.result.now p.is c.get-in-Let.ensures) c.in_ok-kinds-in-Let.ensures c.raise-in-Let.ensures.unreached c.in_ok-go_on-in-Let.ensures.unreached

pub walk-returns-in_ok-go_on-in-Assert-clause-unreached : goal.walk-returns-in_ok-go_on-in-Assert-clause-unreached
walk-returns-in_ok-go_on-in-Assert-clause-unreached g t c =
    let d = c.args.contract.now in
    let p = c.in-Assert in
    let x = c.in_ok-kinds-in-Assert.field-0 in
    assert_left g.K.Knowledge.describes c.args.place.now.items (contract_tree d) c.args.known (observation_tree p.observation) c.get-in-Assert.result.now x c.args.found.now c.raise-in-Assert.new.self c.go_on-in-Assert.new.found
    (is-Assert d p.observation p.then c.get-in-Assert.result.now p.is c.get-in-Assert.ensures) c.in_ok-kinds-in-Assert.ensures c.raise-in-Assert.ensures.unreached c.in_ok-go_on-in-Assert.ensures.unreached

pub walk-returns-in_ok-walk_both-in-If-clause-unreached : goal.walk-returns-in_ok-walk_both-in-If-clause-unreached
walk-returns-in_ok-walk_both-in-If-clause-unreached g t c =
    let d = c.args.contract.now in
    let p = c.in-If in
    let x = c.in_ok-kinds-in-If.field-0 in
    if_left g.K.Knowledge.describes c.args.place.now.items (contract_tree d) c.args.known (observation_tree p.observation) c.get-in-If.result.now c.get-in-If-2.result.now x c.args.found.now c.raise-in-If.new.self c.walk_both.new.found
    (is-If d p.observation p.then p.otherwise c.get-in-If.result.now c.get-in-If-2.result.now p.is c.get-in-If.ensures c.get-in-If-2.ensures) c.in_ok-kinds-in-If.ensures c.raise-in-If.ensures.unreached
    c.in_ok-walk_both-in-If.ensures.unreached

pub walk-returns-in_ok-walk_when-in-When-clause-unreached : goal.walk-returns-in_ok-walk_when-in-When-clause-unreached
walk-returns-in_ok-walk_when-in-When-clause-unreached g t c =
    let D = g.K.Knowledge.describes in
    let d = c.args.contract.now in
    let p = c.in-When in
    let fits : SFits w64 p.timeout = search rules in
    let f = c.args.found.now in
    let h = c.walk_when.new.found in
    let here = c.args.place.now.items in
    let ks = case_trees (map case_tree c.as_slice-in-When.result.now) in
    let then = contract_tree c.get-in-When.result.now in
    let lent = ap (λ cases. when (case_trees (map case_tree cases)) p.timeout then) (sym c.as_slice-in-When.ensures) in
    tree_left D here c.args.known (contract_tree d) (when ks p.timeout then) f h (is-When d p.cases p.timeout p.then c.get-in-When.result.now p.is c.get-in-When.ensures ∙ lent)
    (subst (λ n. LeavesOut (IsLeftOut D here c.args.known (when ks n then)) f h) (to_z-of_z w64 p.timeout fits) c.in_ok-walk_when-in-When.ensures.unreached)

-- ---- of an If

pub walk_both-returns-in_ok-go_on-2-clause-unreached : goal.walk_both-returns-in_ok-go_on-2-clause-unreached
walk_both-returns-in_ok-go_on-2-clause-unreached g t c =
    let D = g.K.Knowledge.describes in
    let here = c.args.place.now.items in
    let P = IsLeftOutNext D here Then c.args.if_true c.args.then.now in
    let Q = IsLeftOutNext D here Else c.args.if_false c.args.otherwise.now in
    left_both P Q (IsLeftOutOfBoth D here c.args.if_true c.args.then.now c.args.if_false c.args.otherwise.now) (λ place b. inl b) (λ place b. inr b) c.args.found.now c.go_on.new.found c.go_on-then-weight.new.found
    c.in_ok-go_on.ensures.unreached
    (subst (λ (at : List PathStep). LeavesOut (IsLeftOutNext D at Else c.args.if_false c.args.otherwise.now) c.go_on.new.found c.go_on-then-weight.new.found) c.in_ok-go_on.ensures.place c.in_ok-go_on-2.ensures.unreached)

pub walk_both-returns-in_ok-go_on-4-clause-unreached : goal.walk_both-returns-in_ok-go_on-4-clause-unreached
walk_both-returns-in_ok-go_on-4-clause-unreached g t c =
    let D = g.K.Knowledge.describes in
    let here = c.args.place.now.items in
    let P = IsLeftOutNext D here Then c.args.if_true c.args.then.now in
    let Q = IsLeftOutNext D here Else c.args.if_false c.args.otherwise.now in
    left_both Q P (IsLeftOutOfBoth D here c.args.if_true c.args.then.now c.args.if_false c.args.otherwise.now) (λ place b. inr b) (λ place b. inl b) c.args.found.now c.go_on-else-weight.new.found c.go_on-else-weight-2.new.found
    c.in_ok-go_on-3.ensures.unreached
    (subst (λ (at : List PathStep). LeavesOut (IsLeftOutNext D at Then c.args.if_true c.args.then.now) c.go_on-else-weight.new.found c.go_on-else-weight-2.new.found) c.in_ok-go_on-3.ensures.place c.in_ok-go_on-4.ensures.unreached)

-- ---- of a When

pub walk_when-returns-in_ok-walk_cases-clause-unreached : goal.walk_when-returns-in_ok-walk_cases-clause-unreached
walk_when-returns-in_ok-walk_cases-clause-unreached g t c =
    let D = g.K.Knowledge.describes in
    let l = c.in_ok-known.known in
    waiting_left D c.args.place.now.items c.args.known l c.args.cases.now c.args.timeout (contract_tree c.args.then.now) c.in_ok-waiting.waiting _ _ _ c.in_ok-known.ensures
    (subst (λ n. WaitsSo D l n c.in_ok-waiting.waiting) (to_z-of_z w64 c.args.timeout c.ranges.timeout) c.in_ok-waiting.ensures) c.in_ok-close.ensures.unreached c.in_ok-walk_cases.ensures.unreached

pub walk_when-returns-in_ok-go_on-clause-unreached : goal.walk_when-returns-in_ok-go_on-clause-unreached
walk_when-returns-in_ok-go_on-clause-unreached g t c =
    let D = g.K.Knowledge.describes in
    let l = c.in_ok-known.known in
    let waits = subst (λ k. WaitsSo D k c.args.timeout c.in_ok-waiting-2.waiting) c.in_ok-try_clone.ensures
    (subst (λ n. WaitsSo D c.in_ok-try_clone.field-0 n c.in_ok-waiting-2.waiting) (to_z-of_z w64 c.args.timeout c.ranges.timeout) c.in_ok-waiting-2.ensures) in
    cases_first_left D c.args.place.now.items c.args.known l c.args.cases.now c.args.timeout c.args.then.now c.in_ok-waiting-2.waiting c.in_ok-over.over _ _ _
    c.in_ok-known.ensures waits (subst (λ n. TimesOutSo D l n c.in_ok-over.over) (to_z-of_z w64 c.args.timeout c.ranges.timeout) c.in_ok-over.ensures) c.in_ok-walk_cases-2.ensures.unreached
    (moved_left (λ at. IsLeftOutNext D at TimeoutContinuation c.in_ok-over.over c.args.then.now) _ _ _ _ c.in_ok-walk_cases-2.ensures.place c.in_ok-go_on.ensures.unreached)

pub walk_when-returns-in_ok-walk_cases-3-clause-unreached : goal.walk_when-returns-in_ok-walk_cases-3-clause-unreached
walk_when-returns-in_ok-walk_cases-3-clause-unreached g t c =
    let D = g.K.Knowledge.describes in
    let l = c.in_ok-known.known in
    let over = c.in_ok-over-2.over in
    let waiting = c.in_ok-waiting-3.waiting in
    let out = subst (λ k. TimesOutSo D k c.args.timeout over) c.in_ok-try_clone-2.ensures
    (subst (λ n. TimesOutSo D c.in_ok-try_clone-2.field-0 n over) (to_z-of_z w64 c.args.timeout c.ranges.timeout) c.in_ok-over-2.ensures) in
    timeout_first_left D c.args.place.now.items c.args.known l c.args.cases.now c.args.timeout c.args.then.now waiting over _ _ _
    c.in_ok-known.ensures (subst (λ n. WaitsSo D l n waiting) (to_z-of_z w64 c.args.timeout c.ranges.timeout) c.in_ok-waiting-3.ensures) out c.in_ok-go_on-2.ensures.unreached
    (moved_left (λ at. IsLeftOutOfCases D at waiting c.args.cases.now) _ _ _ _ c.in_ok-go_on-2.ensures.place c.in_ok-walk_cases-3.ensures.unreached)

-- ---- of its cases

pub walk_cases-returns-then-last-cases-clause-unreached : goal.walk_cases-returns-then-last-cases-clause-unreached
walk_cases-returns-then-last-cases-clause-unreached g t c =
    known_cases_left g.K.Knowledge.describes c.args.place.now.items c.in-Some.each c.args.known c.args.cases.now c.args.found.now c.loop-index.found c.in-Some.is c.loop-index.invariant.unreached

pub walk_cases-returns-clause-unreached : goal.walk_cases-returns-clause-unreached
walk_cases-returns-clause-unreached g t c =
    let D = g.K.Knowledge.describes in
    let here = c.args.place.now.items in
    let ks = c.args.cases.now in
    let n = c.args.last in
    let each = c.in-Some.each in
    let case = c.index-cases-last.result in
    let few : n < length ks = omega (arith, c.if-last-cases.false) in
    let there = subst (λ (p : List PathStep). LeavesOut (IsLeftOutOfCase D p each (take n ks) case) c.loop-index.found c.walk_case.new.found) c.loop-index.invariant.place c.in_ok-walk_case.ensures.unreached in
    known_cases_left D here each c.args.known ks c.args.found.now c.walk_case.new.found c.in-Some.is
    (more_cases_left D here each ks c.args.found.now c.loop-index.found c.walk_case.new.found c.loop-index.invariant.unreached
    (at_index_left D here each ks n case c.loop-index.found c.walk_case.new.found few c.index-cases-last.is (length-take-le n ks (omega (arith, few))) there))

pub walk_copied-returns-clause-unreached : goal.walk_copied-returns-clause-unreached
walk_copied-returns-clause-unreached g t c =
    let D = g.K.Knowledge.describes in
    let here = c.args.place.now.items in
    let ks = c.args.cases.now in
    let n = c.args.index in
    let k = c.args.known.now in
    let case = c.index-cases-index.result in
    let there = subst (λ l. LeavesOut (IsLeftOutOfCase D here l (take n ks) case) c.args.found.now c.walk_case.new.found) c.in_ok-copy.ensures c.in_ok-walk_case.ensures.unreached in
    at_index_left D here k ks n case c.args.found.now c.walk_case.new.found c.requires c.index-cases-index.is (length-take-le n ks (omega (arith, c.requires))) there

pub walk_case-returns-clause-unreached : goal.walk_case-returns-clause-unreached
walk_case-returns-clause-unreached g t c =
    let D = g.K.Knowledge.describes in
    let here = c.args.place.now.items in
    let x = c.in_ok-kinds.field-0 in
    let back : c.pop.new.self.items ≡ here = grind (arith, common_steps) in
    case_left D here c.args.known c.args.earlier.now c.args.case.now x c.args.found.now c.raise.new.self c.go_on.new.found c.in_ok-kinds.ensures c.raise.ensures.unreached
    (subst (λ (p : List PathStep). LeavesOut (IsLeftOutNext D p (InCase (length c.args.earlier.now)) x.known c.args.case.now.then) c.raise.new.self c.go_on.new.found) back c.in_ok-go_on.ensures.unreached)

-- ---- where nothing is known

pub go_on-returns-in_default-clause-found : goal.go_on-returns-in_default-clause-found
go_on-returns-in_default-clause-found g t c = λ alarms range h. ((c.in_ok-leave_out.ensures.found alarms range h).0, if_none _ c.args.known (none_known c.args.known c.in_default.not-Some))

pub go_on-returns-in_default-clause-unreached : goal.go_on-returns-in_default-clause-unreached
go_on-returns-in_default-clause-unreached g t c =
    next_left g.K.Knowledge.describes c.args.place.now.items c.args.step c.args.known c.args.contract.now c.args.found.now c.leave_out.new.self (none_known c.args.known c.in_default.not-Some)
    (subst (λ (at : List PathStep). c.leave_out.new.self.unreached ≡ c.args.found.now.unreached ++ (at ++ c.args.step ∷ []) ∷ []) c.deref.ensures.value c.in_ok-leave_out.ensures.unreached)

pub walk_cases-returns-in_default-clause-found : goal.walk_cases-returns-in_default-clause-found
walk_cases-returns-in_default-clause-found g t c = λ alarms range h. ((c.in_ok-leave_out_cases.ensures.found alarms range h).0, if_none _ c.args.known (none_known c.args.known c.in_default.not-Some))

pub walk_cases-returns-in_default-clause-unreached : goal.walk_cases-returns-in_default-clause-unreached
walk_cases-returns-in_default-clause-unreached g t c =
    no_cases_left g.K.Knowledge.describes c.args.place.now.items c.args.known c.args.cases.now c.args.found.now c.leave_out_cases.new.self (none_known c.args.known c.in_default.not-Some)
    (subst (λ (at : List PathStep). LeavesOut (IsBehindCase at (case_trees (map case_tree c.args.cases.now)) (λ n path. Unit {0})) c.args.found.now c.leave_out_cases.new.self) c.deref.ensures.value c.in_ok-leave_out_cases.ensures.unreached)
