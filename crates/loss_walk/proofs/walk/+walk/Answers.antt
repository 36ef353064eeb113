use Rattle.std.proofs.Common.{◌-◌, sym, ◌∙◌, ap, subst, take, length, map, arith, rules, w64, SFits}
use Rattle.std.proofs.lemmas.Int.{to_z-of_z}
use Rattle.contract.specs.Tree.{value_tree, observation_tree, contract_tree, case_tree, case_trees, when}
use Rattle.analysis_walk.specs.Conclusions.{WaitsSo, TimesOutSo}
use Rattle.analysis_values.specs.Known.{Known, IsDescribed}
use Rattle.analysis_walk.specs.Knowledge.{actions_before}
use Rattle.loss_walk.specs.Cuts.{after_reading, after_timeout, quiet_before, is_cut}
use Rattle.loss_walk.specs.Floors.{Finds, ClosesAbove, IsCovered, CoversBehind}
use Rattle.loss_walk.proofs.CoverLemmas.{both_of, behind_nothing, close_found, pay_found, let_found, assert_found, if_found, when_found, cut_found, closed_found, case_found, none_below, one_below, at_index, last_below, last_found, known_found, none_found, no_cases_found, none_known}
use Rattle.loss_walk.proofs.NodesLemmas.{is-Close, is-Pay, is-Let, is-Assert, is-If, is-When, nodes-at}
use Rattle.loss_walk.proofs.walk.+walk.Goals as goal

-- ---- a contract

pub go_on-returns : goal.go_on-returns
go_on-returns t c = known_found c.args.question.now c.args.quiet c.in-Some.there c.args.known (contract_tree c.args.contract.now) c.args.rows.now c.walk.new.rows c.in-Some.is c.in_ok-walk.ensures

pub walk-returns-in_ok-put_close-in-Close : goal.walk-returns-in_ok-put_close-in-Close
walk-returns-in_ok-put_close-in-Close t c =
    let d = c.args.contract.now in
    close_found c.args.question.now c.args.quiet (contract_tree d) c.args.known c.args.rows.now c.put_close.new.rows (is-Close d c.in-Close.is)
    (subst (λ xs. Finds xs (ClosesAbove c.args.known) c.args.rows.now c.put_close.new.rows) c.as_slice.ensures c.in_ok-put_close-in-Close.ensures)

pub walk-returns-in_ok-go_on-in-Pay : goal.walk-returns-in_ok-go_on-in-Pay
walk-returns-in_ok-go_on-in-Pay t c =
    let d = c.args.contract.now in
    let p = c.in-Pay in
    pay_found c.args.question.now c.args.quiet (contract_tree d) c.args.known p.from p.to p.token (value_tree p.amount) (contract_tree c.get.result.now) c.in_ok-known-in-Pay.field-0 c.reading-next.result c.args.rows.now c.go_on.new.rows
    (is-Pay d p.from p.to p.token p.amount p.then c.get.result.now p.is c.get.ensures) c.in_ok-known-in-Pay.ensures
    (c.reading-next.ensures ∙ ap (after_reading c.args.quiet) c.is_timeless.ensures) c.in_ok-go_on-in-Pay.ensures

pub walk-returns-in_ok-go_on-in-Let : goal.walk-returns-in_ok-go_on-in-Let
walk-returns-in_ok-go_on-in-Let t c =
    let d = c.args.contract.now in
    let p = c.in-Let in
    let_found c.args.question.now c.args.quiet (contract_tree d) c.args.known p.name (value_tree p.value) (contract_tree c.get-in-Let.result.now) c.in_ok-known-in-Let.field-0 c.reading-next-in-Let.result c.args.rows.now c.go_on-in-Let.new.rows
    (is-Let d p.name p.value p.then c.get-in-Let.result.now p.is c.get-in-Let.ensures) c.in_ok-known-in-Let.ensures
    (c.reading-next-in-Let.ensures ∙ ap (after_reading c.args.quiet) c.is_timeless-in-Let.ensures) c.in_ok-go_on-in-Let.ensures

pub walk-returns-in_ok-go_on-in-Assert : goal.walk-returns-in_ok-go_on-in-Assert
walk-returns-in_ok-go_on-in-Assert t c =
    let d = c.args.contract.now in
    let p = c.in-Assert in
    assert_found c.args.question.now c.args.quiet (contract_tree d) c.args.known (observation_tree p.observation) (contract_tree c.get-in-Assert.result.now) c.in_ok-known-in-Assert.field-0 c.args.rows.now c.go_on-in-Assert.new.rows
    (is-Assert d p.observation p.then c.get-in-Assert.result.now p.is c.get-in-Assert.ensures) c.in_ok-known-in-Assert.ensures c.in_ok-go_on-in-Assert.ensures

pub walk-returns-in_ok-walk_both-in-If : goal.walk-returns-in_ok-walk_both-in-If
walk-returns-in_ok-walk_both-in-If t c =
    let d = c.args.contract.now in
    let p = c.in-If in
    if_found c.args.question.now c.args.quiet (contract_tree d) c.args.known (observation_tree p.observation) (contract_tree c.get-in-If.result.now) (contract_tree c.get-in-If-2.result.now) c.in_ok-if_true-in-If.field-0 c.reading-next-in-If.result c.args.rows.now c.walk_both.new.rows
    (is-If d p.observation p.then p.otherwise c.get-in-If.result.now c.get-in-If-2.result.now p.is c.get-in-If.ensures c.get-in-If-2.ensures) c.in_ok-if_true-in-If.ensures
    (c.reading-next-in-If.ensures ∙ ap (after_reading c.args.quiet) c.holds_timeless.ensures) c.in_ok-walk_both-in-If.ensures

pub walk-returns-in_ok-walk_when-in-When : goal.walk-returns-in_ok-walk_when-in-When
walk-returns-in_ok-walk_when-in-When t c =
    let d = c.args.contract.now in
    let p = c.in-When in
    let fits : SFits w64 p.timeout = search rules in
    let f = c.args.rows.now in
    let h = c.walk_when.new.rows in
    let ks = case_trees (map case_tree c.as_slice-in-When.result.now) in
    let then = contract_tree c.get-in-When.result.now in
    let lent = ap (λ cases. when (case_trees (map case_tree cases)) p.timeout then) (sym c.as_slice-in-When.ensures) in
    subst (λ tree. Finds c.args.question.now.asked (IsCovered c.args.question.now c.args.quiet c.args.known tree) f h) (sym (is-When d p.cases p.timeout p.then c.get-in-When.result.now p.is c.get-in-When.ensures ∙ lent))
    (subst (λ n. Finds c.args.question.now.asked (IsCovered c.args.question.now c.args.quiet c.args.known (when ks n then)) f h) (to_z-of_z w64 p.timeout fits) c.in_ok-walk_when-in-When.ensures)

pub walk_both-returns : goal.walk_both-returns
walk_both-returns t c = both_of _ _ _ _ _ _ c.in_ok-go_on.ensures c.in_ok-go_on-2.ensures

-- ---- a When

pub walk_when-returns-in_ok-walk_cases : goal.walk_when-returns-in_ok-walk_cases
walk_when-returns-in_ok-walk_cases t c =
    let l = c.in_ok-known.known in
    cut_found c.args.question.now c.args.quiet c.args.known l (case_trees (map case_tree c.args.cases.now)) c.args.timeout (contract_tree c.args.then.now) c.in_ok-waiting.waiting c.behind_input.result _ _ c.in_ok-known.ensures
    (subst (λ n. WaitsSo IsDescribed l n c.in_ok-waiting.waiting) (to_z-of_z w64 c.args.timeout c.ranges.timeout) c.in_ok-waiting.ensures) (c.behind_input.ensures ∙ ap quiet_before (to_z-of_z w64 c.args.timeout c.ranges.timeout))
    (ap (is_cut c.args.question.now.keeper c.args.quiet (case_trees (map case_tree c.args.cases.now))) (sym (to_z-of_z w64 c.args.timeout c.ranges.timeout)) ∙ (sym c.cuts.ensures ∙ c.if-cuts.true)) c.in_ok-walk_cases.ensures

pub walk_when-returns-in_ok-walk_cases-2 : goal.walk_when-returns-in_ok-walk_cases-2
walk_when-returns-in_ok-walk_cases-2 t c =
    let l = c.in_ok-known.known in
    closed_found c.args.question.now c.args.quiet c.args.known l (case_trees (map case_tree c.args.cases.now)) c.args.timeout (contract_tree c.args.then.now) c.in_ok-waiting-2.waiting c.behind_input-then-is_closed.result _ _ _ c.in_ok-known.ensures
    (subst (λ n. WaitsSo IsDescribed l n c.in_ok-waiting-2.waiting) (to_z-of_z w64 c.args.timeout c.ranges.timeout) c.in_ok-waiting-2.ensures) (c.behind_input-then-is_closed.ensures ∙ ap quiet_before (to_z-of_z w64 c.args.timeout c.ranges.timeout))
    (c.is_closed.ensures c.if-is_closed.true)
    (subst (λ xs. Finds xs (ClosesAbove l) c.args.rows.now c.put_close.new.rows) c.as_slice.ensures c.in_ok-put_close.ensures) c.in_ok-walk_cases-2.ensures

pub walk_when-returns-in_ok-walk_cases-3 : goal.walk_when-returns-in_ok-walk_cases-3
walk_when-returns-in_ok-walk_cases-3 t c =
    let l = c.in_ok-known.known in
    let over = c.in_ok-over.over in
    let waiting = c.in_ok-waiting-3.waiting in
    let out = subst (λ k. TimesOutSo IsDescribed k c.args.timeout over) c.in_ok-try_clone.ensures
    (subst (λ n. TimesOutSo IsDescribed c.in_ok-try_clone.field-0 n over) (to_z-of_z w64 c.args.timeout c.ranges.timeout) c.in_ok-over.ensures) in
    when_found c.args.question.now c.args.quiet c.args.known l (case_trees (map case_tree c.args.cases.now)) c.args.timeout (contract_tree c.args.then.now) waiting over c.behind_input-else-is_closed.result c.timed_out.result _ _ _ c.in_ok-known.ensures
    (subst (λ n. WaitsSo IsDescribed l n waiting) (to_z-of_z w64 c.args.timeout c.ranges.timeout) c.in_ok-waiting-3.ensures) out (c.behind_input-else-is_closed.ensures ∙ ap quiet_before (to_z-of_z w64 c.args.timeout c.ranges.timeout))
    (c.timed_out.ensures ∙ ap (after_timeout c.args.quiet) (to_z-of_z w64 c.args.timeout c.ranges.timeout)) c.in_ok-go_on.ensures c.in_ok-walk_cases-3.ensures

-- ---- its cases

pub walk_cases-loop-index-init : goal.walk_cases-loop-index-init
walk_cases-loop-index-init t c = none_below c.args.question.now c.args.quiet c.in-Some.each c.args.cases.now c.args.rows.now

pub walk_cases-loop-index-preserved : goal.walk_cases-loop-index-preserved
walk_cases-loop-index-preserved t c =
    one_below c.args.question.now c.args.quiet c.in-Some.each c.args.cases.now c.loop-index.index c.args.rows.now c.loop-index.rows c.walk_copied.new.rows c.loop-index.invariant c.in_ok-walk_copied.ensures

pub walk_cases-walk_case-requires : goal.walk_cases-walk_case-requires
walk_cases-walk_case-requires t c =
    let ks = c.args.cases.now in
    let near = nodes-at ks (length ks - 1) c.index-cases-last.result (last_below (length ks) c.if-count-eq0.false) c.index-cases-last.is in
    (omega (arith, c.decreases, near), tt)

pub walk_cases-returns : goal.walk_cases-returns
walk_cases-returns t c =
    last_found c.args.question.now c.args.quiet c.in-Some.each c.args.known c.args.cases.now c.loop-index.index c.index-cases-last.result c.args.rows.now c.loop-index.rows c.walk_case.new.rows c.in-Some.is c.if-count-eq0.false c.loop-index-test.false c.index-cases-last.is c.loop-index.invariant c.in_ok-walk_case.ensures

pub walk_copied-walk_case-requires : goal.walk_copied-walk_case-requires
walk_copied-walk_case-requires t c =
    (omega (arith, c.decreases, nodes-at c.args.cases.now c.args.index c.index-cases-index.result c.requires c.index-cases-index.is), tt)

pub walk_copied-returns : goal.walk_copied-returns
walk_copied-returns t c =
    let ks = c.args.cases.now in
    let n = c.args.index in
    let case = c.index-cases-index.result in
    at_index c.args.question.now c.args.quiet c.args.known.now ks n case c.args.rows.now c.walk_case.new.rows c.requires c.index-cases-index.is
    (subst (λ (l : Known). Finds c.args.question.now.asked (CoversBehind c.args.question.now c.args.quiet l (take n ks) case) c.args.rows.now c.walk_case.new.rows) c.in_ok-copy.ensures c.in_ok-walk_case.ensures)

pub walk_case-returns : goal.walk_case-returns
walk_case-returns t c =
    behind_nothing c.args.question.now.asked _ c.args.rows.now c.note.new.rows c.go_on.new.rows c.in_ok-note.ensures
    (case_found c.args.question.now c.args.quiet c.args.known (actions_before c.args.earlier.now) c.args.case.now c.in_ok-there.there c.note.new.rows c.go_on.new.rows c.in_ok-there.ensures c.in_ok-go_on.ensures)

-- ---- where nothing is known

pub go_on-returns-in_default : goal.go_on-returns-in_default
go_on-returns-in_default t c = none_found c.args.question.now c.args.quiet c.args.known (contract_tree c.args.contract.now) c.args.rows.now (none_known c.args.known c.in_default.not-Some)

pub walk_cases-returns-in_default : goal.walk_cases-returns-in_default
walk_cases-returns-in_default t c = no_cases_found c.args.question.now c.args.quiet c.args.known c.args.cases.now c.args.rows.now (none_known c.args.known c.in_default.not-Some)
