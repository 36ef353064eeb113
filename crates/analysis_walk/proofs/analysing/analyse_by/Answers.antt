use Rattle.std.proofs.Common.{subst, List}
use Rattle.contract.specs.Tree.{contract_tree}
use Rattle.analysis_spec.specs.declared.path.PathStep.{PathStep}
use Rattle.analysis_walk.specs.Limits.{any_runs}
use Rattle.analysis_walk.specs.Found.{Finds, Covers}
use Rattle.analysis_walk.specs.LeftOut.{LeavesOut, IsLeftOut}
use Rattle.analysis_walk.proofs.LeftOutLemmas.{left_never_reached}
use Rattle.analysis_walk.proofs.AnalysedLemmas.{names_where_it_comes, names_where_it_leaves, names_what_comes, stays_unless_told, pays_within_ranges, pays_others_nothing}
use Rattle.analysis_walk.proofs.analysing.analyse_by.Goals as goal

pub returns-clause-places : goal.returns-clause-places
returns-clause-places g c =
    let D = g.K.Knowledge.describes in
    let k = c.in_ok-known.known in
    let t = contract_tree c.args.contract.now in
    let walked = subst (λ (here : List PathStep). Finds (Covers D here k t) c.new-found.result c.walk.new.found) c.new-place.ensures.items c.in_ok-walk.ensures.found in
    names_where_it_comes D k c.args.state.now t c.in_ok-known.ensures c.new-found.result c.walk.new.found walked c.alarms_name_where_it_comes.ensures

pub returns-clause-leaving : goal.returns-clause-leaving
returns-clause-leaving g c =
    let D = g.K.Knowledge.describes in
    let k = c.in_ok-known.known in
    let t = contract_tree c.args.contract.now in
    let walked = subst (λ (here : List PathStep). Finds (Covers D here k t) c.new-found.result c.walk.new.found) c.new-place.ensures.items c.in_ok-walk.ensures.found in
    names_where_it_leaves D k c.args.state.now t c.in_ok-known.ensures c.new-found.result c.walk.new.found walked c.alarms_name_where_it_leaves.ensures

pub returns-clause-alarms : goal.returns-clause-alarms
returns-clause-alarms g c =
    let D = g.K.Knowledge.describes in
    let k = c.in_ok-known.known in
    let t = contract_tree c.args.contract.now in
    let walked = subst (λ (here : List PathStep). Finds (Covers D here k t) c.new-found.result c.walk.new.found) c.new-place.ensures.items c.in_ok-walk.ensures.found in
    names_what_comes c.walk.new.found.alarms c.args.state.now t c.warnings_have_places.ensures (names_where_it_comes D k c.args.state.now t c.in_ok-known.ensures c.new-found.result c.walk.new.found walked c.alarms_name_where_it_comes.ensures)

pub returns-clause-numbers : goal.returns-clause-numbers
returns-clause-numbers g c =
    let D = g.K.Knowledge.describes in
    let k = c.in_ok-known.known in
    let t = contract_tree c.args.contract.now in
    let walked = subst (λ (here : List PathStep). Finds (Covers D here k t) c.new-found.result c.walk.new.found) c.new-place.ensures.items c.in_ok-walk.ensures.found in
    stays_unless_told c.walk.new.found.alarms c.args.state.now t c.leaving_has_a_place.ensures (names_where_it_leaves D k c.args.state.now t c.in_ok-known.ensures c.new-found.result c.walk.new.found walked c.alarms_name_where_it_leaves.ensures)

pub returns-clause-ranges : goal.returns-clause-ranges
returns-clause-ranges g c =
    let D = g.K.Knowledge.describes in
    let k = c.in_ok-known.known in
    let t = contract_tree c.args.contract.now in
    let walked = subst (λ (here : List PathStep). Finds (Covers D here k t) c.new-found.result c.walk.new.found) c.new-place.ensures.items c.in_ok-walk.ensures.found in
    pays_within_ranges D k c.args.state.now t c.in_ok-known.ensures c.new-found.result c.walk.new.found walked c.payments_lie_in_ranges.ensures c.accounts-accounts.ensures.positive c.in_ok-ranges.ranges c.in_ok-ranges.ensures.bounded

pub returns-clause-unreached : goal.returns-clause-unreached
returns-clause-unreached g c =
    let D = g.K.Knowledge.describes in
    let k = c.in_ok-known.known in
    let t = contract_tree c.args.contract.now in
    let left = subst (λ (here : List PathStep). LeavesOut (IsLeftOut D here k t) c.new-found.result c.walk.new.found) c.new-place.ensures.items c.in_ok-walk.ensures.unreached in
    left_never_reached D k c.args.state.now t (c.in_ok-known.ensures any_runs) c.avoided_is_never_reached.ensures c.new-found.result c.walk.new.found c.new-found.ensures.unreached left

pub returns-clause-others : goal.returns-clause-others
returns-clause-others g c =
    let D = g.K.Knowledge.describes in
    let k = c.in_ok-known.known in
    let t = contract_tree c.args.contract.now in
    let walked = subst (λ (here : List PathStep). Finds (Covers D here k t) c.new-found.result c.walk.new.found) c.new-place.ensures.items c.in_ok-walk.ensures.found in
    pays_others_nothing D k c.args.state.now t c.in_ok-known.ensures c.new-found.result c.walk.new.found walked c.payments_lie_in_ranges.ensures c.accounts-accounts.ensures.positive c.in_ok-ranges.ranges c.in_ok-ranges.ensures.all
