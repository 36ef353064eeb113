-- Worked rows of what is asked and told, computed on the definitions.
use Rattle.std.specs.Prelude.{◌≡◌, ℤ, pos, false, [], ◌∷◌, Option, Some, None, Ok, Err}
use Rattle.contract.specs.declared.fault.SemFault.TheVariants.{NoMatch, Ambiguous}
use Rattle.contract.specs.Tree.{ContractTree, notify, close, when, no_cases, case_then, true_obs}
use Rattle.marlowe_run.specs.Semantics.Rows.{interval, nothing}
use Rattle.marlowe_run.specs.Semantics.Walk.{standing}
use Rattle.marlowe_run.specs.Semantics.Evaluation.Path.{waits_for}
use Rattle.next_inputs.specs.declared.offer.Offer.TheVariants as offers
use Rattle.analysis_spec.specs.declared.path.PathStep.TheVariants.{Case}
use Rattle.marlowe_run.specs.MarloweRefusals.declared.trace_fault.TraceFault.TheVariants.{Refused}
use Rattle.trace.specs.Rows.{first, third, notifies}
use Rattle.next_lines.specs.Applicable.{notifies as notified}
use Rattle.marlowe_run.specs.Run.{within_127}
use Rattle.marlowe_next.specs.declared.asked.Asked.{Asked}
use Rattle.marlowe_next.specs.Question.{reached_by, interval_of}
use Rattle.marlowe_next.specs.Applicable.{refusal, applicable_from}

-- ---- the question

abbrev pub asks : Option ℤ → Option ℤ → Asked
asks from to = record { from = from; to = to; readable = within_127 false; json = false }

-- at the minimum time 6: without times it is 6 alone, `from` alone is one moment, and `to` alone begins at 6
abbrev pub TimesFollowTheMinimum : Type 0
TimesFollowTheMinimum =
    (interval_of (asks None None) (pos 6) ≡ interval (pos 6) (pos 6))
    × (interval_of (asks (Some (pos 3)) None) (pos 6) ≡ interval (pos 3) (pos 3))
    × (interval_of (asks None (Some (pos 9))) (pos 6) ≡ interval (pos 6) (pos 9))
    × (interval_of (asks (Some (pos 3)) (Some (pos 9))) (pos 6) ≡ interval (pos 3) (pos 9))

-- two notifies lead through the first cases, and the third is refused by its number from 1
abbrev pub LeadsToTheThird : Type 0
LeadsToTheThird =
    (reached_by first nothing (notifies ∷ notifies ∷ []) ≡ Ok (record { whole = first; path = Case 0 ∷ Case 0 ∷ []; there = standing nothing third }))
    × (reached_by first nothing (notifies ∷ notifies ∷ notifies ∷ []) ≡ Err (Refused 3 NoMatch))

-- ---- what is told of a case

-- a notify, behind which a timeout at 5 comes
abbrev pub times_out_behind : ContractTree
times_out_behind = when (case_then (notify true_obs) (when no_cases (pos 5) close) no_cases) (pos 100) close

-- what follows is refused in an interval around 5 and not in one before it; a case that offers nothing is left out
abbrev pub WhatFollowsIsRefused : Type 0
WhatFollowsIsRefused =
    (applicable_from (refusal (interval (pos 0) (pos 9)) nothing times_out_behind) 0 (waits_for times_out_behind) (offers.Notify ∷ []) ≡ notified 0 (Some Ambiguous) ∷ [])
    × (applicable_from (refusal (interval (pos 0) (pos 4)) nothing times_out_behind) 0 (waits_for times_out_behind) (offers.Notify ∷ []) ≡ notified 0 None ∷ [])
    × (applicable_from (refusal (interval (pos 0) (pos 4)) nothing times_out_behind) 0 (waits_for times_out_behind) (offers.Nothing ∷ []) ≡ [])
