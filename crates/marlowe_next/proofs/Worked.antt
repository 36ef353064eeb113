-- The worked rows.
use Rattle.std.proofs.Common.{refl}
use Rattle.marlowe_run.specs.Semantics.Computed.{computed, from_start, one_input, applied}
use Rattle.marlowe_next.specs.Rows.{TimesFollowTheMinimum, LeadsToTheThird, WhatFollowsIsRefused}

pub times_follow_the_minimum : TimesFollowTheMinimum
times_follow_the_minimum = (refl, refl, refl, refl)

pub leads_to_the_third : LeadsToTheThird
unfolding computed from_start one_input applied
leads_to_the_third = (refl, refl)

pub what_follows_is_refused : WhatFollowsIsRefused
unfolding computed from_start one_input applied
what_follows_is_refused = (refl, refl, refl)
