-- Which timeouts a walk leaves out: those that let a time pass up to which a party is waited for that keeps up.
use Rattle.std.specs.Prelude.{ℤ, pos, ◌-ℤ◌, int_lt, Bool, true, false, ◌&&◌, Option, Some, None}
use Rattle.std.specs.Int.{int_max}
use Rattle.contract.specs.Names.declared.party.Party.{Party}
use Rattle.contract.specs.Tree.{ValueTree, available_money, constant, neg_value, add_value, sub_value, mul_value, div_value, choice_value, time_interval_start, time_interval_end, use_value, cond_value}
use Rattle.contract.specs.Tree.{ObservationTree, and_obs, or_obs, not_obs, chose_something, value_ge, value_gt, value_lt, value_le, value_eq, true_obs, false_obs}
use Rattle.contract.specs.Tree.{CaseTrees}
use Rattle.keeping_up.specs.KeepsUp.{asks_for}
use Rattle.loss_walk.specs.declared.quiet.Quiet.{Quiet}

-- a value, or an observation, that reads no time
abbrev mutual
  pub is_timeless : ValueTree → Bool
  is_timeless (available_money p t) = true
  is_timeless (constant n) = true
  is_timeless (neg_value v) = is_timeless v
  is_timeless (add_value v w) = is_timeless v && is_timeless w
  is_timeless (sub_value v w) = is_timeless v && is_timeless w
  is_timeless (mul_value v w) = is_timeless v && is_timeless w
  is_timeless (div_value v w) = is_timeless v && is_timeless w
  is_timeless (choice_value id) = true
  is_timeless time_interval_start = false
  is_timeless time_interval_end = false
  is_timeless (use_value x) = true
  is_timeless (cond_value o v w) = holds_timeless o && (is_timeless v && is_timeless w)

  pub holds_timeless : ObservationTree → Bool
  holds_timeless (and_obs o q) = holds_timeless o && holds_timeless q
  holds_timeless (or_obs o q) = holds_timeless o && holds_timeless q
  holds_timeless (not_obs o) = holds_timeless o
  holds_timeless (chose_something id) = true
  holds_timeless (value_ge v w) = is_timeless v && is_timeless w
  holds_timeless (value_gt v w) = is_timeless v && is_timeless w
  holds_timeless (value_lt v w) = is_timeless v && is_timeless w
  holds_timeless (value_le v w) = is_timeless v && is_timeless w
  holds_timeless (value_eq v w) = is_timeless v && is_timeless w
  holds_timeless true_obs = true
  holds_timeless false_obs = true

-- nothing is read yet: from a time on, and behind an input, which came before the timeout of its When
abbrev pub quiet_from : ℤ → Quiet
quiet_from time = record { latest = time; timeless = true }

abbrev pub quiet_before : ℤ → Quiet
quiet_before timeout = quiet_from (timeout -ℤ pos 1)

-- .. with one more value or observation
abbrev pub after_reading : Quiet → Bool → Quiet
after_reading q timeless = record { latest = q.latest; timeless = q.timeless && timeless }

-- .. with one more timeout
abbrev pub after_timeout : Quiet → ℤ → Quiet
after_timeout q timeout = record { latest = int_max q.latest timeout; timeless = q.timeless }

-- a When is not left by its timeout: who keeps up is asked for, and could see so before
abbrev pub is_cut : Option Party → Quiet → CaseTrees → ℤ → Bool
is_cut None q ks timeout = false
is_cut (Some party) q ks timeout = (q.timeless && int_lt q.latest timeout) && asks_for party ks
