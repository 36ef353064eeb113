-- What a walk from the start promises.
use Rattle.std.proofs.Common.{◌≡◌, ◌≢◌, ℕ, ℤ, pos, List, [], ◌∷◌, refl, subst, Option, Some, None, inl, inr, arith}
use Rattle.std.proofs.lemmas.Int.{ints}
use Rattle.std.specs.FinMap.{entries}
use Rattle.std.specs.FinMap.Entries.{find}
use Rattle.contract.specs.Names.declared.account.Account.{Account}
use Rattle.contract.specs.Names.declared.party.Party.TheVariants.{Role}
use Rattle.contract.specs.Names.Orders.{account_cmp}
use Rattle.contract.specs.Tree.{ContractTree}
use Rattle.contract.specs.States.States.{StateMaps, AllPositive}
use Rattle.semantics.specs.Reduction.{account_of}
use Rattle.analysis_spec.specs.Promises.{PaysBetween}
use Rattle.analysis_spec.specs.declared.alarm.Alarm.{Alarm}
use Rattle.analysis_spec.specs.declared.paid.PaidRange.{PaidRange}
use Rattle.analysis_walk.specs.Limits.{Scope, any_runs, written_runs, HasAlarm, limits}
use Rattle.analysis_walk.specs.Walked.{AreAmong}
use Rattle.analysis_walk.specs.Covered.{CoversFrom}
use Rattle.analysis_walk.specs.Conclusions.{Description, DescribesStart}
use Rattle.analysis_walk.specs.Laws.{AlarmsNameWhereItComes, AlarmsNameWhereItLeaves, PaymentsLieInRanges}
use Rattle.analysis_walk.proofs.ListLaws.{all_weaker}
use Rattle.analysis_walk.proofs.WalkLaws.{start_covered}
use Rattle.analysis_walk.specs.declared.found.Found.{Found}
use Rattle.analysis_walk.specs.declared.row.Row.{Row}
use Rattle.analysis_walk.specs.Spans.{IsBetween}
use Rattle.analysis_walk.specs.Rows.{IsPaid, IsPaidAt, IsBounded, AreBounded, NameAll}
use Rattle.analysis_walk.specs.Found.{Fits, Finds, Covers}
use Rattle.analysis_spec.specs.declared.kind.AlarmKind.{AlarmKind}
use Rattle.analysis_spec.specs.declared.kind.AlarmKind.TheVariants.{Leaves128}
use Rattle.analysis_spec.specs.declared.path.PathStep.{PathStep}
use Rattle.analysis_spec.specs.PlacedRuns.{WarningsHavePlaces, LeavingHasAPlace}
use Rattle.analysis_spec.specs.Analysed.{IsSilent, IsSilentAt, NamesWhatComes, NamesWhereItComes, StaysUnlessTold, NamesWhereItLeaves, PaysWithinRanges, PaysOthersNothing}

none_more : (alarms more : List Alarm) → ((a : Alarm) → HasAlarm more a.place a.kind → HasAlarm alarms a.place a.kind) → AreAmong alarms more
none_more alarms [] f = tt
none_more alarms (a ∷ more) f = (f a (inl (refl, refl)), none_more alarms more (λ b h. f b (inr h)))

-- each alarm is one of them
among_themselves : (alarms : List Alarm) → AreAmong alarms alarms
among_themselves alarms = none_more alarms alarms (λ a h. h)

-- a range with no bounds
unbounded : PaidRange
unbounded = record { party = Role []; token = record { symbol = []; name = [] }; least = None; most = None }

only_zero : (rows : List (Account × Row)) (count : ℕ) (a : Account) (n : ℤ) → find account_cmp a rows ≡ None → IsPaidAt rows count a n → IsBetween (Some (pos 0)) (Some (pos 0)) n
only_zero rows count a n e p =
    let q = subst (λ (x : Option Row). IsPaid count x n) e p.1 in
    (omega (arith, ints, q), omega (arith, ints, q))

-- a kind without an alarm has none at any place
silent_at : (alarms : List Alarm) (kind : AlarmKind) (place : List PathStep) → IsSilent alarms kind → IsSilentAt alarms kind place
silent_at alarms kind place z = all_weaker (λ (a : Alarm). a.kind ≢ kind) (λ (a : Alarm). a.kind ≡ kind → a.place ≢ place) (λ a f e. absurd (f e)) alarms z

pub names_what_comes : (alarms : List Alarm) (s : StateMaps) (c : ContractTree) → WarningsHavePlaces → NamesWhereItComes alarms s c → NamesWhatComes alarms s c
names_what_comes alarms s c law h kind z = law kind s c (λ place. h kind place (silent_at alarms kind place z))

pub stays_unless_told : (alarms : List Alarm) (s : StateMaps) (c : ContractTree) → LeavingHasAPlace → NamesWhereItLeaves alarms s c → StaysUnlessTold alarms s c
stays_unless_told alarms s c law h z = law s c (λ place. h place (silent_at alarms Leaves128 place z))

module _ {K : Type 0} (Describes : Description K) (k : K) (s : StateMaps) (c : ContractTree) (start : (scope : Scope) → DescribesStart Describes scope k s) (none found : Found) (walked : Finds (Covers Describes [] k c) none found) where
  fits : (range : PaidRange) → IsBounded found.closings.rows found.closings.count range → Fits found found.alarms range
  fits range b = record { alarms = among_themselves found.alarms; bounded = b }

  covers_from : (scope : Scope) (range : PaidRange) → IsBounded found.closings.rows found.closings.count range → CoversFrom (limits scope found.alarms (range ∷ [])) s c
  covers_from scope range b = start_covered Describes found.alarms (range ∷ []) scope s c k (start scope) (walked found.alarms range (fits range b)).1

  pub names_where_it_comes : AlarmsNameWhereItComes → NamesWhereItComes found.alarms s c
  unfolding unbounded
  names_where_it_comes law = law found.alarms (unbounded ∷ []) s c (covers_from any_runs unbounded (λ n p. (tt, tt)))

  pub names_where_it_leaves : AlarmsNameWhereItLeaves → NamesWhereItLeaves found.alarms s c
  unfolding unbounded
  names_where_it_leaves law = law found.alarms (unbounded ∷ []) s c (covers_from written_runs unbounded (λ n p. (tt, tt)))

  pays_between : PaymentsLieInRanges → AllPositive (entries s.accounts) → (range : PaidRange) → IsBounded found.closings.rows found.closings.count range → PaysBetween range.party range.token range.least range.most s c
  pays_between law positive range b = (law found.alarms (range ∷ []) s c positive (covers_from any_runs range b)).0

  pub pays_within_ranges : PaymentsLieInRanges → AllPositive (entries s.accounts) → (ranges : List PaidRange) → AreBounded found.closings.rows found.closings.count ranges → PaysWithinRanges ranges s c
  pays_within_ranges law positive ranges b =
      all_weaker (IsBounded found.closings.rows found.closings.count) (λ (r : PaidRange). PaysBetween r.party r.token r.least r.most s c) (λ r h. pays_between law positive r h) ranges b

  pub pays_others_nothing : PaymentsLieInRanges → AllPositive (entries s.accounts) → (ranges : List PaidRange) → NameAll found.closings.rows ranges → PaysOthersNothing ranges s c
  pays_others_nothing law positive ranges all p t u =
      pays_between law positive (record { party = p; token = t; least = Some (pos 0); most = Some (pos 0) }) (λ n h. only_zero found.closings.rows found.closings.count (account_of p t) n (all p t u) h)
