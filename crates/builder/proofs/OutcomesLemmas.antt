-- What each contract makes of its inputs, part by part.
use Rattle.std.proofs.Common.{◌≡◌, ℕ, zero, suc, ◌+◌, ◌<◌, true, List, [], ◌∷◌, ◌++◌, length, take, get_or, Ok, Some, sym, ◌∙◌, ap, subst, ◌↔◌, arith}
use Rattle.contract.specs.declared.input.Input.{Input}
use Rattle.contract.specs.declared.interval.Interval.{Interval}
use Rattle.contract.specs.declared.outcome.Outcome.{Outcome}
use Rattle.builder_spec.specs.Semantics.Walk.{Walk, standing, answer_of}
use Rattle.builder_spec.specs.Semantics.Computed.{computed}
use Rattle.builder_spec.specs.Nodes.declared.cont.Cont.{Cont}
use Rattle.builder_spec.specs.Table.Flat.{Flat, Has, a_cont, cont_tree}
use Rattle.builder_spec.specs.Table.Along.{has_cont, cont_along}
use Rattle.builder_spec.specs.Table.AlongLaws.{along_at, along_tree}
use Rattle.builder_spec.specs.Machine.declared.datum.Datum.{Datum}
use Rattle.builder_spec.specs.Roles.declared.published.Published.{Published}
use Rattle.builder_spec.specs.Requests.{StepsRequest}
use Rattle.builder_spec.specs.Steps.{Stepped}
use Rattle.builder_spec.specs.Parts.{part_walk}
use Rattle.coin_selection.proofs.ListLaws.{up_to}
use Rattle.builder.specs.PartsSupport.{IsStanding, AreStanding, IsOutcome, AreOutcomes, IsPositive, ArePositive}

-- ---- one part

-- a contract's walk, by what is at hand
abbrev pub walk_at : Interval → Published → Datum → List Input → Walk
walk_at i p d xs = computed i d.state (cont_tree p.table d.cont.0) xs

-- these are a part's
pub record AreOf (r : StepsRequest) (s : Stepped) (i : Interval) (p : Published) (d : Datum) (xs : List Input) : Type 0 where
  pub interval : i ≡ r.interval
  pub published : p ≡ s.thread.shown.published
  pub datum : d ≡ s.thread.datum
  pub inputs : xs ≡ s.inputs

walk_is : (r : StepsRequest) (s : Stepped) (i : Interval) (p : Published) (d : Datum) (xs : List Input) → AreOf r s i p d xs → walk_at i p d xs ≡ part_walk r s
walk_is r s i p d xs h =
    ap (λ (x : Interval). walk_at x p d xs) h.interval
    ∙ ap (λ (x : Published). walk_at r.interval x d xs) h.published
    ∙ ap (λ (x : Datum). walk_at r.interval s.thread.shown.published x xs) h.datum
    ∙ ap (λ ys. walk_at r.interval s.thread.shown.published s.thread.datum ys) h.inputs

-- what tells that a number is one of a table
abbrev pub Tested : Flat → Type 0
Tested f = (j : Cont) → (has_cont f j ≡ true) ↔ Has f (a_cont j.0)

-- what is told of the outcome of a walk
pub record IsTold (p : Published) (k : Cont) (w : Walk) (out : Outcome Cont) : Type 0 where
  pub answer : answer_of w ≡ Ok (standing out.state (cont_tree p.table out.place.0))
  pub paid : out.payments ≡ w.payments
  pub led : cont_along p.table k w.turns ≡ Some out.place

pub outcome_is : (r : StepsRequest) (s : Stepped) (i : Interval) (p : Published) (d : Datum) (xs : List Input) (out : Outcome Cont) → AreOf r s i p d xs → IsStanding s → Tested p.table → IsTold p d.cont (walk_at i p d xs) out → IsOutcome r s out
outcome_is r s i p d xs out h stand test told =
    let mine = s.thread.shown.published in
    let k = s.thread.datum.cont in
    let w = part_walk r s in
    let walk = subst (λ (x : Walk). IsTold p d.cont x out) (walk_is r s i p d xs h) told in
    let here = subst (λ (x : Datum). IsTold mine x.cont w out) h.datum (subst (λ (x : Published). IsTold x d.cont w out) h.published walk) in
    let has = (subst (λ (x : Published). Tested x.table) h.published test k).0 stand.has in
    record {
      ended = here.answer;
      paid = here.paid;
      led = along_at mine.table k w.turns out.place here.led;
      has = (along_tree mine.table k w.turns out.place has here.led).0;
    }

-- ---- one part after another

outcomes_end : (r : StepsRequest) (ss : List Stepped) (s : Stepped) (outs : List (Outcome Cont)) (out : Outcome Cont) → AreOutcomes r ss outs → IsOutcome r s out → AreOutcomes r (ss ++ s ∷ []) (outs ++ out ∷ [])
outcomes_end r [] s [] out h k = (k, tt)
outcomes_end r [] s (o ∷ outs) out h k = absurd h
outcomes_end r (t ∷ ss) s [] out h k = absurd h
outcomes_end r (t ∷ ss) s (o ∷ outs) out h k = (h.0, outcomes_end r ss s outs out h.1 k)

pub outcomes_more : (r : StepsRequest) (ss : List Stepped) (i : ℕ) (s : Stepped) (outs : List (Outcome Cont)) (out : Outcome Cont) → i < length ss → s ≡ get_or ss i s → AreOutcomes r (take i ss) outs → IsOutcome r s out → AreOutcomes r (take (i + 1) ss) (outs ++ out ∷ [])
outcomes_more r ss i s outs out l is h k = subst (λ ts. AreOutcomes r ts (outs ++ out ∷ [])) (up_to ss i s l is) (outcomes_end r (take i ss) s outs out h k)

positive_end : (ss : List Stepped) (s : Stepped) → ArePositive ss → IsPositive s → ArePositive (ss ++ s ∷ [])
positive_end [] s h k = (k, tt)
positive_end (t ∷ ss) s h k = (h.0, positive_end ss s h.1 k)

pub positive_more : (ss : List Stepped) (i : ℕ) (s : Stepped) → i < length ss → s ≡ get_or ss i s → ArePositive (take i ss) → IsPositive s → ArePositive (take (i + 1) ss)
positive_more ss i s l is h k = subst ArePositive (up_to ss i s l is) (positive_end (take i ss) s h k)

pub standing_at : (ss : List Stepped) (i : ℕ) (s : Stepped) → i < length ss → s ≡ get_or ss i s → AreStanding ss → IsStanding s
standing_at [] i s l is h = absurd (omega (arith, l))
standing_at (t ∷ ss) zero s l is h = subst IsStanding (sym is) h.0
standing_at (t ∷ ss) (suc i) s l is h = standing_at ss i s (omega (arith, l)) is h.1
