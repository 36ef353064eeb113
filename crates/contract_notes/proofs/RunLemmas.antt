-- Transactions are steps.
use Rattle.std.proofs.Common.{◌≡◌, Bool, true, false, cond, List, [], ◌∷◌, ◌++◌, append_assoc, refl, sym, ap, ◌∙◌, subst, inl, inr, Result, Ok, Err}
use Rattle.std.proofs.lemmas.List.{append-nil}
use Rattle.std.specs.List.{AllByRecursion}
use Rattle.std.specs.Result.{result_unwrap_or}
use Rattle.contract.specs.declared.fault.SemFault.{SemFault}
use Rattle.contract.specs.declared.fault.SemFault.TheVariants.{Useless, Leaves128, Ambiguous}
use Rattle.contract.specs.declared.input.Input.{Input}
use Rattle.contract.specs.declared.interval.Interval.{Interval}
use Rattle.contract.specs.declared.transaction.Transaction.{Transaction}
use Rattle.contract.specs.Tree.{ContractTree}
use Rattle.contract.specs.States.States.{StateMaps}
use Rattle.semantics.specs.Evaluation.Numbers.{all_fit}
use Rattle.semantics.specs.Walk.{Turn, Standing, standing, Walk, ThenFrom, Then, answer_of}
use Rattle.semantics.specs.Reduction.{Reduction}
use Rattle.semantics.specs.Settling.{Runs, Ends, Settles, walk_through}
use Rattle.semantics.specs.Applying.{Applies, taken}
use Rattle.semantics.specs.Transaction.{trimmed, TakesInput, TakesInputs, Computes}
use Rattle.semantics.proofs.Allowed.{computes_so}
use Rattle.analysis_spec.specs.declared.path.PathStep.{PathStep}
use Rattle.analysis_spec.specs.Runs.{walk_from, standing_after, stands_after}
use Rattle.analysis_spec.specs.Marks.{step_of, led, passed, led_with, place_after, leads_after}
use Rattle.contract_notes.specs.Coming.{Step, begins, reduces, takes, MayCome, stands_behind, goes, MayRun, stands_at_end, comes_to, TransactionsAreSteps, PassedIsComeTo}

-- ---- one step more

run_more : (a : Standing) (ms : List Step) (m : Step) → MayRun a ms → MayCome (stands_at_end a ms) m → MayRun a (ms ++ m ∷ [])
run_more a [] m h k = (k, tt)
run_more a (n ∷ ms) m h k = (h.0, run_more (stands_behind a n) ms m h.1 k)

comes_more : (ms : List Step) (m : Step) → comes_to (ms ++ m ∷ []) ≡ comes_to ms ++ goes m
comes_more [] m = append-nil (goes m)
comes_more (n ∷ ms) m = ap (λ p. goes n ++ p) (comes_more ms m) ∙ sym (append_assoc (goes n) (comes_to ms) (goes m))

ends_more : (a : Standing) (ms : List Step) (m : Step) → stands_at_end a (ms ++ m ∷ []) ≡ stands_behind (stands_at_end a ms) m
ends_more a [] m = refl
ends_more a (n ∷ ms) m = ends_more (stands_behind a n) ms m

-- steps come to a place, where the contract stands so
record Came (a : Standing) (place : List PathStep) (b : Standing) : Type 0 where
  steps : List Step
  run : MayRun a steps
  there : comes_to steps ≡ place
  ends : stands_at_end a steps ≡ b

abbrev IsCome : Standing → List PathStep → Type 0
IsCome a place = (ms : List Step) × MayRun a ms × (comes_to ms ≡ place)

come : (a : Standing) (place : List PathStep) (b : Standing) → Came a place b → IsCome a place
come a place b h = (h.steps, h.run, h.there)

more : (a : Standing) (place : List PathStep) (b : Standing) (m : Step) → Came a place b → MayCome b m → Came a (place ++ goes m) (stands_behind b m)
more a place b m h k = record {
  steps = h.steps ++ m ∷ [];
  run = run_more a h.steps m h.run (subst (λ (z : Standing). MayCome z m) (sym h.ends) k);
  there = comes_more h.steps m ∙ ap (λ p. p ++ goes m) h.there;
  ends = ends_more a h.steps m ∙ ap (λ z. stands_behind z m) h.ends;
}

-- ---- places that are passed

passed_on : (P : List PathStep → Type 0) (here : List PathStep) (ts us : List Turn) → AllByRecursion P (passed here ts) → AllByRecursion P (passed (led here ts) us) → AllByRecursion P (passed here (ts ++ us))
passed_on P here [] us h k = k
passed_on P here (t ∷ ts) us h k = (h.0, passed_on P (here ++ step_of t) ts us h.1 k)

led_on : (here : List PathStep) (ts us : List Turn) → led here (ts ++ us) ≡ led (led here ts) us
led_on here [] us = refl
led_on here (t ∷ ts) us = led_on (here ++ step_of t) ts us

-- a walk passes places to which steps come, and where it ends well they come to its end
record Reaches (a : Standing) (here : List PathStep) (w : Walk) : Type 0 where
  all : AllByRecursion (IsCome a) (passed here w.turns)
  rests : (b : Standing) → w.end ≡ Ok b → Came a (led here w.turns) b

same_end : (a b : Standing) → ◌≡◌ {A = Result Standing SemFault} (Ok a) (Ok b) → a ≡ b
same_end a b e = cc

record Through (a : Standing) (here : List PathStep) (ts : List Turn) (last : Standing) : Type 0 where
  all : AllByRecursion (IsCome a) (passed here ts)
  end : Came a (led here ts) last

by_reductions : (a : Standing) (i : Interval) (here : List PathStep) (b : Standing) (rs : List Reduction) (last : Standing) (e : Result Standing SemFault) → Came a here b → Runs i b rs last → Through a here (walk_through rs e).turns last
by_reductions a i here b [] last e h k = record { all = (come a here b h, tt); end = subst (Came a here) (sym k) h }
by_reductions a i here b (r ∷ rs) last e h k =
    let n = by_reductions a i (here ++ step_of r.turn) (standing r.state r.contract) rs last e (more a here b (reduces i r) h k.0) k.1 in
    record { all = (come a here b h, n.all); end = n.end }

settles : (a : Standing) (i : Interval) (here : List PathStep) (s : StateMaps) (c : ContractTree) (w : Walk) → Came a here (standing s c) → Settles i s c w → Reaches a here w
settles a i here s c w h k = by k.ends
  where
    n : Through a here (walk_through k.reductions w.end).turns k.last
    n = by_reductions a i here (standing s c) k.reductions k.last w.end h k.runs

    all : AllByRecursion (IsCome a) (passed here w.turns)
    all = subst (λ (z : Walk). AllByRecursion (IsCome a) (passed here z.turns)) (sym k.walk) n.all

    end : Came a (led here w.turns) k.last
    end = subst (λ (z : Walk). Came a (led here z.turns) k.last) (sym k.walk) n.end

    by : Ends i k.last w.end → Reaches a here w
    by (inl q) = record { all = all; rests = λ b e. subst (Came a (led here w.turns)) (same_end k.last b (sym q.1 ∙ e)) end }
    by (inr q) = record { all = all; rests = λ b e. absurd (let f : ◌≡◌ {A = Result Standing SemFault} (Err Ambiguous) (Ok b) = sym q.1 ∙ e in cc) }

then_reaches : (a : Standing) (here : List PathStep) (u w : Walk) (R : Standing → Walk → Type 0) → Reaches a here u → ((b : Standing) (v : Walk) → Came a (led here u.turns) b → R b v → Reaches a (led here u.turns) v)
    → Then u R w → Reaches a here w
then_reaches a here u w R h k t = by u.end refl t
  where
    by : (e : Result Standing SemFault) → u.end ≡ e → ThenFrom u e R w → Reaches a here w
    by (Ok b) q t =
        let n = k b (t.0) (h.rests b q) (t.1) in
        subst (Reaches a here) (sym (t.2)) (record {
          all = passed_on (IsCome a) here u.turns (t.0).turns h.all n.all;
          rests = λ d e. subst (λ (at : List PathStep). Came a at d) (sym (led_on here u.turns (t.0).turns)) (n.rests d e);
        })
    by (Err f) q t = subst (Reaches a here) (sym t) h

stops : (a : Standing) (here : List PathStep) (b : Standing) (w : Walk) (f : SemFault) → Came a here b → w.turns ≡ [] → w.end ≡ Err f → Reaches a here w
stops a here b w f h e q = record {
  all = subst (λ (ts : List Turn). AllByRecursion (IsCome a) (passed here ts)) (sym e) (come a here b h, tt);
  rests = λ d g. absurd (let k : ◌≡◌ {A = Result Standing SemFault} (Err f) (Ok d) = sym q ∙ g in cc);
}

applies : (a : Standing) (i : Interval) (x : Input) (here : List PathStep) (b : Standing) (w : Walk) → Came a here b → Applies i x b w → Reaches a here w
applies a i x here b w h (inl k) =
    let n : Came a (here ++ goes (takes i x k.0 k.1)) (standing (taken b.state x) (k.1).1) = more a here b (takes i x k.0 k.1) h k.2 in
    subst (Reaches a here) (sym k.3) (record { all = (come a here b h, (come a _ _ n, tt)); rests = λ d e. subst (Came a _) (same_end _ d e) n })
applies a i x here b w h (inr k) = stops a here b w _ h (ap (λ (z : Walk). z.turns) k.1) (ap (λ (z : Walk). z.end) k.1)

takes_input : (a : Standing) (i : Interval) (x : Input) (here : List PathStep) (b : Standing) (w : Walk) → Came a here b → TakesInput i x b w → Reaches a here w
takes_input a i x here b w h k =
    then_reaches a here k.0 w (λ d. Settles i d.state d.contract) (applies a i x here b k.0 h k.1) (λ d v g r. settles a i (led here (k.0).turns) d.state d.contract v g r) k.2

takes_inputs : (a : Standing) (i : Interval) (xs : List Input) (here : List PathStep) (b : Standing) (w : Walk) → Came a here b → TakesInputs i xs b w → Reaches a here w
takes_inputs a i [] here b w h k = subst (Reaches a here) (sym k) (record { all = (come a here b h, tt); rests = λ d e. subst (Came a here) (same_end b d e) h })
takes_inputs a i (x ∷ xs) here b w h k =
    then_reaches a here k.0 w (TakesInputs i xs) (takes_input a i x here b k.0 h k.1) (λ d v g r. takes_inputs a i xs (led here (k.0).turns) d v g r) k.2

unless_useless : (b : Bool) (e : Result Standing SemFault) (d : Standing) → cond b (Err Useless) e ≡ Ok d → e ≡ Ok d
unless_useless true e d h = absurd (cc)
unless_useless false e d h = h

computes : (a : Standing) (i : Interval) (xs : List Input) (here : List PathStep) (b : Standing) (w : Walk) → Came a here b → Computes i b.state b.contract xs w → Reaches a here w
computes a i xs here b w h (inl k) = stops a here b w _ h (ap (λ (z : Walk). z.turns) k.1) (ap (λ (z : Walk). z.end) k.1)
computes a i xs here b w h (inr (inl k)) = stops a here b w _ h (ap (λ (z : Walk). z.turns) k.2) (ap (λ (z : Walk). z.end) k.2)
computes a i xs here b w h (inr (inr k)) =
    let j : Interval = trimmed i b.state in
    let begun : Came a here (stands_behind b (begins j)) = subst (λ (at : List PathStep). Came a at (stands_behind b (begins j))) (append-nil here) (more a here b (begins j) h tt) in
    let n : Reaches a here k.3 =
    then_reaches a here k.2 k.3 (TakesInputs j xs) (settles a j here (stands_behind b (begins j)).state b.contract k.2 begun k.4) (λ d v g r. takes_inputs a j xs (led here (k.2).turns) d v g r) k.5 in
    subst (Reaches a here) (sym k.6) (record { all = n.all; rests = λ d e. n.rests d (unless_useless _ (k.3).end d e) })

-- ---- transactions

answered : (b : Bool) (e : Result Standing SemFault) (d : Standing) → cond b e (Err Leaves128) ≡ Ok d → e ≡ Ok d
answered true e d h = h
answered false e d h = absurd (cc)

one : (a : Standing) (here : List PathStep) (b : Standing) (t : Transaction) → Came a here b → Reaches a here (walk_from b t)
one a here b t h = computes a t.interval t.inputs here b (walk_from b t) h (computes_so t.interval b.state b.contract t.inputs)

after : (a : Standing) (here : List PathStep) (b : Standing) (t : Transaction) → Came a here b → Came a (place_after here b t) (standing_after b t)
after a here b t h = by (answer_of (walk_from b t)) refl
  where
    by : (r : Result Standing SemFault) → answer_of (walk_from b t) ≡ r → Came a (led_with r here (walk_from b t).turns) (result_unwrap_or r b)
    by (Ok d) e = (one a here b t h).rests d (answered (all_fit (walk_from b t).numbers) (walk_from b t).end d e)
    by (Err f) e = h

all_after : (a : Standing) (here : List PathStep) (b : Standing) (ts : List Transaction) → Came a here b → Came a (leads_after here b ts) (stands_after b ts)
all_after a here b [] h = h
all_after a here b (t ∷ ts) h = all_after a (place_after here b t) (standing_after b t) ts (after a here b t h)

start : (a : Standing) → Came a [] a
start a = record { steps = []; run = tt; there = refl; ends = refl }

pub transactions_are_steps : TransactionsAreSteps
transactions_are_steps s c ts =
    let a = standing s c in
    let h : Came a (leads_after [] a ts) (stands_after a ts) = all_after a [] a ts (start a) in
    record { steps = h.steps; run = h.run; there = h.there; ends = h.ends }

pub passed_is_come_to : PassedIsComeTo
passed_is_come_to s c earlier t =
    let a = standing s c in
    (one a (leads_after [] a earlier) (stands_after a earlier) t (all_after a [] a earlier (start a))).all
