-- What stops a walk explains the transaction; and what isn't stopped is accepted.
use Rattle.std.proofs.Common.{◌≡◌, ℕ, suc, ◌+◌, ◌<◌, ◌≤◌, ℤ, ◌≤ℤ◌, Bool, true, false, ◌&&◌, List, [], ◌∷◌, ◌++◌, length, get_or, take, drop, map, append-nil, append_assoc, length-take, refl, sym, ap, ◌∙◌, subst, inl, inr, ◌⊎◌, arith, Result, Ok, Err, is_ok, Option, Some, None}
use Rattle.std.specs.Prelude.{flat_map, slice_get, IsOk, MatchOption}
use Rattle.std.specs.Option.{is_none}
use Rattle.std.proofs.lemmas.List.{take-append-drop, drop_more, take_more, take_all, length-take-le}
use Rattle.contract.specs.declared.input.Input.{Input}
use Rattle.contract.specs.declared.interval.Interval.{Interval}
use Rattle.contract.specs.Tree.{ActionTree, ContractTree, contract_tree}
use Rattle.contract.specs.States.States.{StateMaps}
use Rattle.semantics.specs.Walk.{Turn, Standing, standing, Walk, answer_of}
use Rattle.semantics.specs.Reduction.{Quiet, account_of}
use Rattle.semantics.specs.Applying.{taken}
use Rattle.semantics.specs.Transaction.{trimmed, begun}
use Rattle.semantics.specs.Computed.{computed}
use Rattle.semantics.proofs.Walks.{finished_busy, and_false}
use Rattle.analysis_spec.specs.declared.path.PathStep.{PathStep}
use Rattle.analysis_spec.specs.declared.path.PathStep.TheVariants.{Case}
use Rattle.trace.specs.declared.sequence.Left.{Left}
use Rattle.explain_transactions.specs.declared.explanation.Explanation.{Explanation}
use Rattle.explain_transactions.specs.declared.stop.Stop.{Stop}
use Rattle.explain_transactions.specs.declared.stop.Stop.TheVariants as stops
use Rattle.explain_transactions.specs.declared.stop.Moved.{Moved}
use Rattle.explain_transactions.specs.declared.stop.Moved.TheVariants as moved
use Rattle.explain_transactions.specs.Moves.{Move, IsTaken, Moves, turn_by, input_by, Comes}
use Rattle.explain_transactions.specs.Explained.{Reaches, IsUnmatchedAt, Explains}
use Rattle.explain_transactions.specs.Support.{here, Stops, LeadsTo, RestsAfter, StopsAfter, HasMoved, Settles, TakesOrStops, TakesAndSettles, explanation, Tells}
use Rattle.explain_transactions.proofs.MovesLemmas.{comes_then, comes_by_input}
use Rattle.explain_transactions.proofs.AfterLemmas.{rest, computed_rest, reached}
use Rattle.explain_transactions.proofs.RefusedLemmas.{reached_end}

-- ---- lists

pub split_at : (xs : List Input) (n : ℕ) (x : Input) → n < length xs → x ≡ get_or xs n x → xs ≡ take n xs ++ x ∷ drop (n + 1) xs
split_at xs n x h e =
    sym (take-append-drop n xs) ∙ (ap (λ ys. take n xs ++ ys) (drop_more xs n x h) ∙ ap (λ y. take n xs ++ y ∷ drop (n + 1) xs) (sym e))

-- ---- from one place to another

-- an input that is taken
pub takes_one : (j : Interval) (x : Input) (old new : Left) → TakesOrStops j x old new None → LeadsTo j (x ∷ []) old new new.state
takes_one j x old new h =
    subst (λ (p : List PathStep). Comes j (x ∷ []) old.path (here old) p (here new)) (sym h.4)
    (subst (λ (b : Standing). Comes j (x ∷ []) old.path (here old) (old.path ++ Case h.0 ∷ []) b) (sym h.3) (comes_by_input j old.path (here old) x h.0 h.1 h.2))

-- moves behind moves
pub leads_then : (j : Interval) (xs ys : List Input) (old mid new : Left) (t : StateMaps) → LeadsTo j xs old mid mid.state → LeadsTo j ys mid new t → LeadsTo j (xs ++ ys) old new t
leads_then j xs ys old mid new t h k = comes_then j xs ys old.path mid.path new.path (here old) (here mid) (standing t (contract_tree new.contract.now)) h k

pub rests_then : (j : Interval) (xs : List Input) (old mid new : Left) → LeadsTo j xs old mid mid.state → RestsAfter j [] mid new → RestsAfter j xs old new
rests_then j xs old mid new h k = (subst (λ (zs : List Input). LeadsTo j zs old new new.state) (append-nil xs) (leads_then j xs [] old mid new new.state h k.0), k.1)

pub stops_then : (j : Interval) (xs : List Input) (old mid new : Left) (stop : Stop) → LeadsTo j xs old mid mid.state → StopsAfter j [] mid new stop → StopsAfter j xs old new stop
stops_then j xs old mid new stop h k = (k.0, subst (λ (zs : List Input). LeadsTo j zs old new k.0) (append-nil xs) (leads_then j xs [] old mid new k.0 h k.1), k.2)

-- an input, and the reductions behind it
pub settles_on : (j : Interval) (x : Input) (old mid new : Left) → TakesOrStops j x old mid None → (stop : Option Stop) → Settles j mid new stop → TakesAndSettles j x old new stop
settles_on j x old mid new h None k = rests_then j (x ∷ []) old mid new (takes_one j x old mid h) k
settles_on j x old mid new h (Some stop) k = inr (stops_then j (x ∷ []) old mid new stop (takes_one j x old mid h) k)

-- a reduction behind others
pub moved_then : (j : Interval) (old mid new : Left) (m : Moved) → LeadsTo j [] old mid mid.state → HasMoved j mid new m → HasMoved j old new m
moved_then j old mid new moved.On h k = leads_then j [] [] old mid new new.state h k
moved_then j old mid new moved.Rests h k = (leads_then j [] [] old mid new new.state h k.0, k.1)
moved_then j old mid new (moved.Stops stop) h k = (k.0, leads_then j [] [] old mid new k.0 h k.1, k.2)

-- ---- explanations

module _ (i : Interval) (s : StateMaps) (c : ContractTree) (xs : List Input) (starts : i.from ≤ℤ i.to) (ends : s.min_time ≤ℤ i.to) where
  -- reductions are stopped, once these inputs are taken
  stop_explains : (front ys : List Input) (new : Left) (n : ℕ) (stop : Stop) (t : StateMaps) → xs ≡ front ++ ys → Comes (trimmed i s) front [] (standing (begun i s) c) new.path (standing t (contract_tree new.contract.now))
      → Stops (trimmed i s) t (contract_tree new.contract.now) stop → Explains i s c xs (explanation new n stop)
  stop_explains front ys new n (stops.Ambiguous u) t e h k = record {
    front = front;
    rest = ys;
    there = standing t (contract_tree new.contract.now);
    reaches = record { starts = starts; ends = ends; inputs = e; comes = h };
    cases = k.0;
    then = k.1;
    waits = k.2;
    after = k.3;
    within = k.4;
  }
  stop_explains front ys new n stops.Value t e h k =
      inl (record { front = front; rest = ys; there = standing t (contract_tree new.contract.now); reaches = record { starts = starts; ends = ends; inputs = e; comes = h }; leaves = k })
  stop_explains front ys new n (stops.Sum p u) t e h k =
      inl (record { front = front; rest = ys; there = standing t (contract_tree new.contract.now); reaches = record { starts = starts; ends = ends; inputs = e; comes = h }; leaves = k })
  stop_explains front ys new n stops.Unmatched t e h k = absurd k

  -- an input isn't taken, where all is quiet
  input_explains : (front : List Input) (x : Input) (ys : List Input) (old new : Left) (n : ℕ) (stop : Stop) → xs ≡ front ++ x ∷ ys → length front ≡ n → Comes (trimmed i s) front [] (standing (begun i s) c) old.path (here old)
      → Quiet (trimmed i s) old.state (contract_tree old.contract.now) → TakesOrStops (trimmed i s) x old new (Some stop) → Explains i s c xs (explanation new n stop)
  input_explains front x ys old new n stops.Unmatched e l h q k =
      let at : IsUnmatchedAt i s c xs n old.path (here old) = record {
        front = front;
        input = x;
        rest = ys;
        index = l;
        reaches = record { starts = starts; ends = ends; inputs = e; comes = h };
        waits = q;
        untaken = k.2;
        within = k.3;
      } in
      subst (λ (b : Standing). IsUnmatchedAt i s c xs n new.path b) (sym k.0) (subst (λ (p : List PathStep). IsUnmatchedAt i s c xs n p (here old)) (sym k.1) at)
  input_explains front x ys old new n stops.Value e l h q k = inr (record {
    front = front;
    input = x;
    rest = ys;
    path = old.path;
    there = here old;
    reaches = record { starts = starts; ends = ends; inputs = e; comes = h };
    waits = q;
    index = k.0;
    leaves = k.1;
    action = k.2;
  })
  input_explains front x ys old new n (stops.Sum p u) e l h q k = inr (record {
    front = front;
    input = x;
    rest = ys;
    path = old.path;
    there = here old;
    reaches = record { starts = starts; ends = ends; inputs = e; comes = h };
    waits = q;
    index = k.0;
    takes = k.1;
    leaves = k.2;
    action = k.3;
  })
  input_explains front x ys old new n (stops.Ambiguous u) e l h q k = absurd k

  -- ---- a transaction that isn't stopped

  pub is_accepted : (place : List PathStep) (there : Standing) → Comes (trimmed i s) xs [] (standing (begun i s) c) place there → Quiet (trimmed i s) there.state there.contract
      → (xs ≡ [] → Quiet (trimmed i s) (begun i s) c → ⊥) → IsOk (answer_of (computed i s c xs))
  is_accepted place there h q busy =
      let a = standing (begun i s) c in
      let w = rest (trimmed i s) a xs in
      let r : Reaches i s c xs xs [] place there = record { starts = starts; ends = ends; inputs = sym (append-nil xs); comes = h } in
      let k = reached i s c xs xs [] place there r in
      let done = by h.moves h.runs h.inputs (rest (trimmed i s) there []).turns w.turns k.turns in
      let same : answer_of (computed i s c xs) ≡ Ok there =
      ap answer_of (computed_rest i s c xs starts ends) ∙ (ap answer_of (finished_busy w (and_false (is_ok w.end) (is_none (slice_get w.turns 0)) done)) ∙ reached_end i s c xs place there r q) in
      subst (λ z. IsOk z) (sym same) refl
    where
      by : (ms : List Move) → Moves (trimmed i s) (standing (begun i s) c) ms there → flat_map input_by ms ≡ xs → (us ts : List Turn) → ts ≡ map turn_by ms ++ us → is_none (slice_get ts 0) ≡ false
      by [] m e us ts t = absurd (busy (sym e) (subst (λ (b : Standing). Quiet (trimmed i s) b.state b.contract) m q))
      by (m ∷ ms) n e us ts t = ap (λ vs. is_none (slice_get vs 0)) t

-- ---- from wherever the interval is fixed so

at_fixed : (F : Interval → StateMaps → Type 0) (E : Type 0) (i : Interval) (s : StateMaps) (j : Interval) (t : StateMaps) → trimmed i s ≡ j → begun i s ≡ t → (F (trimmed i s) (begun i s) → E) → F j t → E
at_fixed F E i s j t e l k f = k (subst (λ (u : StateMaps). F (trimmed i s) u) (sym l) (subst (λ (h : Interval). F h t) (sym e) f))

-- the first reductions are stopped
pub tells_first : (j : Interval) (t : StateMaps) (c : ContractTree) (xs : List Input) (old new : Left) (stop : Stop) → here old ≡ standing t c → old.path ≡ [] → StopsAfter j [] old new stop → Tells j t c xs (Some (explanation new 0 stop))
tells_first j t c xs old new stop e l h i s starts ends f g busy =
    let at = standing h.0 (contract_tree new.contract.now) in
    let there : Comes j [] [] (standing t c) new.path at =
    subst (λ (p : List PathStep). Comes j [] p (standing t c) new.path at) l (subst (λ (b : Standing). Comes j [] old.path b new.path at) e h.1) in
    at_fixed (λ k u. Comes k [] [] (standing u c) new.path at × Stops k h.0 (contract_tree new.contract.now) stop) (Explains i s c xs (explanation new 0 stop)) i s j t f g (λ z. stop_explains i s c xs starts ends [] xs new 0 stop h.0 refl z.0 z.1)
    (there, h.2)

-- an input isn't taken, or what follows it is stopped
pub tells_input : (j : Interval) (t : StateMaps) (c : ContractTree) (xs : List Input) (n : ℕ) (x : Input) (old new : Left) (stop : Stop) → n < length xs → x ≡ get_or xs n x → Comes j (take n xs) [] (standing t c) old.path (here old)
    → Quiet j old.state (contract_tree old.contract.now) → TakesAndSettles j x old new (Some stop) → Tells j t c xs (Some (explanation new n stop))
tells_input j t c xs n x old new stop l e h q (inl k) i s starts ends f g busy =
    at_fixed (λ z u. Comes z (take n xs) [] (standing u c) old.path (here old) × Quiet z old.state (contract_tree old.contract.now) × TakesOrStops z x old new (Some stop)) (Explains i s c xs (explanation new n stop)) i s j t f g
    (λ z. input_explains i s c xs starts ends (take n xs) x (drop (n + 1) xs) old new n stop (split_at xs n x l e) (length-take-le n xs (omega arith)) z.0 z.1 z.2) (h, q, k)
tells_input j t c xs n x old new stop l e h q (inr k) i s starts ends f g busy =
    let at = standing k.0 (contract_tree new.contract.now) in
    let there = comes_then j (take n xs) (x ∷ []) [] old.path new.path (standing t c) (here old) at h k.1 in
    at_fixed (λ z u. Comes z (take n xs ++ x ∷ []) [] (standing u c) new.path at × Stops z k.0 (contract_tree new.contract.now) stop) (Explains i s c xs (explanation new n stop)) i s j t f g
    (λ z. stop_explains i s c xs starts ends (take n xs ++ x ∷ []) (drop (n + 1) xs) new n stop k.0 (split_at xs n x l e ∙ sym (append_assoc (take n xs) (x ∷ []) (drop (n + 1) xs))) z.0 z.1) (there, k.2)

-- one input more is taken
pub one_more : (j : Interval) (a : Standing) (xs : List Input) (n : ℕ) (x : Input) (old new : Left) → n < length xs → x ≡ get_or xs n x → Comes j (take n xs) [] a old.path (here old) → LeadsTo j (x ∷ []) old new new.state
    → Comes j (take (n + 1) xs) [] a new.path (here new)
one_more j a xs n x old new l e h k =
    subst (λ (zs : List Input). Comes j zs [] a new.path (here new)) (sym (taken_so xs n x l e)) (comes_then j (take n xs) (x ∷ []) [] old.path new.path a (here old) (here new) h k)
  where
    taken_so : (ys : List Input) (m : ℕ) (y : Input) → m < length ys → y ≡ get_or ys m y → take (m + 1) ys ≡ take m ys ++ y ∷ []
    taken_so ys m y g f = take_more ys m y g ∙ ap (λ z. take m ys ++ z ∷ []) (sym f)

-- all are taken
pub tells_all : (j : Interval) (t : StateMaps) (c : ContractTree) (xs : List Input) (n : ℕ) (place : List PathStep) (there : Standing) → length xs ≤ n → Comes j (take n xs) [] (standing t c) place there
    → Quiet j there.state there.contract → Tells j t c xs None
tells_all j t c xs n place there l h q i s starts ends f g busy =
    let all : Comes j xs [] (standing t c) place there = subst (λ (zs : List Input). Comes j zs [] (standing t c) place there) (take_all n xs l) h in
    at_fixed (λ z u. Comes z xs [] (standing u c) place there × Quiet z there.state there.contract × (xs ≡ [] → Quiet z u c → ⊥)) (IsOk (answer_of (computed i s c xs))) i s j t f g (λ z. is_accepted i s c xs starts ends place there z.0 z.1 z.2)
    (all, q, busy)
