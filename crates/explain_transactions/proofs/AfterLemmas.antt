-- What a transaction does from where its moves have led.
use Rattle.std.proofs.Common.{◌≡◌, ℕ, ℤ, ◌≤ℤ◌, int_lt, Bool, true, false, cond, ◌&&◌, List, [], ◌∷◌, ◌++◌, map, append_assoc, refl, sym, ap, ◌∙◌, subst, Result, Ok, Err, Option, Some, None}
use Rattle.std.specs.Prelude.{flat_map}
use Rattle.std.specs.Int.{int_max}
use Rattle.contract.specs.declared.fault.SemFault.{SemFault}
use Rattle.contract.specs.declared.fault.SemFault.TheVariants.{Memory}
use Rattle.contract.specs.declared.input.Input.{Input}
use Rattle.contract.specs.declared.interval.Interval.{Interval}
use Rattle.contract.specs.Tree.{ActionTree, ContractTree}
use Rattle.contract.specs.States.States.{StateMaps}
use Rattle.semantics.specs.Evaluation.Numbers.{all_fit}
use Rattle.semantics.specs.Evaluation.Path.{waits_for}
use Rattle.semantics.proofs.FromEvaluation.Numbers.{all_fit_append}
use Rattle.semantics.specs.Walk.{Turn, in_case, Standing, standing, Walk, ended, joined, then_from, then_walk, answer_of}
use Rattle.semantics.specs.Reduction.{Reduction, Quiet}
use Rattle.semantics.specs.Settling.{reduction_then}
use Rattle.semantics.specs.Applying.{taken, taken_numbers, taking}
use Rattle.semantics.specs.Transaction.{trimmed, begun, finished}
use Rattle.semantics.specs.Computed.{settled, first_match, first_match_index, tried_to_match, take_match, applied, one_input, all_inputs, from_start, computed}
use Rattle.semantics.proofs.Computing.{computed_well}
use Rattle.semantics.proofs.Relations.{goes_by_reduction, rests_when_quiet}
use Rattle.semantics.proofs.Walks.{same_answer, finished_fails}
use Rattle.next_inputs.proofs.OneInput.{taken_match}
use Rattle.analysis_spec.specs.declared.path.PathStep.{PathStep}
use Rattle.explain_transactions.specs.Moves.{Move, reduces, takes, IsReduced, IsTaken, Moves, turn_by, input_by}
use Rattle.explain_transactions.specs.Explained.{Reaches}
use Rattle.explain_transactions.proofs.CasesLemmas.{first_there}

-- a walk is another one, after these turns whose numbers fit
pub record After (w v : Walk) (ts : List Turn) : Type 0 where
  pub fits : all_fit w.numbers ≡ all_fit v.numbers
  pub end : w.end ≡ v.end
  pub turns : w.turns ≡ ts ++ v.turns

after_trans : (w v u : Walk) (ts us : List Turn) → After w v ts → After v u us → After w u (ts ++ us)
after_trans w v u ts us h k = record { fits = h.fits ∙ k.fits; end = h.end ∙ k.end; turns = h.turns ∙ (ap (λ x. ts ++ x) k.turns ∙ sym (append_assoc ts us u.turns)) }

-- a part whose numbers fit, before another
joined_first : (t w : Walk) (f : Standing → Walk) → all_fit t.numbers ≡ true → After (then_walk (joined t w) f) (then_walk w f) t.turns
joined_first t w f h = by w.end
  where
    by : (end : Result Standing SemFault) → After (then_from (joined t w) end f) (then_from w end f) t.turns
    by (Ok a) = record {
      fits = ap all_fit (append_assoc t.numbers w.numbers (f a).numbers) ∙ (all_fit_append t.numbers (w.numbers ++ (f a).numbers) ∙ ap (λ b. b && all_fit (w.numbers ++ (f a).numbers)) h);
      end = refl;
      turns = append_assoc t.turns w.turns (f a).turns;
    }
    by (Err e) = record { fits = all_fit_append t.numbers w.numbers ∙ ap (λ b. b && all_fit w.numbers) h; end = refl; turns = refl }

-- what is still done from where a contract stands
abbrev pub rest : Interval → Standing → List Input → Walk
rest j a xs = then_walk (settled j a.state a.contract) (all_inputs j xs)

-- a reduction, as a part
abbrev reduction_part : Reduction → Walk
reduction_part r = record { numbers = r.numbers; warnings = r.warnings; payments = r.payments; turns = r.turn ∷ []; end = Err Memory }

after_reduction : (j : Interval) (a : Standing) (r : Reduction) (xs : List Input) → j.from ≤ℤ j.to → IsReduced j a r → After (rest j a xs) (rest j (standing r.state r.contract) xs) (r.turn ∷ [])
after_reduction j a r xs v h =
    subst (λ (w : Walk). After (then_walk w (all_inputs j xs)) (rest j (standing r.state r.contract) xs) (r.turn ∷ [])) (sym (goes_by_reduction j a.state a.contract r v h.reduces))
    (joined_first (reduction_part r) (settled j r.state r.contract) (all_inputs j xs) h.fits)

-- where a contract waits, the inputs come at once
pub rest_quiet : (j : Interval) (a : Standing) (xs : List Input) → Quiet j a.state a.contract → rest j a xs ≡ all_inputs j xs a
rest_quiet j a xs h = ap (λ (w : Walk). then_walk w (all_inputs j xs)) (rests_when_quiet j a.state a.contract h)

after_input : (j : Interval) (a : Standing) (x : Input) (n : ℕ) (k : ActionTree × ContractTree) (xs : List Input) → IsTaken j a x n k
    → After (rest j a (x ∷ xs)) (rest j (standing (taken a.state x) k.1) xs) (in_case n ∷ [])
unfolding one_input applied
after_input j a x n k xs h =
    let ks = waits_for a.contract in
    let ns = tried_to_match j a.state x ks in
    let q = taken_match j a.state x ks n h.takes in
    let there = first_there j a.state x ks n k h.takes h.case in
    let g : Standing → Walk = λ b. settled j b.state b.contract in
    let v = rest j (standing (taken a.state x) k.1) xs in
    let fits : all_fit (ns ++ taken_numbers a.state x) ≡ true = all_fit_append ns (taken_numbers a.state x) ∙ (ap (λ b. b && all_fit (taken_numbers a.state x)) q.2 ∙ h.fits) in
    subst (λ (w : Walk). After w v (in_case n ∷ [])) (sym (rest_quiet j a (x ∷ xs) h.waits))
    (subst (λ (m : ℕ). After (then_walk (then_walk (take_match a.state x ns m (first_match j a.state x ks)) g) (all_inputs j xs)) v (in_case n ∷ [])) (sym q.0)
    (subst (λ (o : Option ContractTree). After (then_walk (then_walk (take_match a.state x ns n o) g) (all_inputs j xs)) v (in_case n ∷ [])) (sym there)
    (joined_first (taking a.state x ns n k.1) (settled j (taken a.state x) k.1) (all_inputs j xs) fits)))

-- what is done after moves
pub after_moves : (j : Interval) (a : Standing) (ms : List Move) (b : Standing) (ys : List Input) → j.from ≤ℤ j.to → Moves j a ms b → After (rest j a (flat_map input_by ms ++ ys)) (rest j b ys) (map turn_by ms)
after_moves j a [] b ys v h = subst (λ (x : Standing). After (rest j x ys) (rest j b ys) []) h (record { fits = refl; end = refl; turns = refl })
after_moves j a (reduces r ∷ ms) b ys v h =
    let zs = flat_map input_by ms ++ ys in
    after_trans (rest j a zs) (rest j (standing r.state r.contract) zs) (rest j b ys) (r.turn ∷ []) (map turn_by ms) (after_reduction j a r zs v h.0) (after_moves j (standing r.state r.contract) ms b ys v h.1)
after_moves j a (takes x n k ∷ ms) b ys v h =
    let zs = flat_map input_by ms ++ ys in
    let c = standing (taken a.state x) k.1 in
    after_trans (rest j a (x ∷ zs)) (rest j c zs) (rest j b ys) (in_case n ∷ []) (map turn_by ms) (after_input j a x n k zs h.0) (after_moves j c ms b ys v h.1)

-- ---- the whole transaction

pub fixed_order : (i : Interval) (s : StateMaps) → i.from ≤ℤ i.to → s.min_time ≤ℤ i.to → (trimmed i s).from ≤ℤ i.to
fixed_order i s h k = by (int_lt s.min_time i.from)
  where
    by : (t : Bool) → cond t i.from s.min_time ≤ℤ i.to
    by true = h
    by false = k

pub computed_rest : (i : Interval) (s : StateMaps) (c : ContractTree) (xs : List Input) → i.from ≤ℤ i.to → s.min_time ≤ℤ i.to → computed i s c xs ≡ finished (rest (trimmed i s) (standing (begun i s) c) xs)
unfolding from_start
computed_rest i s c xs h k = computed_well i s c xs h k

module _ (i : Interval) (s : StateMaps) (c : ContractTree) (xs front ys : List Input) (place : List PathStep) (there : Standing) (r : Reaches i s c xs front ys place there) where
  -- a transaction that has come to a place goes on from there
  pub reached : After (rest (trimmed i s) (standing (begun i s) c) xs) (rest (trimmed i s) there ys) (map turn_by r.comes.moves)
  reached =
      let j = trimmed i s in
      let a = standing (begun i s) c in
      subst (λ (zs : List Input). After (rest j a zs) (rest j there ys) (map turn_by r.comes.moves)) (ap (λ zs. zs ++ ys) r.comes.inputs ∙ sym r.inputs)
      (after_moves j a r.comes.moves there ys (fixed_order i s r.starts r.ends) r.comes.runs)

  -- so a fault there is its fault
  pub reached_fault : (f : SemFault) → (f ≡ Memory → ⊥) → answer_of (rest (trimmed i s) there ys) ≡ Err f → answer_of (computed i s c xs) ≡ Err f
  reached_fault f n h =
      let w = rest (trimmed i s) (standing (begun i s) c) xs in
      let q = reached in
      ap answer_of (computed_rest i s c xs r.starts r.ends) ∙ finished_fails w f (λ _. same_answer w (rest (trimmed i s) there ys) q.fits q.end ∙ h) n
