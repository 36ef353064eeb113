-- One transaction more.
use Rattle.std.proofs.Common.{◌≡◌, ℕ, suc, ◌+◌, ◌-◌, ◌<◌, Bool, true, false, cond, List, [], ◌∷◌, ◌++◌, length, get_or, drop, Result, Ok, Err, refl, sym, ap, subst, ◌∙◌, arith, append-nil, append_assoc, length-drop}
use Rattle.std.specs.Prelude.{not, ◌||◌, ◌==◌}
use Rattle.std.proofs.lemmas.Bool.Decides.{nat_tests}
use Rattle.std.proofs.lemmas.List.{at_drop_more}
use Rattle.contract.specs.declared.fault.SemFault.{SemFault}
use Rattle.contract.specs.declared.transaction.Transaction.{Transaction}
use Rattle.marlowe_run.specs.Semantics.Walk.{Standing, Walk, answer_of}
use Rattle.analysis_spec.specs.Runs.{walk_from}
use Rattle.trace.specs.Traces.{walks_then, walks, left_then, left_by}
use Rattle.marlowe_run.specs.Run.{printed}
use Rattle.marlowe_run.specs.JsonReadInputs.ReadsState.{state_with_texts}
use Rattle.marlowe_run.specs.JsonWriteOutcomes.WrittenOutcome.{state_json}
use Rattle.marlowe_trace.specs.Traced.{ReturnsThen, StatesReturn, line_or_nothing, line_of, last_line, lines_of}

-- whether the line of a transaction is printed, by what comes behind it
abbrev is_printed : Bool → List Transaction → Bool
is_printed last ts = not last || (length ts == 0)

abbrev line_if : Bool → Walk → List ℕ
line_if printed w = cond printed (line_of w) []

-- ---- by what comes next

module _ (a : Standing) (t : Transaction) (ts : List Transaction) where
  pub walks_on : (b : Standing) → answer_of (walk_from a t) ≡ Ok b → walks a (t ∷ ts) ≡ walk_from a t ∷ walks b ts
  walks_on b h = ap (λ r. walk_from a t ∷ walks_then r (λ c. walks c ts)) h

  walks_end : (f : SemFault) → answer_of (walk_from a t) ≡ Err f → walks a (t ∷ ts) ≡ walk_from a t ∷ []
  walks_end f h = ap (λ r. walk_from a t ∷ walks_then r (λ c. walks c ts)) h

  nothing_refused : (f : SemFault) → answer_of (walk_from a t) ≡ Err f → line_of (walk_from a t) ≡ []
  nothing_refused f h = ap (line_or_nothing (walk_from a t)) h

  pub lines_end : (last : Bool) (f : SemFault) → answer_of (walk_from a t) ≡ Err f → lines_of last (walks a (t ∷ ts)) ≡ []
  lines_end true f h = ap last_line (walks_end f h) ∙ nothing_refused f h
  lines_end false f h = ap (lines_of false) (walks_end f h) ∙ (append-nil (line_of (walk_from a t)) ∙ nothing_refused f h)

  pub printed_line : (b : Standing) → answer_of (walk_from a t) ≡ Ok b → line_of (walk_from a t) ≡ printed (walk_from a t) b
  printed_line b h = ap (line_or_nothing (walk_from a t)) h

pub line_printed : (a : Standing) (t : Transaction) (last : Bool) (b : Standing) → answer_of (walk_from a t) ≡ Ok b → lines_of last (walks a (t ∷ [])) ≡ printed (walk_from a t) b
line_printed a t true b h = ap last_line (walks_on a t [] b h) ∙ printed_line a t [] b h
line_printed a t false b h = ap (lines_of false) (walks_on a t [] b h) ∙ (append-nil (line_of (walk_from a t)) ∙ printed_line a t [] b h)

not_last : (n : ℕ) → (suc n == 0) ≡ false
not_last n = grind (arith, nat_tests)

more_lines : (last : Bool) (w : Walk) (b : Standing) (ts : List Transaction) → lines_of last (w ∷ walks b ts) ≡ line_if (is_printed last ts) w ++ lines_of last (walks b ts)
more_lines false w b ts = refl
more_lines true w b [] = sym (append-nil (line_of w))
more_lines true w b (t ∷ ts) = ap (λ p. line_if p w ++ lines_of true (walks b (t ∷ ts))) (sym (not_last (length ts)))

-- ---- in the loop: at index n of all transactions

same_test : (n : ℕ) (ts : List Transaction) → n < length ts → (n + 1 == length ts) ≡ (length (drop (n + 1) ts) == 0)
same_test n ts h = let left : length (drop (n + 1) ts) ≡ length ts - (n + 1) = length-drop (n + 1) ts in grind (arith, nat_tests, left)

printed_here : (last : Bool) (n : ℕ) (ts : List Transaction) → n < length ts → (not last || (n + 1 == length ts)) ≡ is_printed last (drop (n + 1) ts)
printed_here last n ts h = ap (λ b. not last || b) (same_test n ts h)

-- its lines are those so far and those from where the transaction leads
pub lines_here : (last : Bool) (n : ℕ) (ts : List Transaction) (a b : Standing) (t : Transaction) (text : List ℕ) → n < length ts → t ≡ get_or ts n t → answer_of (walk_from a t) ≡ Ok b
    → text ++ lines_of last (walks a (drop n ts)) ≡ (text ++ cond (not last || (n + 1 == length ts)) (line_of (walk_from a t)) []) ++ lines_of last (walks b (drop (n + 1) ts))
lines_here last n ts a b t text h is next =
    let rest = drop (n + 1) ts in
    let step : lines_of last (walks a (drop n ts)) ≡ line_if (is_printed last rest) (walk_from a t) ++ lines_of last (walks b rest) =
    at_drop_more (λ us. lines_of last (walks a us)) ts n t h ∙ (ap (λ u. lines_of last (walks a (u ∷ rest))) (sym is) ∙ (ap (lines_of last) (walks_on a t rest b next) ∙ more_lines last (walk_from a t) b rest)) in
    ap (λ ls. text ++ ls) step
    ∙ (ap (λ p. text ++ (line_if p (walk_from a t) ++ lines_of last (walks b rest))) (sym (printed_here last n ts h))
    ∙ sym (append_assoc text (cond (not last || (n + 1 == length ts)) (line_of (walk_from a t)) []) (lines_of last (walks b rest))))

-- what they all come to is what those that are left come to
pub left_here : (n : ℕ) (ts : List Transaction) (a b : Standing) (t : Transaction) → n < length ts → t ≡ get_or ts n t → answer_of (walk_from a t) ≡ Ok b → left_by n a (drop n ts) ≡ left_by (n + 1) b (drop (n + 1) ts)
left_here n ts a b t h is next =
    let one : suc n ≡ n + 1 = omega arith in
    at_drop_more (left_by n a) ts n t h
    ∙ (ap (λ u. left_then (answer_of (walk_from a u)) n (λ c. left_by (suc n) c (drop (n + 1) ts))) (sym is)
    ∙ (ap (λ r. left_then r n (λ c. left_by (suc n) c (drop (n + 1) ts))) next ∙ ap (λ m. left_by m b (drop (n + 1) ts)) one))

-- ---- states that are read as they were

module _ (n : ℕ) (ts : List Transaction) (a : Standing) (t : Transaction) (h : n < length ts) (is : t ≡ get_or ts n t) where
  returns_here : StatesReturn a (t ∷ drop (n + 1) ts) → StatesReturn a (drop n ts)
  returns_here back = subst (λ (us : List Transaction). StatesReturn a us) (sym (at_drop_more (λ us. us) ts n t h)) (subst (λ (u : Transaction). StatesReturn a (u ∷ drop (n + 1) ts)) is back)

  pub states_here : (b : Standing) → answer_of (walk_from a t) ≡ Ok b → state_with_texts (state_json b.state) ≡ Ok b.state → StatesReturn b (drop (n + 1) ts) → StatesReturn a (drop n ts)
  states_here b next back more = returns_here (subst (λ (r : Result Standing SemFault). ReturnsThen r (λ c. StatesReturn c (drop (n + 1) ts))) (sym next) (back, more))
