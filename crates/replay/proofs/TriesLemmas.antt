-- What comes at the action of a case that is tried, and behind one that takes an input, comes of the whole.
use Rattle.std.proofs.Common.{◌≡◌, ℕ, zero, suc, ◌+◌, ℤ, int_lt, Bool, true, false, cond, ◌&&◌, List, [], ◌∷◌, ◌++◌, drop, append_assoc, add-one, inl, inr, refl, sym, ap, ◌∙◌, subst, arith, Some, Ok, Err}
use Rattle.std.specs.Prelude.{slice_get}
use Rattle.contract.specs.declared.fault.SemFault.{SemFault}
use Rattle.contract.specs.declared.input.Input.{Input}
use Rattle.contract.specs.declared.interval.Interval.{Interval}
use Rattle.contract.specs.Tree.{ActionTree, ContractTree, CaseTrees, close, pay, if_obs, when, let_be, assert}
use Rattle.contract.specs.States.States.{StateMaps}
use Rattle.semantics.specs.Evaluation.Numbers.{all_fit, within}
use Rattle.semantics.specs.Evaluation.Path.{case_list, waits_for}
use Rattle.semantics.proofs.FromEvaluation.Numbers.{all_fit_append, within_ok}
use Rattle.semantics.specs.Walk.{Standing, standing, Walk, ended, then_walk}
use Rattle.semantics.specs.Applying.{matches, tried, taken, taken_numbers, taken_warnings, taking}
use Rattle.semantics.specs.Computed.{settled, first_match, first_match_index, tried_to_match, take_match, applied, one_input}
use Rattle.analysis_spec.specs.declared.kind.AlarmKind.{AlarmKind}
use Rattle.analysis_spec.specs.declared.kind.AlarmKind.TheVariants as kinds
use Rattle.analysis_spec.specs.declared.path.PathStep.{PathStep}
use Rattle.analysis_spec.specs.declared.path.PathStep.TheVariants.{Case, Action}
use Rattle.analysis_spec.specs.Marks.{led, Mark, mark, behind, settling, trying, taking_all, marks_from}
use Rattle.analysis_spec.specs.Promises.{TellsOf, ComesAt}
use Rattle.replay.specs.ComingSupport.{Comes, ComesAtAction, IsTaken, IsToldBy, PassesBy, TakenBy, TriedTo, waits}
use Rattle.replay.proofs.ComingLemmas.{leaves_tells, warned_tells, not_fit}

abbrev Pair : Type 0
Pair = ActionTree × ContractTree

rest_suc : (ks : List Pair) (n : ℕ) (k : Pair) → slice_get ks n ≡ Some k → drop n ks ≡ k ∷ drop (suc n) ks
rest_suc [] n k e = absurd (cc)
rest_suc (j ∷ ks) zero k e = let h : j ≡ k = cc in ap (λ x. x ∷ ks) h
rest_suc (j ∷ ks) (suc n) k e = rest_suc ks n k e

rest_from : (ks : List Pair) (n : ℕ) (k : Pair) → slice_get ks n ≡ Some k → drop n ks ≡ k ∷ drop (n + 1) ks
rest_from ks n k e = rw add-one (rest_suc ks n k e)

one_more : (n : ℕ) → n + 1 ≡ suc n
one_more n = omega arith

-- ---- cases that don't take the input

past : (kind : AlarmKind) (place : List PathStep) (b : Bool) (m j : Mark) (ys ms : List Mark) → b ≡ false → all_fit j.numbers ≡ true → ComesAt kind place (ys ++ ms) → ComesAt kind place (cond b (m ∷ []) (j ∷ ys) ++ ms)
past kind place true m j ys ms e f g = absurd (cc)
past kind place false m j ys ms e f g = inr (f, g)

pub tried_none : (i : Interval) (s : StateMaps) (x : Input) (ks : List Pair) → TriedTo i s x ks 0
tried_none i s x ks = record { marks = λ kind place here ms h. h; first = refl; index = none (first_match_index i s x ks) }
  where
    none : (m : ℕ) → m ≡ 0 + m
    none m = omega arith

pub tried_one_more : (i : Interval) (s : StateMaps) (x : Input) (ks : List Pair) (n : ℕ) → PassesBy i s x ks n → TriedTo i s x ks n → TriedTo i s x ks (n + 1)
tried_one_more i s x ks n p h =
    let k = p.case in
    let w = within_ok (tried i s x k.0) (matches i s x k.0) false p.tried in
    let ys = drop (n + 1) ks in
    let rest = rest_from ks n k p.stands in
    record {
      marks = λ kind place here ms g.
          h.marks kind place here ms
          (subst (λ zs. ComesAt kind place (trying here n i s x zs ++ ms)) (sym rest)
          (past kind place (matches i s x k.0) (mark (here ++ Action n ∷ []) (tried i s x k.0 ++ taken_numbers s x) (taken_warnings x)) (mark (here ++ Action n ∷ []) (tried i s x k.0) [])
          (trying here (suc n) i s x ys) ms (sym w.1) w.0 (subst (λ u. ComesAt kind place (trying here u i s x ys ++ ms)) (one_more n) g)));
      first = h.first ∙ (ap (first_match i s x) rest ∙ ap (λ b. cond b (Some k.1) (first_match i s x ys)) (sym w.1));
      index = counted (first_match_index i s x ks) n (first_match_index i s x (drop n ks)) (first_match_index i s x ys) h.index
          (ap (first_match_index i s x) rest ∙ ap (λ b. cond b 0 (suc (first_match_index i s x ys))) (sym w.1));
    }
  where
    counted : (all m here there : ℕ) → all ≡ m + here → here ≡ suc there → all ≡ (m + 1) + there
    counted all m here there e f = omega (arith, e, f)

-- ---- a contract that waits

abbrev waiting_at : List PathStep → Interval → List Input → Bool → List Mark → Standing → Walk → List Mark
waiting_at here i ys b zs a w = let v = cond b (ended (Ok a)) w in cond b [] zs ++ behind v.end (taking_all (led here v.turns) i ys)

by_wait : (here : List PathStep) (i : Interval) (b : Bool) (ys : List Input) (zs : List Mark) (a : Standing) (w : Walk) → b ≡ true → waiting_at here i ys b zs a w ≡ taking_all here i ys a
by_wait here i true ys zs a w e = refl
by_wait here i false ys zs a w e = absurd (cc)

waiting_marks : (here : List PathStep) (i : Interval) (s : StateMaps) (ks : CaseTrees) (t : ℤ) (c : ContractTree) (ys : List Input) → int_lt i.to t ≡ true → marks_from here i s (when ks t c) ys ≡ taking_all here i ys (standing s (when ks t c))
waiting_marks here i s ks t c ys e = by_wait here i (int_lt i.to t) ys _ (standing s (when ks t c)) _ e

-- the marks of an input that applies so, and of what comes behind it
abbrev input_marks : List PathStep → Interval → List Input → List Mark → Walk → List Mark
input_marks here i xs ts w =
    let v = then_walk w (λ b. settled i b.state b.contract) in (ts ++ behind w.end (λ b. settling (led here w.turns) i b.state b.contract)) ++ behind v.end (taking_all (led here v.turns) i xs)

input_taken : (here : List PathStep) (i : Interval) (xs : List Input) (ts : List Mark) (s : StateMaps) (x : Input) (ns : List ℤ) (n : ℕ) (d : ContractTree)
    → input_marks here i xs ts (taking s x ns n d) ≡ ts ++ marks_from (here ++ Case n ∷ []) i (taken s x) d xs
input_taken here i xs ts s x ns n d =
    let there = here ++ Case n ∷ [] in
    let w = settled i (taken s x) d in
    append_assoc ts (settling there i (taken s x) d) (behind w.end (taking_all (led there w.turns) i xs))

first_input : (here : List PathStep) (i : Interval) (s : StateMaps) (ks : CaseTrees) (t : ℤ) (c : ContractTree) (x : Input) (xs : List Input) → int_lt i.to t ≡ true
    → marks_from here i s (when ks t c) (x ∷ xs) ≡ input_marks here i xs (trying here 0 i s x (case_list ks)) (applied i x (standing s (when ks t c)))
unfolding one_input
first_input here i s ks t c x xs e = waiting_marks here i s ks t c (x ∷ xs) e

taken_marks : (here : List PathStep) (i : Interval) (s : StateMaps) (ks : CaseTrees) (t : ℤ) (c : ContractTree) (x : Input) (xs : List Input) (n : ℕ) (d : ContractTree) → int_lt i.to t ≡ true
    → first_match i s x (case_list ks) ≡ Some d → first_match_index i s x (case_list ks) ≡ n
    → marks_from here i s (when ks t c) (x ∷ xs) ≡ trying here 0 i s x (case_list ks) ++ marks_from (here ++ Case n ∷ []) i (taken s x) d xs
unfolding applied
taken_marks here i s ks t c x xs n d e f g =
    let ts = trying here 0 i s x (case_list ks) in
    let ns = tried_to_match i s x (case_list ks) in
    first_input here i s ks t c x xs e
    ∙ (ap (λ o. input_marks here i xs ts (take_match s x ns (first_match_index i s x (case_list ks)) o)) f ∙ (ap (λ m. input_marks here i xs ts (taking s x ns m d)) g ∙ input_taken here i xs ts s x ns n d))

-- ---- the case at an index

-- its marks: it takes the input, or the cases behind it are tried
abbrev at_case : List PathStep → Interval → StateMaps → Input → ℕ → Pair → List Pair → Bool → List Mark
at_case here i s x n k ys b =
    cond b (mark (here ++ Action n ∷ []) (tried i s x k.0 ++ taken_numbers s x) (taken_warnings x) ∷ []) (mark (here ++ Action n ∷ []) (tried i s x k.0) [] ∷ trying here (suc n) i s x ys)

found_first : (i : Interval) (s : StateMaps) (x : Input) (ks : List Pair) (n : ℕ) (k : Pair) → slice_get ks n ≡ Some k → matches i s x k.0 ≡ true → TriedTo i s x ks n → first_match i s x ks ≡ Some k.1
found_first i s x ks n k e m h = h.first ∙ (ap (first_match i s x) (rest_from ks n k e) ∙ ap (λ b. cond b (Some k.1) (first_match i s x (drop (n + 1) ks))) m)

found_index : (i : Interval) (s : StateMaps) (x : Input) (ks : List Pair) (n : ℕ) (k : Pair) → slice_get ks n ≡ Some k → matches i s x k.0 ≡ true → TriedTo i s x ks n → first_match_index i s x ks ≡ n
found_index i s x ks n k e m h =
    there (first_match_index i s x ks) (first_match_index i s x (drop n ks)) h.index
    (ap (first_match_index i s x) (rest_from ks n k e) ∙ ap (λ b. cond b 0 (suc (first_match_index i s x (drop (n + 1) ks)))) m)
  where
    there : (all here : ℕ) → all ≡ n + here → here ≡ 0 → all ≡ n
    there all here e f = omega (arith, e, f)

-- what comes behind the case that takes the input comes of all that are tried
behind_taken : (kind : AlarmKind) (place here : List PathStep) (i : Interval) (s : StateMaps) (x : Input) (ks : List Pair) (n : ℕ) (k : Pair) (ms : List Mark)
    → slice_get ks n ≡ Some k → matches i s x k.0 ≡ true → all_fit (tried i s x k.0) ≡ true → all_fit (taken_numbers s x) ≡ true → TriedTo i s x ks n → ComesAt kind place ms
    → ComesAt kind place (trying here 0 i s x ks ++ ms)
behind_taken kind place here i s x ks n k ms e m f g h q =
    let fit : all_fit (tried i s x k.0 ++ taken_numbers s x) ≡ true = all_fit_append (tried i s x k.0) (taken_numbers s x) ∙ (ap (λ b. b && all_fit (taken_numbers s x)) f ∙ g) in
    h.marks kind place here ms
    (subst (λ zs. ComesAt kind place (trying here n i s x zs ++ ms)) (sym (rest_from ks n k e))
    (subst (λ b. ComesAt kind place (at_case here i s x n k (drop (n + 1) ks) b ++ ms)) (sym m) (inr (fit, q))))

taken_behind : (i : Interval) (s : StateMaps) (c : ContractTree) (x : Input) (n : ℕ) (k : Pair) (t : StateMaps) → waits i c ≡ true → TriedTo i s x (waits_for c) n → slice_get (waits_for c) n ≡ Some k
    → Ok true ≡ within (tried i s x k.0) (matches i s x k.0) → all_fit (taken_numbers s x) ≡ true → t ≡ taken s x
    → (xs : List Input) (kind : AlarmKind) (place here : List PathStep) → Comes kind place (here ++ Case n ∷ []) i t k.1 xs → Comes kind place here i s c (x ∷ xs)
taken_behind i s close x n k t w h e q g u xs kind place here j = absurd (cc)
taken_behind i s (pay p y r v c) x n k t w h e q g u xs kind place here j = absurd (cc)
taken_behind i s (if_obs o c d) x n k t w h e q g u xs kind place here j = absurd (cc)
taken_behind i s (let_be y v c) x n k t w h e q g u xs kind place here j = absurd (cc)
taken_behind i s (assert o c) x n k t w h e q g u xs kind place here j = absurd (cc)
taken_behind i s (when ks timeout c) x n k t w h e q g u xs kind place here j =
    let fit = within_ok (tried i s x k.0) (matches i s x k.0) true q in
    let m = sym fit.1 in
    let there = here ++ Case n ∷ [] in
    let same = taken_marks here i s ks timeout c x xs n k.1 w (found_first i s x (case_list ks) n k e m h) (found_index i s x (case_list ks) n k e m h) in
    subst (ComesAt kind place) (sym same)
    (behind_taken kind place here i s x (case_list ks) n k (marks_from there i (taken s x) k.1 xs) e m fit.0 g h (subst (λ v. ComesAt kind place (marks_from there i v k.1 xs)) u j))

pub takes_case : (n : ℕ) (i : Interval) (s : StateMaps) (c : ContractTree) (x : Input) (d : ContractTree) (t : StateMaps) → IsTaken n i s c x d → within (taken_numbers s x) (tt {0}) ≡ Ok (tt {0}) → t ≡ taken s x → TakenBy n i s c x t d
takes_case n i s c x d t h g u = record {
  behind = λ xs. record {
    comes = λ kind place here j.
        taken_behind i s c x n h.case t h.waiting h.before h.stands h.matched (within_ok (taken_numbers s x) (tt {0}) (tt {0}) (sym g)).0 u xs kind place here
        (subst (λ e. Comes kind place (here ++ Case n ∷ []) i t e xs) h.follows j);
  };
}

-- an alarm comes at the action of the case
comes_at_action : (kind : AlarmKind) (i : Interval) (s : StateMaps) (c : ContractTree) (x : Input) (n : ℕ) (k : Pair) → waits i c ≡ true → TriedTo i s x (waits_for c) n → slice_get (waits_for c) n ≡ Some k
    → ((here : List PathStep) (ys : List Pair) (ms : List Mark) → ComesAt kind (here ++ Action n ∷ []) (at_case here i s x n k ys (matches i s x k.0) ++ ms)) → (xs : List Input) (here : List PathStep) → Comes kind (here ++ Action n ∷ []) here i s c (x ∷ xs)
comes_at_action kind i s close x n k w h e g xs here = absurd (cc)
comes_at_action kind i s (pay p y r v c) x n k w h e g xs here = absurd (cc)
comes_at_action kind i s (if_obs o c d) x n k w h e g xs here = absurd (cc)
comes_at_action kind i s (let_be y v c) x n k w h e g xs here = absurd (cc)
comes_at_action kind i s (assert o c) x n k w h e g xs here = absurd (cc)
comes_at_action kind i s (when ks timeout c) x n k w h e g xs here =
    let place = here ++ Action n ∷ [] in
    let one = applied i x (standing s (when ks timeout c)) in
    let all = then_walk one (λ b. settled i b.state b.contract) in
    let ts = trying here 0 i s x (case_list ks) in
    let us = behind one.end (λ b. settling (led here one.turns) i b.state b.contract) in
    let vs = behind all.end (taking_all (led here all.turns) i xs) in
    subst (ComesAt kind place) (sym (first_input here i s ks timeout c x xs w ∙ append_assoc ts us vs))
    (h.marks kind place here (us ++ vs) (subst (λ zs. ComesAt kind place (trying here n i s x zs ++ (us ++ vs))) (sym (rest_from (case_list ks) n k e)) (g here (drop (n + 1) (case_list ks)) (us ++ vs))))

at_action : (kind : AlarmKind) (i : Interval) (s : StateMaps) (c : ContractTree) (x : Input) (n : ℕ) (k : Pair) → waits i c ≡ true → TriedTo i s x (waits_for c) n → slice_get (waits_for c) n ≡ Some k
    → ((here : List PathStep) (ys : List Pair) (ms : List Mark) → ComesAt kind (here ++ Action n ∷ []) (at_case here i s x n k ys (matches i s x k.0) ++ ms)) → ComesAtAction kind n i s c x
at_action kind i s c x n k w h e g = record { ahead = λ xs. record { comes = comes_at_action kind i s c x n k w h e g xs } }

and_false : (b : Bool) → b && false ≡ false
and_false true = refl
and_false false = refl

-- by what it warns of once it is taken, or a number that is then made
pub taking_tells : (kind : AlarmKind) (i : Interval) (s : StateMaps) (c : ContractTree) (x : Input) (n : ℕ) (k : Pair) → waits i c ≡ true → TriedTo i s x (waits_for c) n → slice_get (waits_for c) n ≡ Some k
    → Ok true ≡ within (tried i s x k.0) (matches i s x k.0) → IsToldBy kind (taken_numbers s x) (taken_warnings x) → ComesAtAction kind n i s c x
taking_tells kind i s c x n k w h e q told =
    let m = sym (within_ok (tried i s x k.0) (matches i s x k.0) true q).1 in
    at_action kind i s c x n k w h e (λ here ys ms. subst (λ b. ComesAt kind (here ++ Action n ∷ []) (at_case here i s x n k ys b ++ ms)) (sym m) (inl (refl, by_told here told)))
  where
    by_told : (here : List PathStep) → IsToldBy kind (taken_numbers s x) (taken_warnings x) → TellsOf kind (mark (here ++ Action n ∷ []) (tried i s x k.0 ++ taken_numbers s x) (taken_warnings x))
    by_told here (inl p) = warned_tells kind _ p.0 p.1
    by_told here (inr p) =
        leaves_tells kind _ p.0 (all_fit_append (tried i s x k.0) (taken_numbers s x) ∙ (ap (λ b. all_fit (tried i s x k.0) && b) p.1 ∙ and_false (all_fit (tried i s x k.0))))

-- by a number that is visited as it is tried
pub trying_leaves : (kind : AlarmKind) (i : Interval) (s : StateMaps) (c : ContractTree) (x : Input) (n : ℕ) (k : Pair) (f : SemFault) → waits i c ≡ true → TriedTo i s x (waits_for c) n → slice_get (waits_for c) n ≡ Some k
    → Err f ≡ within (tried i s x k.0) (matches i s x k.0) → kind ≡ kinds.Leaves128 → ComesAtAction kind n i s c x
trying_leaves kind i s c x n k f w h e q l = at_action kind i s c x n k w h e (λ here ys ms. by_match here ys ms (matches i s x k.0))
  where
    unfit : all_fit (tried i s x k.0) ≡ false
    unfit = not_fit (all_fit (tried i s x k.0)) (matches i s x k.0) f (sym q)

    by_match : (here : List PathStep) (ys : List Pair) (ms : List Mark) (b : Bool) → ComesAt kind (here ++ Action n ∷ []) (at_case here i s x n k ys b ++ ms)
    by_match here ys ms true = inl (refl, leaves_tells kind _ l (all_fit_append (tried i s x k.0) (taken_numbers s x) ∙ ap (λ b. b && all_fit (taken_numbers s x)) unfit))
    by_match here ys ms false = inl (refl, leaves_tells kind _ l unfit)
