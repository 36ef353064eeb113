-- What is there behind steps: what was there before them, and what is given on the way.
use Rattle.std.proofs.Common.{◌≡◌, ℕ, zero, suc, ℤ, pos, ◌+ℤ◌, int_lt, Bool, true, false, cond, ◌&&◌, ◌||◌, List, [], ◌∷◌, ◌++◌, slice_get, Option, Some, None, is_some, refl, sym, ap, subst, ◌∙◌, inl, inr, if◌then◌else◌}
use Rattle.std.specs.Option.{unwrap_or}
use Rattle.std.specs.Ordering.{eq_by_cmp}
use Rattle.std.specs.FinMap.{get, insert, get-insert}
use Rattle.contract.specs.Names.declared.choice_id.ChoiceId.{ChoiceId}
use Rattle.contract.specs.Names.declared.payee.Payee.{Payee}
use Rattle.contract.specs.Names.declared.payee.Payee.TheVariants as payees
use Rattle.contract.specs.Names.declared.token.Token.{Token}
use Rattle.contract.specs.Names.Equal.{same_text, same_choice_id}
use Rattle.contract.specs.Names.Orders.{bytes_cmp, choice_id_cmp}
use Rattle.contract.specs.Names.Totals.{bytes_total, choice_id_total}
use Rattle.contract.proofs.FromNames.Exact.{bytes_exact}
use Rattle.contract.proofs.FromNames.EqualLaws.{order_decides, same_choice_id_decides}
use Rattle.contract.specs.declared.input.Input.{Input}
use Rattle.contract.specs.declared.input.Input.TheVariants as inputs
use Rattle.contract.specs.declared.interval.Interval.{Interval}
use Rattle.contract.specs.Tree.{ActionTree, deposit, choice, notify, ContractTree, CaseTrees, close, pay, if_obs, when, let_be, assert, no_cases, case_then}
use Rattle.contract.specs.States.States.{StateMaps, with_money}
use Rattle.semantics.specs.Evaluation.Evaluation.{eval, holds}
use Rattle.semantics.specs.Evaluation.Path.{waits_for, case_list}
use Rattle.semantics.specs.Walk.{Standing, standing, then_branch, else_branch}
use Rattle.semantics.specs.Reduction.{Reduction, Reduces, account_of, refunded, balance, debited, credited, with_bound}
use Rattle.semantics.specs.Applying.{matches, IsFirstMatch, taken}
use Rattle.std.specs.Int.{int_min}
use Rattle.analysis_spec.specs.declared.path.PathStep.{PathStep}
use Rattle.analysis_spec.specs.declared.path.PathStep.TheVariants.{Case}
use Rattle.analysis_spec.specs.Places.{part_behind, behind_case}
use Rattle.analysis_spec.specs.Marks.{step_of}
use Rattle.contract_notes.specs.declared.note.Source.{Source}
use Rattle.contract_notes.specs.declared.note.Source.TheVariants.{Name, Choice}
use Rattle.contract_notes.specs.Reads.{same_source}
use Rattle.contract_notes.specs.Notes.{has, makes_it, makes, gives, is_given_along}
use Rattle.contract_notes.specs.Coming.{Step, begins, reduces, takes, MayCome, stands_behind, goes, MayRun, stands_at_end, comes_to, KnownIsThere, MissingReadsZero}
use Rattle.contract_notes.proofs.SameLemmas.{text_so}

-- ---- places

-- the part to which a path leads
abbrev part_at : Option ContractTree → List PathStep → Option ContractTree
part_at None ps = None
part_at (Some c) [] = Some c
part_at (Some c) (p ∷ ps) = part_at (part_behind c p) ps

or_assoc : (a b c : Bool) → a || (b || c) ≡ (a || b) || c
or_assoc true b c = refl
or_assoc false b c = refl

given_append : (x : Source) (o : Option ContractTree) (ps qs : List PathStep) → is_given_along x o (ps ++ qs) ≡ is_given_along x o ps || is_given_along x (part_at o ps) qs
given_append x None ps qs = refl
given_append x (Some c) [] qs = refl
given_append x (Some c) (p ∷ ps) qs =
    ap (λ b. gives x c p || b) (given_append x (part_behind c p) ps qs)
    ∙ or_assoc (gives x c p) (is_given_along x (part_behind c p) ps) (is_given_along x (part_at (part_behind c p) ps) qs)

-- ---- what a state has

same_has : (x : Source) (s z : StateMaps) → z.bound_values ≡ s.bound_values → z.choices ≡ s.choices → has z x ≡ has s x
same_has (Name y) s z e h = ap (λ m. is_some (get m y)) e
same_has (Choice id) s z e h = ap (λ m. is_some (get m id)) h

or_none : (b : Bool) → b ≡ b || false
or_none true = refl
or_none false = refl

inserted : (b : Bool) (n : ℤ) (o : Option ℤ) → is_some (cond b (Some n) o) ≡ is_some o || b
inserted true n None = refl
inserted true n (Some m) = refl
inserted false n None = refl
inserted false n (Some m) = refl

text_same : (x y : List ℕ) → eq_by_cmp bytes_cmp x y ≡ same_text x y
text_same x y = text_so x y (eq_by_cmp bytes_cmp x y) (order_decides bytes_cmp bytes_total bytes_exact x y)

-- a name more, and a choice
bound_more : (x : Source) (s : StateMaps) (y : List ℕ) (n : ℤ) → has (with_bound s y n) x ≡ has s x || same_source x (Name y)
bound_more (Name x) s y n =
    ap is_some (get-insert bytes_total s.bound_values y n x)
    ∙ inserted (eq_by_cmp bytes_cmp x y) n (get s.bound_values x)
    ∙ ap (λ b. is_some (get s.bound_values x) || b) (text_same x y)
bound_more (Choice id) s y n = or_none (is_some (get s.choices id))

chosen_more : (x : Source) (s : StateMaps) (id : ChoiceId) (n : ℤ) → has (record s { choices = insert s.choices id n }) x ≡ has s x || same_source x (Choice id)
chosen_more (Name x) s id n = or_none (is_some (get s.bound_values x))
chosen_more (Choice jd) s id n = ap is_some (get-insert choice_id_total s.choices id n jd) ∙ inserted (eq_by_cmp choice_id_cmp jd id) n (get s.choices jd)

-- ---- one step

-- a step gives what stands on its way and no more, and the contract stands at the part behind it
record Gains (x : Source) (c : ContractTree) (ps : List PathStep) (s z : StateMaps) (d : ContractTree) : Type 0 where
  more : has z x ≡ has s x || is_given_along x (Some c) ps
  stands : part_at (Some c) ps ≡ Some d

credited_has : (x : Source) (s : StateMaps) (y : Payee) (t : Token) (n : ℤ) → has (credited s y t n) x ≡ has s x
credited_has x s (payees.Account p) t n = same_has x s (credited s (payees.Account p) t n) refl refl
credited_has x s (payees.Party p) t n = refl

reduced : (x : Source) (i : Interval) (s : StateMaps) (c : ContractTree) (r : Reduction) → Reduces i s c r → Gains x c (step_of r.turn) s r.state r.contract
reduced x i s close r q =
    subst (λ (z : Reduction). Gains x close (step_of z.turn) s z.state z.contract) (sym q.2)
    (record { more = same_has x s (refunded s q.0).state refl refl ∙ or_none (has s x); stands = refl })
reduced x i s (pay p y t v c) r (inl q) =
    subst (λ (z : Reduction). Gains x (pay p y t v c) (step_of z.turn) s z.state z.contract) (sym q.1) (record { more = or_none (has s x); stands = refl })
reduced x i s (pay p y t v c) r (inr q) =
    let paid : ℤ = int_min (balance s p t) (eval i s v) in
    subst (λ (z : Reduction). Gains x (pay p y t v c) (step_of z.turn) s z.state z.contract) (sym q.1)
    (record { more = credited_has x (debited s p t paid) y t paid ∙ same_has x s (debited s p t paid) refl refl ∙ or_none (has s x); stands = refl })
reduced x i s (if_obs o c d) r q =
    subst (λ (z : Reduction). Gains x (if_obs o c d) (step_of z.turn) s z.state z.contract) (sym q) (branch (holds i s o))
  where
    branch : (b : Bool) → Gains x (if_obs o c d) (step_of (if b then then_branch else else_branch)) s s (if b then c else d)
    branch true = record { more = or_none (has s x); stands = refl }
    branch false = record { more = or_none (has s x); stands = refl }
reduced x i s (when ks t c) r q =
    subst (λ (z : Reduction). Gains x (when ks t c) (step_of z.turn) s z.state z.contract) (sym q.1) (record { more = or_none (has s x); stands = refl })
reduced x i s (let_be y v c) r q =
    subst (λ (z : Reduction). Gains x (let_be y v c) (step_of z.turn) s z.state z.contract) (sym q)
    (record { more = bound_more x s y (eval i s v) ∙ ap (λ b. has s x || b) (or_none (same_source x (Name y))); stands = refl })
reduced x i s (assert o c) r q =
    subst (λ (z : Reduction). Gains x (assert o c) (step_of z.turn) s z.state z.contract) (sym q) (record { more = or_none (has s x); stands = refl })

-- the case at an index
case_made : (x : Source) (ks : CaseTrees) (n : ℕ) (k : ActionTree × ContractTree) → slice_get (case_list ks) n ≡ Some k → makes x ks n ≡ makes_it x k.0
case_made x no_cases n k e = absurd (cc)
case_made x (case_then a c ks) zero k e = let h : (a, c) ≡ k = cc in ap (λ (z : ActionTree × ContractTree). makes_it x z.0) h
case_made x (case_then a c ks) (suc n) k e = case_made x ks n k e

case_behind : (ks : CaseTrees) (n : ℕ) (k : ActionTree × ContractTree) → slice_get (case_list ks) n ≡ Some k → behind_case ks n ≡ Some k.1
case_behind no_cases n k e = absurd (cc)
case_behind (case_then a c ks) zero k e = let h : (a, c) ≡ k = cc in ap (λ (z : ActionTree × ContractTree). let o : Option ContractTree = Some z.1 in o) h
case_behind (case_then a c ks) (suc n) k e = case_behind ks n k e

put_same : (b : Bool) (x : Source) (s z : StateMaps) → has z x ≡ has s x → has (if b then z else s) x ≡ has s x
put_same true x s z e = e
put_same false x s z e = refl

and_left : (a b : Bool) → a && b ≡ true → a ≡ true
and_left true b e = refl
and_left false b e = e

input_more : (x : Source) (i : Interval) (s : StateMaps) (y : Input) (b : ActionTree) → matches i s y b ≡ true → has (taken s y) x ≡ has s x || makes_it x b
input_more x i s (inputs.Deposit a p t n) (deposit q u w v) e =
    let z : StateMaps = with_money s (account_of a t) (balance s a t +ℤ n) in
    put_same (int_lt (pos 0) n) x s z (same_has x s z refl refl) ∙ or_none (has s x)
input_more x i s (inputs.Deposit a p t n) (choice jd bounds) e = absurd (cc)
input_more x i s (inputs.Deposit a p t n) (notify o) e = absurd (cc)
input_more x i s (inputs.Choice id n) (deposit q u t v) e = absurd (cc)
input_more x i s (inputs.Choice id n) (choice jd bounds) e =
    chosen_more x s id n ∙ ap (λ k. has s x || same_source x (Choice k)) ((same_choice_id_decides id jd).0 (and_left (same_choice_id id jd) _ e))
input_more x i s (inputs.Choice id n) (notify o) e = absurd (cc)
input_more x i s inputs.Notify (deposit q u t v) e = absurd (cc)
input_more x i s inputs.Notify (choice jd bounds) e = absurd (cc)
input_more x i s inputs.Notify (notify o) e = or_none (has s x)

took : (x : Source) (i : Interval) (s : StateMaps) (c : ContractTree) (y : Input) (n : ℕ) (k : ActionTree × ContractTree) → IsFirstMatch i s y (waits_for c) n k → Gains x c (Case n ∷ []) s (taken s y) k.1
took x i s close y n k m = absurd (let e : slice_get (waits_for close) n ≡ Some k = m.stands in cc)
took x i s (pay p u t v c) y n k m = absurd (let e : slice_get (waits_for (pay p u t v c)) n ≡ Some k = m.stands in cc)
took x i s (if_obs o c d) y n k m = absurd (let e : slice_get (waits_for (if_obs o c d)) n ≡ Some k = m.stands in cc)
took x i s (when ks t c) y n k m =
    let behind : behind_case ks n ≡ Some k.1 = case_behind ks n k m.stands in
    record {
      more = input_more x i s y k.0 m.matched
          ∙ ap (λ b. has s x || b) (sym (case_made x ks n k m.stands) ∙ or_none (makes x ks n) ∙ ap (λ (o : Option ContractTree). makes x ks n || is_given_along x o []) (sym behind));
      stands = ap (λ (o : Option ContractTree). part_at o []) behind;
    }
took x i s (let_be u v c) y n k m = absurd (let e : slice_get (waits_for (let_be u v c)) n ≡ Some k = m.stands in cc)
took x i s (assert o c) y n k m = absurd (let e : slice_get (waits_for (assert o c)) n ≡ Some k = m.stands in cc)

step_gains : (x : Source) (a : Standing) (m : Step) → MayCome a m → Gains x a.contract (goes m) a.state (stands_behind a m).state (stands_behind a m).contract
step_gains x a (begins i) k = record { more = same_has x a.state (stands_behind a (begins i)).state refl refl ∙ or_none (has a.state x); stands = refl }
step_gains x a (reduces i r) k = reduced x i a.state a.contract r k
step_gains x a (takes i y n j) k = took x i a.state a.contract y n j k

-- ---- all steps

run : (x : Source) (a : Standing) (ms : List Step) → MayRun a ms → has (stands_at_end a ms).state x ≡ has a.state x || is_given_along x (Some a.contract) (comes_to ms)
run x a [] k = or_none (has a.state x)
run x a (m ∷ ms) k =
    let b : Standing = stands_behind a m in
    let e : Gains x a.contract (goes m) a.state b.state b.contract = step_gains x a m k.0 in
    let now : Bool = is_given_along x (Some a.contract) (goes m) in
    run x b ms k.1
    ∙ ap (λ z. z || is_given_along x (Some b.contract) (comes_to ms)) e.more
    ∙ ap (λ (o : Option ContractTree). (has a.state x || now) || is_given_along x o (comes_to ms)) (sym e.stands)
    ∙ sym (or_assoc (has a.state x) now (is_given_along x (part_at (Some a.contract) (goes m)) (comes_to ms)))
    ∙ ap (λ z. has a.state x || z) (sym (given_append x (Some a.contract) (goes m) (comes_to ms)))

pub known_is_there : KnownIsThere
known_is_there s c ms x k = run x (standing s c) ms k

absent : (o : Option ℤ) → is_some o ≡ false → o ≡ None
absent None e = refl
absent (Some n) e = absurd (cc)

pub missing_reads_zero : MissingReadsZero
missing_reads_zero s c ms i k =
    let z : StateMaps = (stands_at_end (standing s c) ms).state in (
      λ x e. ap (λ o. unwrap_or o (pos 0)) (absent (get z.bound_values x) (known_is_there s c ms (Name x) k ∙ e)),
      λ id e. ap (λ o. unwrap_or o (pos 0)) (absent (get z.choices id) (known_is_there s c ms (Choice id) k ∙ e)),
    )
