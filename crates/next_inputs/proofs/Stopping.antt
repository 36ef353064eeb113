-- Which case stops an input, by the claims of the cases.
use Rattle.std.proofs.Common.{◌≡◌, ℕ, zero, suc, ◌+◌, ◌≤◌, ◌^◌, ℤ, pos, neg_ℤ, ◌+ℤ◌, ◌≤ℤ◌, ◌<ℤ◌, int_le, int_lt, Bool, true, false, cond, ◌&&◌, ◌||◌, List, [], ◌∷◌, ◌++◌, length, take, arith, refl, sym, ap, ◌∙◌, subst, Option, Some, None}
use Rattle.std.specs.Prelude.{slice_get, option_map}
use Rattle.std.specs.List.{list_any, AllByRecursion}
use Rattle.std.specs.Ordering.{eq_by_cmp, int_eq}
use Rattle.std.proofs.lemmas.List.{take_all}
use Rattle.claims.specs.declared.claim.Claim.{Claim}
use Rattle.claims.specs.Claims.{takes, owner}
use Rattle.claims.proofs.Owners.{or_else, owner_or}
use Rattle.contract.specs.Names.declared.bound.Bound.{Bound}
use Rattle.contract.specs.Names.declared.party.Party.{Party}
use Rattle.contract.specs.Names.declared.token.Token.{Token}
use Rattle.contract.specs.Names.declared.choice_id.ChoiceId.{ChoiceId}
use Rattle.contract.specs.declared.input.Input.{Input}
use Rattle.contract.specs.declared.input.Input.TheVariants as inputs
use Rattle.contract.specs.declared.interval.Interval.{Interval}
use Rattle.contract.specs.States.States.{StateMaps}
use Rattle.contract.specs.Tree.{ValueTree, ObservationTree, ActionTree, deposit, choice, notify, ContractTree}
use Rattle.semantics.specs.Evaluation.Parts.{wait_tree}
use Rattle.semantics.specs.Evaluation.declared.form.Wait.{Wait}
use Rattle.semantics.specs.Evaluation.declared.form.Wait.TheVariants as waits
use Rattle.semantics.specs.Evaluation.Numbers.{fits, all_fit}
use Rattle.semantics.specs.Evaluation.Evaluation.{eval, visited, holds, looked}
use Rattle.semantics.specs.Applying.{agrees, in_bound, matches, tried}
use Rattle.next_inputs.specs.declared.lane.Lane.{Lane}
use Rattle.next_inputs.specs.Taking.{number_of}
use Rattle.next_inputs.specs.Lanes.{Way, deposits, chooses, notifies, way, way_of, way_in, way_cmp}
use Rattle.next_inputs.specs.Claiming.{stops, stops_at, first_case, all_numbers, deposit_range, notify_ranges, ranges, claim_of, claims_for, lane_of, is_way, IsOf, AreClaims}
use Rattle.next_inputs.proofs.Ranges.{lt_le, in_one}
use Rattle.next_inputs.proofs.Ways.{same_deposit, same_choice, way_itself}

abbrev Pair : Type 0
Pair = ActionTree × ContractTree

-- ---- one case

spread : (w p q : Bool) (m : ℕ) → cond (w && p) (Some m) (cond (w && q) (Some m) None) ≡ cond (w && (p || q)) (Some m) None
spread true true q m = refl
spread true false q m = refl
spread false p q m = refl

none_of : (w : Bool) (m : ℕ) → ◌≡◌ {A = Option ℕ} None (cond (w && false) (Some m) None)
none_of true m = refl
none_of false m = refl

-- who has a number among claims of one case
owner_for : (w : Way) (lane : Lane) (m : ℕ) (n : ℤ) (bs : List Bound) → owner (is_way w) n (claims_for lane m bs) ≡ cond (is_way w lane && list_any (in_bound n) bs) (Some m) None
owner_for w lane m n [] = none_of (is_way w lane) m
owner_for w lane m n (b ∷ bs) =
    ap (λ z. cond (is_way w lane && in_bound n b) (Some m) z) (owner_for w lane m n bs) ∙ spread (is_way w lane) (in_bound n b) (list_any (in_bound n) bs) m

-- all numbers are those of 128 bits
in_all : (n : ℤ) → in_bound n all_numbers ≡ fits n
unfolding fits
in_all n = ap (λ z. int_le (neg_ℤ (pos (2 ^ 127))) n && z) (sym (lt_le n (pos 170141183460469231731687303715884105727)))

or_false : (b : Bool) → b || false ≡ b
or_false true = refl
or_false false = refl

in_deposit : (f : Bool) (n e : ℤ) → list_any (in_bound n) (deposit_range f e ∷ []) ≡ cond f (int_eq n e) (fits n)
in_deposit true n e = or_false (in_bound n (record { from = e; to = e })) ∙ in_one n e
in_deposit false n e = or_false (in_bound n all_numbers) ∙ in_all n

pub zero_fits : fits (pos 0) ≡ true
unfolding fits
zero_fits = refl

in_notify : (f t : Bool) (n : ℤ) → list_any (in_bound n) (notify_ranges f t) ≡ cond (fits n) (cond f t (fits (pos 0))) false
in_notify true true n = or_false (in_bound n all_numbers) ∙ (in_all n ∙ same (fits n))
  where
    same : (b : Bool) → b ≡ cond b true false
    same true = refl
    same false = refl
in_notify true false n = same (fits n)
  where
    same : (b : Bool) → false ≡ cond b false false
    same true = refl
    same false = refl
in_notify false t n = or_false (in_bound n all_numbers) ∙ (in_all n ∙ (same (fits n) ∙ ap (λ z. cond (fits n) z false) (sym zero_fits)))
  where
    same : (b : Bool) → b ≡ cond b true false
    same true = refl
    same false = refl

-- a deposit that agrees, and one that doesn't
stop_deposit : (g f : Bool) (ns : List ℤ) (n e : ℤ) → all_fit ns ≡ f → g && list_any (in_bound n) (deposit_range f e ∷ []) ≡ cond (all_fit (cond g ns [])) (g && int_eq n e) (fits n)
stop_deposit true f ns n e h = in_deposit f n e ∙ ap (λ z. cond z (int_eq n e) (fits n)) (sym h)
stop_deposit false f ns n e h = refl

never : (b : Bool) → false ≡ cond b false false
never true = refl
never false = refl

-- the numbers that a case claims of a way are those of the inputs that it stops
pub claimed : (i : Interval) (s : StateMaps) (w : Way) (n : ℤ) (k : ActionTree) → eq_by_cmp way_cmp w (way_in k) && list_any (in_bound n) (ranges i s k) ≡ stops_at i s w n k
claimed i s (deposits a p t) n (deposit b q u v) =
    ap (λ z. z && list_any (in_bound n) (ranges i s (deposit b q u v))) (same_deposit a p t b q u) ∙ stop_deposit (agrees a p t b q u) (all_fit (visited i s v)) (visited i s v) n (eval i s v) refl
claimed i s (deposits a p t) n (choice jd bounds) = refl
claimed i s (deposits a p t) n (notify o) = refl
claimed i s (chooses id) n (deposit b q u v) = refl
claimed i s (chooses id) n (choice jd bounds) = ap (λ z. z && list_any (in_bound n) bounds) (same_choice id jd)
claimed i s (chooses id) n (notify o) = refl
claimed i s notifies n (deposit b q u v) = never (fits n)
claimed i s notifies n (choice jd bounds) = never (fits n)
claimed i s notifies n (notify o) = in_notify (all_fit (looked i s o)) (holds i s o) n

pub zero_is : {A : Type 0} (x y : A) → cond (fits (pos 0)) x y ≡ x
zero_is x y = ap (λ z. cond z x y) zero_fits

-- an input is stopped as one of its way with its number is
pub stopped_as : (i : Interval) (s : StateMaps) (x : Input) (k : ActionTree) → stops_at i s (way_of x) (number_of x) k ≡ stops i s x k
stopped_as i s (inputs.Deposit a p t n) k = refl
stopped_as i s (inputs.Choice id n) k = refl
stopped_as i s inputs.Notify k = zero_is (stops i s inputs.Notify k) false

-- ---- cases, one after another

mapped_else : (p q : Option ℕ) → option_map suc (or_else p q) ≡ or_else (option_map suc p) (option_map suc q)
mapped_else None q = refl
mapped_else (Some m) q = refl

cond_else : (b : Bool) (p q : Option ℕ) → cond b (Some 0) (or_else p q) ≡ or_else (cond b (Some 0) p) q
cond_else true p q = refl
cond_else false p q = refl

cond_map : (b : Bool) (m : ℕ) → option_map suc (cond b (Some m) None) ≡ cond b (Some (suc m)) None
cond_map true m = refl
cond_map false m = refl

pub first_more : (p : ActionTree → Bool) (ks : List Pair) (k : Pair) → first_case p (ks ++ k ∷ []) ≡ or_else (first_case p ks) (cond (p k.0) (Some (length ks)) None)
first_more p [] k = refl
first_more p (j ∷ ks) k =
    ap (λ z. cond (p j.0) (Some 0) (option_map suc z)) (first_more p ks k)
    ∙ (ap (λ z. cond (p j.0) (Some 0) z) (mapped_else (first_case p ks) (cond (p k.0) (Some (length ks)) None))
    ∙ (cond_else (p j.0) (option_map suc (first_case p ks)) (option_map suc (cond (p k.0) (Some (length ks)) None))
    ∙ ap (or_else (cond (p j.0) (Some 0) (option_map suc (first_case p ks)))) (cond_map (p k.0) (length ks))))

pub first_alike : (p q : ActionTree → Bool) (ks : List Pair) → ((k : ActionTree) → p k ≡ q k) → first_case p ks ≡ first_case q ks
first_alike p q [] h = refl
first_alike p q (k ∷ ks) h = ap (λ z. cond z (Some 0) (option_map suc (first_case p ks))) (h k.0) ∙ ap (λ z. cond (q k.0) (Some 0) (option_map suc z)) (first_alike p q ks h)

-- the first case that passes stands there, and passes
pub first_there : (p : ActionTree → Bool) (ks : List Pair) (n : ℕ) → first_case p ks ≡ Some n → (k : Pair) × (slice_get ks n ≡ Some k) × (p k.0 ≡ true)
first_there p [] n h = absurd (cc)
first_there p (k ∷ ks) n h = by (p k.0) refl h (λ l e. first_there p ks l e)
  where
    later : (o : Option ℕ) (m : ℕ) → ((l : ℕ) → first_case p ks ≡ Some l → (j : Pair) × (slice_get ks l ≡ Some j) × (p j.0 ≡ true)) → first_case p ks ≡ o → option_map suc o ≡ Some m
        → (j : Pair) × (slice_get (k ∷ ks) m ≡ Some j) × (p j.0 ≡ true)
    later None m r e f = absurd (cc)
    later (Some l) m r e f =
        let q = r l e in
        let g : suc l ≡ m = cc in
        (q.0, ap (slice_get (k ∷ ks)) (sym g) ∙ q.1, q.2)

    by : (b : Bool) → p k.0 ≡ b → cond b (Some 0) (option_map suc (first_case p ks)) ≡ Some n → ((l : ℕ) → first_case p ks ≡ Some l → (j : Pair) × (slice_get ks l ≡ Some j) × (p j.0 ≡ true))
        → (j : Pair) × (slice_get (k ∷ ks) n ≡ Some j) × (p j.0 ≡ true)
    by true e f r = let g : ◌≡◌ {A = ℕ} 0 n = cc in (k, ap (slice_get (k ∷ ks)) (sym g), e)
    by false e f r = later (first_case p ks) n r refl f

pub get_longer : {A : Type 0} (xs ys : List A) (n : ℕ) (x : A) → slice_get xs n ≡ Some x → slice_get (xs ++ ys) n ≡ Some x
get_longer [] ys n x h = absurd (cc)
get_longer (y ∷ xs) ys zero x h = h
get_longer (y ∷ xs) ys (suc n) x h = get_longer xs ys n x h

pub get_last : {A : Type 0} (xs : List A) (y : A) → slice_get (xs ++ y ∷ []) (length xs) ≡ Some y
get_last [] y = refl
get_last (x ∷ xs) y = get_last xs y

longer : (ks : List Pair) (k : Pair) (cs : List (Claim Lane)) → AllByRecursion (IsOf ks) cs → AllByRecursion (IsOf (ks ++ k ∷ [])) cs
longer ks k [] h = tt
longer ks k (c ∷ cs) h = ((h.0.0, get_longer ks (k ∷ []) c.by h.0.0 h.0.1, h.0.2), longer ks k cs h.1)

all_more : {A : Type 0} (P : A → Type 0) (xs ys : List A) → AllByRecursion P xs → AllByRecursion P ys → AllByRecursion P (xs ++ ys)
all_more P [] ys h g = g
all_more P (x ∷ xs) ys h g = (h.0, all_more P xs ys h.1 g)

of_case : (ks : List Pair) (k : Pair) (lane : Lane) (bs : List Bound) → way lane ≡ way_in k.0 → AllByRecursion (IsOf (ks ++ k ∷ [])) (claims_for lane (length ks) bs)
of_case ks k lane [] h = tt
of_case ks k lane (b ∷ bs) h =
    ((k, get_last ks k, ap (eq_by_cmp way_cmp (way_in k.0)) h ∙ way_itself (way_in k.0)), of_case ks k lane bs h)

pub claims_none : (i : Interval) (s : StateMaps) → AreClaims i s [] []
claims_none i s = record { owners = λ w n. refl; cases = tt }

pub claims_more : (i : Interval) (s : StateMaps) (ks : List Pair) (k : Pair) (lane : Lane) (cs : List (Claim Lane)) → way lane ≡ way_in k.0 → AreClaims i s ks cs
    → AreClaims i s (ks ++ k ∷ []) (cs ++ claims_for lane (length ks) (ranges i s k.0))
claims_more i s ks k lane cs h a = record {
  owners = λ w n.
      let new = claims_for lane (length ks) (ranges i s k.0) in
      let here : owner (is_way w) n new ≡ cond (stops_at i s w n k.0) (Some (length ks)) None =
      owner_for w lane (length ks) n (ranges i s k.0) ∙ ap (λ z. cond z (Some (length ks)) None) (ap (λ z. eq_by_cmp way_cmp w z && list_any (in_bound n) (ranges i s k.0)) h ∙ claimed i s w n k.0) in
      owner_or (is_way w) n cs new
      ∙ (ap (λ z. or_else z (owner (is_way w) n new)) (a.owners w n) ∙ (ap (or_else (first_case (stops_at i s w n) ks)) here ∙ sym (first_more (stops_at i s w n) ks k)));
  cases = all_more (IsOf (ks ++ k ∷ [])) cs (claims_for lane (length ks) (ranges i s k.0)) (longer ks k cs a.cases) (of_case ks k lane (ranges i s k.0) h);
}

-- ---- the loop over cases

pub take_next : {A : Type 0} (xs : List A) (m : ℕ) (x : A) → slice_get xs m ≡ Some x → (take (m + 1) xs ≡ take m xs ++ x ∷ []) × (length (take m xs) ≡ m)
take_next {A = A} xs m x h = rw (one m) (by xs m h)
  where
    one : (n : ℕ) → n + 1 ≡ suc n
    one n = omega arith

    by : (ys : List A) (n : ℕ) → slice_get ys n ≡ Some x → (take (suc n) ys ≡ take n ys ++ x ∷ []) × (length (take n ys) ≡ n)
    by [] n e = absurd (cc)
    by (y ∷ ys) zero e = let f : y ≡ x = cc in (ap (λ z. z ∷ []) f, refl)
    by (y ∷ ys) (suc n) e = let q = by ys n e in (ap (λ z. y ∷ z) q.0, ap suc q.1)

pub lane_way : {V O : Type 0} (value : V → ValueTree) (observation : O → ObservationTree) (w : Wait V O) → way (lane_of w) ≡ way_in (wait_tree value observation w)
lane_way value observation (waits.Deposit a p t v) = refl
lane_way value observation (waits.Choice id bounds) = refl
lane_way value observation (waits.Notify o) = refl

pub claims_next : (i : Interval) (s : StateMaps) (ks : List Pair) (m : ℕ) (k : Pair) (lane : Lane) (cs new : List (Claim Lane)) → slice_get ks m ≡ Some k → way lane ≡ way_in k.0 → new ≡ cs ++ claims_for lane m (ranges i s k.0)
    → AreClaims i s (take m ks) cs → AreClaims i s (take (m + 1) ks) new
claims_next i s ks m k lane cs new h w e a =
    let t = take_next ks m k h in
    let n : new ≡ cs ++ claims_for lane (length (take m ks)) (ranges i s k.0) = e ∙ ap (λ z. cs ++ claims_for lane z (ranges i s k.0)) (sym t.1) in
    subst (λ (z : List (Claim Lane)). AreClaims i s (take (m + 1) ks) z) (sym n)
    (subst (λ (z : List Pair). AreClaims i s z (cs ++ claims_for lane (length (take m ks)) (ranges i s k.0))) (sym t.0) (claims_more i s (take m ks) k lane cs w a))

pub claims_whole : (i : Interval) (s : StateMaps) (ks : List Pair) (m : ℕ) (cs : List (Claim Lane)) → length ks ≤ m → AreClaims i s (take m ks) cs → AreClaims i s ks cs
claims_whole i s ks m cs h a = subst (λ (z : List Pair). AreClaims i s z cs) (take_all m ks h) a
