-- The offers are just the inputs that the cases take.
use Rattle.std.proofs.Common.{◌≡◌, ◌≢◌, ℕ, zero, suc, ℤ, pos, ◌≤ℤ◌, int_le, Bool, true, false, cond, ◌&&◌, ◌||◌, List, [], ◌∷◌, ◌++◌, length, refl, sym, ap, ◌∙◌, subst, arith, Option, Some, None}
use Rattle.std.specs.Prelude.{◌↔◌, slice_get, option_map}
use Rattle.std.specs.List.{list_any, AllByRecursion}
use Rattle.std.specs.Ordering.{eq_by_cmp, int_eq}
use Rattle.std.proofs.lemmas.Int.{ints}
use Rattle.claims.specs.declared.claim.Claim.{Claim}
use Rattle.claims.specs.Claims.{owner, IsLane, AreApart}
use Rattle.claims.proofs.Numbers.{both, le_true}
use Rattle.contract.specs.Names.Equal.{same_choice_id}
use Rattle.contract.specs.Names.declared.bound.Bound.{Bound}
use Rattle.contract.specs.Names.declared.party.Party.{Party}
use Rattle.contract.specs.Names.declared.token.Token.{Token}
use Rattle.contract.specs.Names.declared.choice_id.ChoiceId.{ChoiceId}
use Rattle.contract.specs.declared.input.Input.{Input}
use Rattle.contract.specs.declared.input.Input.TheVariants as inputs
use Rattle.contract.specs.declared.interval.Interval.{Interval}
use Rattle.contract.specs.States.States.{StateMaps}
use Rattle.contract.specs.Tree.{ValueTree, available_money, constant, neg_value, add_value, sub_value, mul_value, div_value, choice_value, time_interval_start, time_interval_end, use_value, cond_value}
use Rattle.contract.specs.Tree.{ObservationTree, ActionTree, deposit, choice, notify, ContractTree}
use Rattle.semantics.specs.Evaluation.Numbers.{fits, all_fit}
use Rattle.semantics.specs.Evaluation.Evaluation.{eval, visited, holds, looked}
use Rattle.semantics.proofs.FromEvaluation.Numbers.{all_fit_append}
use Rattle.semantics.specs.Applying.{agrees, in_bound, matches, tried}
use Rattle.next_inputs.specs.declared.lane.Lane.{Lane}
use Rattle.next_inputs.specs.declared.offer.Offer.{Offer}
use Rattle.next_inputs.specs.declared.offer.Offer.TheVariants.{Nothing, Deposit, Choice, Notify, Leaves128}
use Rattle.next_inputs.specs.Taking.{taken_case, leaving_case, number_of}
use Rattle.next_inputs.specs.Offers.{has, offered, AreApart as AreBounds, IsLaidOut, AreOffers}
use Rattle.next_inputs.specs.Lanes.{Way, deposits, chooses, notifies, way, way_of, way_in, way_cmp, lane_cmp}
use Rattle.next_inputs.specs.Claiming.{stops, stops_at, first_case, is_way, IsOf, AreClaims, gathered, AreShares, offer_of, offers_of}
use Rattle.next_inputs.proofs.Ranges.{itself, true_eq}
use Rattle.next_inputs.proofs.Ways.{same_deposit, same_choice, way_itself, way_lane, tested_for}
use Rattle.next_inputs.proofs.Stopping.{first_alike, first_there, stopped_as, zero_is, zero_fits}
use Rattle.next_inputs.proofs.Gathering.{settled_cases, gathers}

abbrev Pair : Type 0
Pair = ActionTree × ContractTree

-- ---- a number whose visited numbers fit fits

last_fits : (ns : List ℤ) (n : ℤ) → all_fit (ns ++ n ∷ []) ≡ true → fits n ≡ true
last_fits ns n h =
    let p = both (all_fit ns) (all_fit (n ∷ [])) (sym (all_fit_append ns (n ∷ [])) ∙ h) in (both (fits n) true p.1).0

two_fit : (ns ms : List ℤ) (n : ℤ) → all_fit (ns ++ (ms ++ n ∷ [])) ≡ true → fits n ≡ true
two_fit ns ms n h =
    let p = both (all_fit ns) (all_fit (ms ++ n ∷ [])) (sym (all_fit_append ns (ms ++ n ∷ [])) ∙ h) in last_fits ms n p.1

one_fits : (n : ℤ) → all_fit (n ∷ []) ≡ true → fits n ≡ true
one_fits n h = (both (fits n) true h).0

eval_fits : (i : Interval) (s : StateMaps) (v : ValueTree) → all_fit (visited i s v) ≡ true → fits (eval i s v) ≡ true
eval_fits i s (neg_value v) h = last_fits (visited i s v) (eval i s (neg_value v)) h
eval_fits i s (add_value v w) h = two_fit (visited i s v) (visited i s w) (eval i s (add_value v w)) h
eval_fits i s (sub_value v w) h = two_fit (visited i s v) (visited i s w) (eval i s (sub_value v w)) h
eval_fits i s (mul_value v w) h = two_fit (visited i s v) (visited i s w) (eval i s (mul_value v w)) h
eval_fits i s (div_value v w) h = two_fit (visited i s v) (visited i s w) (eval i s (div_value v w)) h
eval_fits i s (available_money p t) h = one_fits (eval i s (available_money p t)) h
eval_fits i s (constant n) h = one_fits n h
eval_fits i s (choice_value id) h = one_fits (eval i s (choice_value id)) h
eval_fits i s time_interval_start h = one_fits i.from h
eval_fits i s time_interval_end h = one_fits i.to h
eval_fits i s (use_value x) h = one_fits (eval i s (use_value x)) h
eval_fits i s (cond_value o v w) h = by (holds i s o) refl (λ e. eval_fits i s v e) (λ e. eval_fits i s w e)
  where
    parts : all_fit (cond (holds i s o) (visited i s v) (visited i s w)) ≡ true
    parts = (both (all_fit (looked i s o)) (all_fit (cond (holds i s o) (visited i s v) (visited i s w))) (sym (all_fit_append (looked i s o) (cond (holds i s o) (visited i s v) (visited i s w))) ∙ h)).1

    by : (b : Bool) → holds i s o ≡ b → (all_fit (visited i s v) ≡ true → fits (eval i s v) ≡ true) → (all_fit (visited i s w) ≡ true → fits (eval i s w) ≡ true)
        → fits (cond (holds i s o) (eval i s v) (eval i s w)) ≡ true
    by true e f g = ap (λ z. fits (cond z (eval i s v) (eval i s w))) e ∙ f (sym (ap (λ z. all_fit (cond z (visited i s v) (visited i s w))) e) ∙ parts)
    by false e f g = ap (λ z. fits (cond z (eval i s v) (eval i s w))) e ∙ g (sym (ap (λ z. all_fit (cond z (visited i s v) (visited i s w))) e) ∙ parts)

module _ (i : Interval) (s : StateMaps) where
  -- ---- taken, leaving and stopped

  suc_of : (o : Option ℕ) (n : ℕ) → option_map suc o ≡ Some n → (l : ℕ) × (o ≡ Some l) × (n ≡ suc l)
  suc_of None n h = absurd (cc)
  suc_of (Some l) n h = (l, refl, cc)

  abbrev Stands : List Pair → ℕ → (ActionTree → Type 0) → Type 0
  Stands ks n P = (k : Pair) × (slice_get ks n ≡ Some k) × P k.0

  further : (ks : List Pair) (j : Pair) (l n : ℕ) (P : ActionTree → Type 0) → n ≡ suc l → Stands ks l P → Stands (j ∷ ks) n P
  further ks j l n P e h = (h.0, ap (slice_get (j ∷ ks)) e ∙ h.1, h.2)

  abbrev Takes : Input → ActionTree → Type 0
  Takes x k = (all_fit (tried i s x k) ≡ true) × (matches i s x k ≡ true)

  -- an input that is taken is stopped by the case that takes it
  stop_taken : (x : Input) (ks : List Pair) (n : ℕ) → taken_case i s x ks ≡ Some n → (first_case (stops i s x) ks ≡ Some n) × Stands ks n (Takes x)
  stop_taken x [] n h = absurd (cc)
  stop_taken x (k ∷ ks) n h = by (all_fit (tried i s x k.0)) (matches i s x k.0) refl refl h (λ l e. stop_taken x ks l e)
    where
      by : (b m : Bool) → all_fit (tried i s x k.0) ≡ b → matches i s x k.0 ≡ m → cond b (cond m (Some 0) (option_map suc (taken_case i s x ks))) None ≡ Some n
          → ((l : ℕ) → taken_case i s x ks ≡ Some l → (first_case (stops i s x) ks ≡ Some l) × Stands ks l (Takes x))
          → (first_case (stops i s x) (k ∷ ks) ≡ Some n) × Stands (k ∷ ks) n (Takes x)
      by true true e f g rec =
          let z : ◌≡◌ {A = ℕ} 0 n = cc in
          let p : stops i s x k.0 ≡ true = ap (λ c. cond c (matches i s x k.0) (fits (number_of x))) e ∙ f in
          (ap (λ c. cond c (Some 0) (option_map suc (first_case (stops i s x) ks))) p ∙ g, (k, ap (slice_get (k ∷ ks)) (sym z), (e, f)))
      by true false e f g rec =
          let q = suc_of (taken_case i s x ks) n g in
          let r = rec q.0 q.1 in
          let p : stops i s x k.0 ≡ false = ap (λ c. cond c (matches i s x k.0) (fits (number_of x))) e ∙ f in
          (ap (λ c. cond c (Some 0) (option_map suc (first_case (stops i s x) ks))) p ∙ (ap (option_map suc) r.0 ∙ ap Some (sym q.2)), further ks k q.0 n (Takes x) q.2 r.1)
      by false m e f g rec = absurd (cc)

  -- where a number leaves, the input's number is one of 128 bits
  abbrev CanStop : Input → Type 0
  CanStop x = (k : ActionTree) → all_fit (tried i s x k) ≡ false → fits (number_of x) ≡ true

  -- one that is stopped by a case whose numbers fit is taken by it
  taken_stop : (x : Input) (ks : List Pair) (n : ℕ) → CanStop x → first_case (stops i s x) ks ≡ Some n → Stands ks n (λ k. all_fit (tried i s x k) ≡ true) → taken_case i s x ks ≡ Some n
  taken_stop x [] n c h d = absurd (cc)
  taken_stop x (k ∷ ks) n c h d = by (all_fit (tried i s x k.0)) (matches i s x k.0) refl refl (λ l e t. taken_stop x ks l c e t)
    where
      first : (m : ℕ) → m ≡ n → m ≡ 0 → d.0 ≡ k
      first m e f = let g : n ≡ 0 = cc in let r : Some k ≡ Some d.0 = sym (ap (slice_get (k ∷ ks)) g) ∙ d.1 in cc

      rest : (l : ℕ) → n ≡ suc l → Stands ks l (λ j. all_fit (tried i s x j) ≡ true)
      rest l e = (d.0, sym (ap (slice_get (k ∷ ks)) e) ∙ d.1, d.2)

      by : (b m : Bool) → all_fit (tried i s x k.0) ≡ b → matches i s x k.0 ≡ m
          → ((l : ℕ) → first_case (stops i s x) ks ≡ Some l → Stands ks l (λ j. all_fit (tried i s x j) ≡ true) → taken_case i s x ks ≡ Some l) → taken_case i s x (k ∷ ks) ≡ Some n
      by true true e f rec =
          let p : stops i s x k.0 ≡ true = ap (λ z. cond z (matches i s x k.0) (fits (number_of x))) e ∙ f in
          let g : Some 0 ≡ Some n = sym (ap (λ z. cond z (Some 0) (option_map suc (first_case (stops i s x) ks))) p) ∙ h in
          ap (λ z. cond z (cond (matches i s x k.0) (Some 0) (option_map suc (taken_case i s x ks))) None) e ∙ (ap (λ z. cond z (Some 0) (option_map suc (taken_case i s x ks))) f ∙ g)
      by true false e f rec =
          let p : stops i s x k.0 ≡ false = ap (λ z. cond z (matches i s x k.0) (fits (number_of x))) e ∙ f in
          let q = suc_of (first_case (stops i s x) ks) n (sym (ap (λ z. cond z (Some 0) (option_map suc (first_case (stops i s x) ks))) p) ∙ h) in
          let r = rec q.0 q.1 (rest q.0 q.2) in
          ap (λ z. cond z (cond (matches i s x k.0) (Some 0) (option_map suc (taken_case i s x ks))) None) e
          ∙ (ap (λ z. cond z (Some 0) (option_map suc (taken_case i s x ks))) f ∙ (ap (option_map suc) r ∙ ap Some (sym q.2)))
      by false m e f rec =
          let p : stops i s x k.0 ≡ true = ap (λ z. cond z (matches i s x k.0) (fits (number_of x))) e ∙ c k.0 e in
          let g : Some 0 ≡ Some n = sym (ap (λ z. cond z (Some 0) (option_map suc (first_case (stops i s x) ks))) p) ∙ h in
          let z : ◌≡◌ {A = ℕ} 0 n = cc in
          let same : d.0 ≡ k = first 0 z refl in
          let t : all_fit (tried i s x k.0) ≡ true = subst (λ (j : Pair). all_fit (tried i s x j.0) ≡ true) same d.2 in absurd (cc)

  -- an input at which a number leaves is stopped there
  leave_stop : (x : Input) (ks : List Pair) (n : ℕ) → fits (number_of x) ≡ true → leaving_case i s x ks ≡ Some n → (first_case (stops i s x) ks ≡ Some n) × Stands ks n (λ k. all_fit (tried i s x k) ≡ false)
  leave_stop x [] n c h = absurd (cc)
  leave_stop x (k ∷ ks) n c h = by (all_fit (tried i s x k.0)) (matches i s x k.0) refl refl h (λ l e. leave_stop x ks l c e)
    where
      by : (b m : Bool) → all_fit (tried i s x k.0) ≡ b → matches i s x k.0 ≡ m → cond b (cond m None (option_map suc (leaving_case i s x ks))) (Some 0) ≡ Some n
          → ((l : ℕ) → leaving_case i s x ks ≡ Some l → (first_case (stops i s x) ks ≡ Some l) × Stands ks l (λ j. all_fit (tried i s x j) ≡ false))
          → (first_case (stops i s x) (k ∷ ks) ≡ Some n) × Stands (k ∷ ks) n (λ j. all_fit (tried i s x j) ≡ false)
      by true true e f g rec = absurd (cc)
      by true false e f g rec =
          let q = suc_of (leaving_case i s x ks) n g in
          let r = rec q.0 q.1 in
          let p : stops i s x k.0 ≡ false = ap (λ z. cond z (matches i s x k.0) (fits (number_of x))) e ∙ f in
          (ap (λ z. cond z (Some 0) (option_map suc (first_case (stops i s x) ks))) p ∙ (ap (option_map suc) r.0 ∙ ap Some (sym q.2)), further ks k q.0 n (λ j. all_fit (tried i s x j) ≡ false) q.2 r.1)
      by false m e f g rec =
          let z : ◌≡◌ {A = ℕ} 0 n = cc in
          let p : stops i s x k.0 ≡ true = ap (λ z. cond z (matches i s x k.0) (fits (number_of x))) e ∙ c in
          (ap (λ z. cond z (Some 0) (option_map suc (first_case (stops i s x) ks))) p ∙ g, (k, ap (slice_get (k ∷ ks)) (sym z), e))

  -- and one that is stopped by a case of which a number leaves leaves there
  stop_leave : (x : Input) (ks : List Pair) (n : ℕ) → fits (number_of x) ≡ true → first_case (stops i s x) ks ≡ Some n → Stands ks n (λ k. all_fit (tried i s x k) ≡ false) → leaving_case i s x ks ≡ Some n
  stop_leave x [] n c h d = absurd (cc)
  stop_leave x (k ∷ ks) n c h d = by (all_fit (tried i s x k.0)) (matches i s x k.0) refl refl (λ l e t. stop_leave x ks l c e t)
    where
      rest : (l : ℕ) → n ≡ suc l → Stands ks l (λ j. all_fit (tried i s x j) ≡ false)
      rest l e = (d.0, sym (ap (slice_get (k ∷ ks)) e) ∙ d.1, d.2)

      by : (b m : Bool) → all_fit (tried i s x k.0) ≡ b → matches i s x k.0 ≡ m
          → ((l : ℕ) → first_case (stops i s x) ks ≡ Some l → Stands ks l (λ j. all_fit (tried i s x j) ≡ false) → leaving_case i s x ks ≡ Some l) → leaving_case i s x (k ∷ ks) ≡ Some n
      by true true e f rec =
          let p : stops i s x k.0 ≡ true = ap (λ z. cond z (matches i s x k.0) (fits (number_of x))) e ∙ f in
          let g : Some 0 ≡ Some n = sym (ap (λ z. cond z (Some 0) (option_map suc (first_case (stops i s x) ks))) p) ∙ h in
          let z : ◌≡◌ {A = ℕ} 0 n = cc in
          let r : Some k ≡ Some d.0 = ap (slice_get (k ∷ ks)) z ∙ d.1 in
          let same : d.0 ≡ k = cc in
          let t : all_fit (tried i s x k.0) ≡ false = subst (λ (j : Pair). all_fit (tried i s x j.0) ≡ false) same d.2 in absurd (cc)
      by true false e f rec =
          let p : stops i s x k.0 ≡ false = ap (λ z. cond z (matches i s x k.0) (fits (number_of x))) e ∙ f in
          let q = suc_of (first_case (stops i s x) ks) n (sym (ap (λ z. cond z (Some 0) (option_map suc (first_case (stops i s x) ks))) p) ∙ h) in
          let r = rec q.0 q.1 (rest q.0 q.2) in
          ap (λ z. cond z (cond (matches i s x k.0) None (option_map suc (leaving_case i s x ks))) (Some 0)) e
          ∙ (ap (λ z. cond z None (option_map suc (leaving_case i s x ks))) f ∙ (ap (option_map suc) r ∙ ap Some (sym q.2)))
      by false m e f rec =
          let p : stops i s x k.0 ≡ true = ap (λ z. cond z (matches i s x k.0) (fits (number_of x))) e ∙ c in
          let g : Some 0 ≡ Some n = sym (ap (λ z. cond z (Some 0) (option_map suc (first_case (stops i s x) ks))) p) ∙ h in
          ap (λ z. cond z (cond (matches i s x k.0) None (option_map suc (leaving_case i s x ks))) (Some 0)) e ∙ g

  -- ---- offers at an index

  abbrev At : List Pair → List (List Bound) → ℕ → Pair → List Bound → Type 0
  At ks bss n k bs = (slice_get ks n ≡ Some k) × (slice_get bss n ≡ Some bs)

  offered_at : (ks : List Pair) (bss : List (List Bound)) (n : ℕ) (x : Input) → offered ks (offers_of i s ks bss) n x ≡ true → (k : Pair) × (bs : List Bound) × At ks bss n k bs × (has k.0 (offer_of i s k.0 bs) x ≡ true)
  offered_at [] bss n x h = absurd (cc)
  offered_at (k ∷ ks) [] n x h = absurd (cc)
  offered_at (k ∷ ks) (bs ∷ bss) zero x h = (k, bs, (refl, refl), h)
  offered_at (k ∷ ks) (bs ∷ bss) (suc n) x h = offered_at ks bss n x h

  at_offered : (ks : List Pair) (bss : List (List Bound)) (n : ℕ) (x : Input) (k : Pair) (bs : List Bound) → At ks bss n k bs → has k.0 (offer_of i s k.0 bs) x ≡ true → offered ks (offers_of i s ks bss) n x ≡ true
  at_offered [] bss n x k bs a h = let q = a.0 in absurd (cc)
  at_offered (j ∷ ks) [] n x k bs a h = let q = a.1 in absurd (cc)
  at_offered (j ∷ ks) (cs ∷ bss) zero x k bs a h =
      let e : j ≡ k = let q = a.0 in cc in
      let f : cs ≡ bs = let q = a.1 in cc in
      ap (λ (p : Pair). has p.0 (offer_of i s p.0 cs) x) e ∙ (ap (λ z. has k.0 (offer_of i s k.0 z) x) f ∙ h)
  at_offered (j ∷ ks) (cs ∷ bss) (suc n) x k bs a h = at_offered ks bss n x k bs a h

  got_offer : (ks : List Pair) (bss : List (List Bound)) (n : ℕ) (f : Offer) → slice_get (offers_of i s ks bss) n ≡ Some f → (k : Pair) × (bs : List Bound) × At ks bss n k bs × (offer_of i s k.0 bs ≡ f)
  got_offer [] bss n f h = absurd (cc)
  got_offer (k ∷ ks) [] n f h = absurd (cc)
  got_offer (k ∷ ks) (bs ∷ bss) zero f h = (k, bs, (refl, refl), cc)
  got_offer (k ∷ ks) (bs ∷ bss) (suc n) f h = got_offer ks bss n f h

  offer_got : (ks : List Pair) (bss : List (List Bound)) (n : ℕ) (k : Pair) (bs : List Bound) → At ks bss n k bs → slice_get (offers_of i s ks bss) n ≡ Some (offer_of i s k.0 bs)
  offer_got [] bss n k bs a = let q = a.0 in absurd (cc)
  offer_got (j ∷ ks) [] n k bs a = let q = a.1 in absurd (cc)
  offer_got (j ∷ ks) (cs ∷ bss) zero k bs a =
      let e : j ≡ k = let q = a.0 in cc in
      let f : cs ≡ bs = let q = a.1 in cc in
      ap (λ (p : Pair). let o : Option Offer = Some (offer_of i s p.0 cs) in o) e ∙ ap (λ z. let o : Option Offer = Some (offer_of i s k.0 z) in o) f
  offer_got (j ∷ ks) (cs ∷ bss) (suc n) k bs a = offer_got ks bss n k bs a

  -- where there is a case there is a share
  both_at : (ks : List Pair) (bss : List (List Bound)) (n : ℕ) (k : Pair) → length bss ≡ length ks → slice_get ks n ≡ Some k → (bs : List Bound) × At ks bss n k bs
  both_at [] bss n k l h = absurd (cc)
  both_at (j ∷ ks) [] n k l h = absurd (omega arith)
  both_at (j ∷ ks) (bs ∷ bss) zero k l h = (bs, (h, refl))
  both_at (j ∷ ks) (bs ∷ bss) (suc n) k l h = both_at ks bss n k (omega arith) h

  as_many : (ks : List Pair) (bss : List (List Bound)) → length bss ≡ length ks → length (offers_of i s ks bss) ≡ length ks
  as_many [] bss l = refl
  as_many (k ∷ ks) [] l = absurd (omega arith)
  as_many (k ∷ ks) (bs ∷ bss) l = ap suc (as_many ks bss (omega arith))

  -- ---- shares

  owner_tied : (v w : Way) (n : ℤ) (cs : List (Claim Lane)) → eq_by_cmp way_cmp v w ≡ true → owner (is_way v) n cs ≡ owner (is_way w) n cs
  owner_tied v w n [] e = refl
  owner_tied v w n (c ∷ cs) e =
      ap (λ z. cond (z && (int_le c.from n && int_le n c.to)) (Some c.by) (owner (is_way v) n cs)) (tested_for v w (way c.lane) e)
      ∙ ap (λ z. cond (is_way w c.lane && (int_le c.from n && int_le n c.to)) (Some c.by) z) (owner_tied v w n cs e)

  module _ (ks : List Pair) (xs cs : List (Claim Lane)) (bss : List (List Bound)) (a : AreClaims i s ks xs) (apart : AreApart lane_cmp cs)
      (same : (is_lane : Lane → Bool) (n : ℤ) → IsLane lane_cmp is_lane → owner is_lane n cs ≡ owner is_lane n xs)
      (many : length bss ≡ length ks) (shares : AreShares bss cs) where
    owned : (w : Way) (n : ℤ) → owner (is_way w) n cs ≡ first_case (stops_at i s w n) ks
    owned w n = same (is_way w) n (way_lane w) ∙ a.owners w n

    cases : AllByRecursion (IsOf ks) cs
    cases = settled_cases ks xs cs apart a.cases (λ w n. same (is_way w) n (way_lane w))

    -- the share of a case has a number just where the case stops it
    abbrev Shared : Pair → ℕ → List Bound → Type 0
    Shared k n bs =
        AreBounds bs
        × ((m : ℤ) → list_any (in_bound m) bs ≡ true → first_case (stops_at i s (way_in k.0) m) ks ≡ Some n)
        × ((m : ℤ) → first_case (stops_at i s (way_in k.0) m) ks ≡ Some n → list_any (in_bound m) bs ≡ true)

    shared : (k : Pair) (n : ℕ) (bs : List Bound) → At ks bss n k bs → Shared k n bs
    shared k n bs h =
        let g = gathers ks cs n k h.0 apart cases in
        let e = shares n bs h.1 in
        subst (λ (z : List Bound). Shared k n z) (sym e) (
          g.0,
          λ m p. sym (owned (way_in k.0) m) ∙ g.1 m p,
          λ m p. g.2 m (owned (way_in k.0) m ∙ p),
        )

    -- an input is stopped as its way and number are, at any way that is tied to its own
    stopped : (x : Input) (w : Way) → eq_by_cmp way_cmp (way_of x) w ≡ true → first_case (stops i s x) ks ≡ first_case (stops_at i s w (number_of x)) ks
    stopped x w e =
        sym (first_alike (stops_at i s (way_of x) (number_of x)) (stops i s x) ks (stopped_as i s x))
        ∙ (sym (owned (way_of x) (number_of x)) ∙ (owner_tied (way_of x) w (number_of x) cs e ∙ owned w (number_of x)))

    -- the case at an index is one alone
    only : (n : ℕ) (j k : Pair) → slice_get ks n ≡ Some j → slice_get ks n ≡ Some k → j ≡ k
    only n j k e f = let r : Some j ≡ Some k = sym e ∙ f in cc

    agrees_itself : (b q : Party) (u : Token) → agrees b q u b q u ≡ true
    agrees_itself b q u = sym (same_deposit b q u b q u) ∙ way_itself (deposits b q u)

    -- what is tried of a deposit that agrees
    tried_agreed : (g f : Bool) (ns : List ℤ) → g ≡ true → all_fit ns ≡ f → all_fit (cond g ns []) ≡ f
    tried_agreed g f ns e h = ap (λ z. all_fit (cond z ns [])) e ∙ h

    head_in : (b : Bound) (bs : List Bound) → AreBounds (b ∷ bs) → list_any (in_bound b.from) (b ∷ bs) ≡ true
    head_in b [] h = rw (le_true b.from b.from (itself b.from), le_true b.from b.to h) refl
    head_in b (c ∷ bs) h = rw (le_true b.from b.from (itself b.from), le_true b.from b.to h.0) refl

    -- the first number of a share is stopped by its case
    head_stops : (act : ActionTree) (c : ContractTree) (n : ℕ) (d : Bound) (ds : List Bound) → At ks bss n (act, c) (d ∷ ds)
        → (first_case (stops_at i s (way_in act) d.from) ks ≡ Some n) × (stops_at i s (way_in act) d.from act ≡ true)
    head_stops act c n d ds a =
        let sh = shared (act, c) n (d ∷ ds) a in
        let e = sh.1 d.from (head_in d ds sh.0) in
        let t = first_there (stops_at i s (way_in act) d.from) ks n e in
        let same : t.0 ≡ (act, c) = only n t.0 (act, c) t.1 a.0 in
        (e, subst (λ (k : Pair). stops_at i s (way_in act) d.from k.0 ≡ true) same t.2)

    -- ---- what is offered is taken

    deposit_taken : (b q : Party) (u : Token) (v : ValueTree) (c : ContractTree) (n : ℕ) (d : Bound) (ds : List Bound) (f : Bool) (x : Input) → all_fit (visited i s v) ≡ f
        → At ks bss n (deposit b q u v, c) (d ∷ ds) → has (deposit b q u v) (cond f (Deposit (eval i s v)) Leaves128) x ≡ true → taken_case i s x ks ≡ Some n
    deposit_taken b q u v c n d ds true (inputs.Deposit a p t m) e h g =
        let x = inputs.Deposit a p t m in
        let pair = both (agrees a p t b q u) (int_eq m (eval i s v)) g in
        let tie : eq_by_cmp way_cmp (deposits a p t) (deposits b q u) ≡ true = same_deposit a p t b q u ∙ pair.0 in
        let own = head_stops (deposit b q u v) c n d ds h in
        let fit : all_fit (tried i s (inputs.Deposit b q u d.from) (deposit b q u v)) ≡ true = tried_agreed (agrees b q u b q u) true (visited i s v) (agrees_itself b q u) e in
        let matched : agrees b q u b q u && int_eq d.from (eval i s v) ≡ true =
        sym (ap (λ z. cond z (agrees b q u b q u && int_eq d.from (eval i s v)) (fits d.from)) fit) ∙ own.1 in
        let there : d.from ≡ eval i s v = true_eq d.from (eval i s v) (both (agrees b q u b q u) (int_eq d.from (eval i s v)) matched).1 in
        let here : m ≡ eval i s v = true_eq m (eval i s v) pair.1 in
        let number : d.from ≡ m = there ∙ sym here in
        let stop : first_case (stops i s x) ks ≡ Some n = stopped x (deposits b q u) tie ∙ subst (λ z. first_case (stops_at i s (deposits b q u) z) ks ≡ Some n) number own.0 in
        taken_stop x ks n (λ k z. ap fits here ∙ eval_fits i s v e) stop ((deposit b q u v, c), h.0, tried_agreed (agrees a p t b q u) true (visited i s v) pair.0 e)
    deposit_taken b q u v c n d ds true (inputs.Choice id m) e h g = absurd (cc)
    deposit_taken b q u v c n d ds true inputs.Notify e h g = absurd (cc)
    deposit_taken b q u v c n d ds false (inputs.Deposit a p t m) e h g = absurd (cc)
    deposit_taken b q u v c n d ds false (inputs.Choice id m) e h g = absurd (cc)
    deposit_taken b q u v c n d ds false inputs.Notify e h g = absurd (cc)

    notify_stops : (m : ℤ) (k : ActionTree) → stops_at i s notifies m k ≡ true → fits m ≡ true
    notify_stops m k h = by (fits m) (stops i s inputs.Notify k) refl h
      where
        by : (b t : Bool) → fits m ≡ b → cond b t false ≡ true → fits m ≡ true
        by true t e g = e
        by false t e g = absurd (cc)

    notify_alike : (m : ℤ) → fits m ≡ true → first_case (stops i s inputs.Notify) ks ≡ first_case (stops_at i s notifies m) ks
    notify_alike m e = first_alike (stops i s inputs.Notify) (stops_at i s notifies m) ks (λ k. sym (ap (λ z. cond z (stops i s inputs.Notify k) false) e))

    notify_taken : (o : ObservationTree) (c : ContractTree) (n : ℕ) (d : Bound) (ds : List Bound) (f : Bool) (x : Input) → all_fit (looked i s o) ≡ f
        → At ks bss n (notify o, c) (d ∷ ds) → has (notify o) (cond f Notify Leaves128) x ≡ true → taken_case i s x ks ≡ Some n
    notify_taken o c n d ds true inputs.Notify e h g =
        let own = head_stops (notify o) c n d ds h in
        taken_stop inputs.Notify ks n (λ k z. zero_fits) (notify_alike d.from (notify_stops d.from (notify o) own.1) ∙ own.0) ((notify o, c), h.0, e)
    notify_taken o c n d ds true (inputs.Deposit a p t m) e h g = absurd (cc)
    notify_taken o c n d ds true (inputs.Choice id m) e h g = absurd (cc)
    notify_taken o c n d ds false (inputs.Deposit a p t m) e h g = absurd (cc)
    notify_taken o c n d ds false (inputs.Choice id m) e h g = absurd (cc)
    notify_taken o c n d ds false inputs.Notify e h g = absurd (cc)

    choice_taken : (jd : ChoiceId) (bounds : List Bound) (c : ContractTree) (n : ℕ) (d : Bound) (ds : List Bound) (x : Input)
        → At ks bss n (choice jd bounds, c) (d ∷ ds) → has (choice jd bounds) (Choice (d ∷ ds)) x ≡ true → taken_case i s x ks ≡ Some n
    choice_taken jd bounds c n d ds (inputs.Choice id m) h g =
        let x = inputs.Choice id m in
        let pair = both (same_choice_id id jd) (list_any (in_bound m) (d ∷ ds)) g in
        let tie : eq_by_cmp way_cmp (chooses id) (chooses jd) ≡ true = same_choice id jd ∙ pair.0 in
        let sh = shared (choice jd bounds, c) n (d ∷ ds) h in
        taken_stop x ks n (λ k z. choice_fits k z) (stopped x (chooses jd) tie ∙ sh.1 m pair.1) ((choice jd bounds, c), h.0, refl)
      where
        choice_fits : (k : ActionTree) → all_fit (tried i s (inputs.Choice id m) k) ≡ false → fits m ≡ true
        choice_fits (deposit a p t v) z = absurd (cc)
        choice_fits (choice kd bs) z = absurd (cc)
        choice_fits (notify o) z = absurd (cc)
    choice_taken jd bounds c n d ds (inputs.Deposit a p t m) h g = absurd (cc)
    choice_taken jd bounds c n d ds inputs.Notify h g = absurd (cc)

    to_taken : (x : Input) (n : ℕ) → offered ks (offers_of i s ks bss) n x ≡ true → taken_case i s x ks ≡ Some n
    to_taken x n h = let q = offered_at ks bss n x h in by q.0.0 q.0.1 q.1 q.2 q.3
      where
        nothing : (act : ActionTree) (y : Input) → has act Nothing y ≡ true → ⊥
        nothing (deposit a p t v) (inputs.Deposit b q u m) e = cc
        nothing (deposit a p t v) (inputs.Choice id m) e = cc
        nothing (deposit a p t v) inputs.Notify e = cc
        nothing (choice id bounds) (inputs.Deposit b q u m) e = cc
        nothing (choice id bounds) (inputs.Choice jd m) e = cc
        nothing (choice id bounds) inputs.Notify e = cc
        nothing (notify o) (inputs.Deposit b q u m) e = cc
        nothing (notify o) (inputs.Choice jd m) e = cc
        nothing (notify o) inputs.Notify e = cc

        by : (act : ActionTree) (c : ContractTree) (bs : List Bound) → At ks bss n (act, c) bs → has act (offer_of i s act bs) x ≡ true → taken_case i s x ks ≡ Some n
        by act c [] a e = absurd (nothing act x e)
        by (deposit b q u v) c (d ∷ ds) a e = deposit_taken b q u v c n d ds (all_fit (visited i s v)) x refl a e
        by (choice jd bounds) c (d ∷ ds) a e = choice_taken jd bounds c n d ds x a e
        by (notify o) c (d ∷ ds) a e = notify_taken o c n d ds (all_fit (looked i s o)) x refl a e

    -- ---- what is taken is offered

    agreed : (g : Bool) (ns : List ℤ) → all_fit (cond g ns []) ≡ false → g ≡ true
    agreed true ns h = refl
    agreed false ns h = absurd (cc)

    -- a number that a case stops is in its share
    in_share : (x : Input) (act : ActionTree) (c : ContractTree) (n : ℕ) (bs : List Bound) → At ks bss n (act, c) bs → eq_by_cmp way_cmp (way_of x) (way_in act) ≡ true
        → first_case (stops i s x) ks ≡ Some n → list_any (in_bound (number_of x)) bs ≡ true
    in_share x act c n bs a t h = (shared (act, c) n bs a).2 (number_of x) (sym (stopped x (way_in act) t) ∙ h)

    of_taken : (x : Input) (act : ActionTree) (c : ContractTree) (n : ℕ) (bs : List Bound) → At ks bss n (act, c) bs → first_case (stops i s x) ks ≡ Some n
        → all_fit (tried i s x act) ≡ true → matches i s x act ≡ true → has act (offer_of i s act bs) x ≡ true
    of_taken (inputs.Deposit a p t m) (deposit b q u v) c n bs h e f g = by bs (in_share (inputs.Deposit a p t m) (deposit b q u v) c n bs h (same_deposit a p t b q u ∙ pair.0) e)
      where
        pair : (agrees a p t b q u ≡ true) × (int_eq m (eval i s v) ≡ true)
        pair = both (agrees a p t b q u) (int_eq m (eval i s v)) g

        fit : all_fit (visited i s v) ≡ true
        fit = sym (ap (λ z. all_fit (cond z (visited i s v) [])) pair.0) ∙ f

        by : (cs : List Bound) → list_any (in_bound m) cs ≡ true → has (deposit b q u v) (offer_of i s (deposit b q u v) cs) (inputs.Deposit a p t m) ≡ true
        by [] k = absurd (cc)
        by (d ∷ ds) k = ap (λ z. has (deposit b q u v) (cond z (Deposit (eval i s v)) Leaves128) (inputs.Deposit a p t m)) fit ∙ g
    of_taken (inputs.Deposit a p t m) (choice jd bounds) c n bs h e f g = absurd (cc)
    of_taken (inputs.Deposit a p t m) (notify o) c n bs h e f g = absurd (cc)
    of_taken (inputs.Choice id m) (deposit b q u v) c n bs h e f g = absurd (cc)
    of_taken (inputs.Choice id m) (choice jd bounds) c n bs h e f g = by bs (in_share (inputs.Choice id m) (choice jd bounds) c n bs h (same_choice id jd ∙ pair.0) e)
      where
        pair : (same_choice_id id jd ≡ true) × (list_any (in_bound m) bounds ≡ true)
        pair = both (same_choice_id id jd) (list_any (in_bound m) bounds) g

        by : (cs : List Bound) → list_any (in_bound m) cs ≡ true → has (choice jd bounds) (offer_of i s (choice jd bounds) cs) (inputs.Choice id m) ≡ true
        by [] k = absurd (cc)
        by (d ∷ ds) k = ap (λ z. z && list_any (in_bound m) (d ∷ ds)) pair.0 ∙ k
    of_taken (inputs.Choice id m) (notify o) c n bs h e f g = absurd (cc)
    of_taken inputs.Notify (deposit b q u v) c n bs h e f g = absurd (cc)
    of_taken inputs.Notify (choice jd bounds) c n bs h e f g = absurd (cc)
    of_taken inputs.Notify (notify o) c n bs h e f g = by bs (in_share inputs.Notify (notify o) c n bs h (way_itself notifies) e)
      where
        by : (cs : List Bound) → list_any (in_bound (pos 0)) cs ≡ true → has (notify o) (offer_of i s (notify o) cs) inputs.Notify ≡ true
        by [] k = absurd (cc)
        by (d ∷ ds) k = ap (λ z. has (notify o) (cond z Notify Leaves128) inputs.Notify) f

    to_offered : (x : Input) (n : ℕ) → taken_case i s x ks ≡ Some n → offered ks (offers_of i s ks bss) n x ≡ true
    to_offered x n h =
        let q = stop_taken x ks n h in
        let k = q.1.0 in
        let b = both_at ks bss n k many q.1.1 in
        at_offered ks bss n x k b.0 b.1 (of_taken x k.0 k.1 n b.0 b.1 q.0 q.1.2.0 q.1.2.1)

    -- ---- where a number leaves

    abbrev Leaves : ℕ → Type 0
    Leaves n = (x : Input) × (fits (number_of x) ≡ true) × (leaving_case i s x ks ≡ Some n)

    deposit_leaves : (b q : Party) (u : Token) (v : ValueTree) (c : ContractTree) (n : ℕ) (d : Bound) (ds : List Bound) (f : Bool) → all_fit (visited i s v) ≡ f
        → At ks bss n (deposit b q u v, c) (d ∷ ds) → cond f (Deposit (eval i s v)) Leaves128 ≡ Leaves128 → Leaves n
    deposit_leaves b q u v c n d ds true e h g = absurd (cc)
    deposit_leaves b q u v c n d ds false e h g =
        let x = inputs.Deposit b q u d.from in
        let own = head_stops (deposit b q u v) c n d ds h in
        let fit : all_fit (tried i s x (deposit b q u v)) ≡ false = tried_agreed (agrees b q u b q u) false (visited i s v) (agrees_itself b q u) e in
        let f : fits d.from ≡ true = sym (ap (λ z. cond z (agrees b q u b q u && int_eq d.from (eval i s v)) (fits d.from)) fit) ∙ own.1 in
        (x, f, stop_leave x ks n f own.0 ((deposit b q u v, c), h.0, fit))

    notify_leaves : (o : ObservationTree) (c : ContractTree) (n : ℕ) (d : Bound) (ds : List Bound) (f : Bool) → all_fit (looked i s o) ≡ f
        → At ks bss n (notify o, c) (d ∷ ds) → cond f Notify Leaves128 ≡ Leaves128 → Leaves n
    notify_leaves o c n d ds true e h g = absurd (cc)
    notify_leaves o c n d ds false e h g =
        let own = head_stops (notify o) c n d ds h in
        (inputs.Notify, zero_fits, stop_leave inputs.Notify ks n zero_fits (notify_alike d.from (notify_stops d.from (notify o) own.1) ∙ own.0) ((notify o, c), h.0, e))

    to_leaving : (n : ℕ) → slice_get (offers_of i s ks bss) n ≡ Some Leaves128 → Leaves n
    to_leaving n h = let q = got_offer ks bss n Leaves128 h in by q.0.0 q.0.1 q.1 q.2 q.3
      where
        by : (act : ActionTree) (c : ContractTree) (bs : List Bound) → At ks bss n (act, c) bs → offer_of i s act bs ≡ Leaves128 → Leaves n
        by act c [] a e = absurd (cc)
        by (deposit b q u v) c (d ∷ ds) a e = deposit_leaves b q u v c n d ds (all_fit (visited i s v)) refl a e
        by (choice jd bounds) c (d ∷ ds) a e = absurd (cc)
        by (notify o) c (d ∷ ds) a e = notify_leaves o c n d ds (all_fit (looked i s o)) refl a e

    of_leaving : (x : Input) (act : ActionTree) (c : ContractTree) (n : ℕ) (bs : List Bound) → At ks bss n (act, c) bs → first_case (stops i s x) ks ≡ Some n → all_fit (tried i s x act) ≡ false
        → offer_of i s act bs ≡ Leaves128
    of_leaving (inputs.Deposit a p t m) (deposit b q u v) c n bs h e f = by bs (in_share (inputs.Deposit a p t m) (deposit b q u v) c n bs h (same_deposit a p t b q u ∙ g) e)
      where
        g : agrees a p t b q u ≡ true
        g = agreed (agrees a p t b q u) (visited i s v) f

        by : (cs : List Bound) → list_any (in_bound m) cs ≡ true → offer_of i s (deposit b q u v) cs ≡ Leaves128
        by [] k = absurd (cc)
        by (d ∷ ds) k = ap (λ z. cond z (Deposit (eval i s v)) Leaves128) (sym (ap (λ z. all_fit (cond z (visited i s v) [])) g) ∙ f)
    of_leaving (inputs.Deposit a p t m) (choice jd bounds) c n bs h e f = absurd (cc)
    of_leaving (inputs.Deposit a p t m) (notify o) c n bs h e f = absurd (cc)
    of_leaving (inputs.Choice id m) (deposit b q u v) c n bs h e f = absurd (cc)
    of_leaving (inputs.Choice id m) (choice jd bounds) c n bs h e f = absurd (cc)
    of_leaving (inputs.Choice id m) (notify o) c n bs h e f = absurd (cc)
    of_leaving inputs.Notify (deposit b q u v) c n bs h e f = absurd (cc)
    of_leaving inputs.Notify (choice jd bounds) c n bs h e f = absurd (cc)
    of_leaving inputs.Notify (notify o) c n bs h e f = by bs (in_share inputs.Notify (notify o) c n bs h (way_itself notifies) e)
      where
        by : (cs : List Bound) → list_any (in_bound (pos 0)) cs ≡ true → offer_of i s (notify o) cs ≡ Leaves128
        by [] k = absurd (cc)
        by (d ∷ ds) k = ap (λ z. cond z Notify Leaves128) f

    from_leaving : (n : ℕ) → Leaves n → slice_get (offers_of i s ks bss) n ≡ Some Leaves128
    from_leaving n l =
        let q = leave_stop l.0 ks n l.1 l.2 in
        let k = q.1.0 in
        let b = both_at ks bss n k many q.1.1 in
        offer_got ks bss n k b.0 b.1 ∙ ap (λ z. let o : Option Offer = Some z in o) (of_leaving l.0 k.0 k.1 n b.0 b.1 q.0 q.1.2)

    -- ---- how it is laid out

    laid_cond : (f : Bool) (m : ℤ) → IsLaidOut (cond f (Deposit m) Leaves128)
    laid_cond true m = tt
    laid_cond false m = tt

    laid_notify : (f : Bool) → IsLaidOut (cond f Notify Leaves128)
    laid_notify true = tt
    laid_notify false = tt

    laid : (act : ActionTree) (bs : List Bound) → AreBounds bs → IsLaidOut (offer_of i s act bs)
    laid act [] h = tt
    laid (deposit b q u v) (d ∷ ds) h = laid_cond (all_fit (visited i s v)) (eval i s v)
    laid (choice jd bounds) (d ∷ ds) h = ((λ e. absurd (cc)), h)
    laid (notify o) (d ∷ ds) h = laid_notify (all_fit (looked i s o))

    all_laid : (js : List Pair) (css : List (List Bound)) → ((n : ℕ) (k : Pair) (bs : List Bound) → At js css n k bs → AreBounds bs) → AllByRecursion IsLaidOut (offers_of i s js css)
    all_laid [] css h = tt
    all_laid (k ∷ js) [] h = tt
    all_laid (k ∷ js) (bs ∷ css) h = (laid k.0 bs (h 0 k bs (refl, refl)), all_laid js css (λ n j cs a. h (suc n) j cs a))

    pub are_offers : AreOffers i s ks (offers_of i s ks bss)
    are_offers = record {
      each = as_many ks bss many;
      exact = λ x n. (to_taken x n, to_offered x n);
      leaving = λ n. (to_leaving n, from_leaving n);
      laid_out = all_laid ks bss (λ n k bs a. (shared k n bs a).0);
    }
