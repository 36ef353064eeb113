-- The case that an input takes, and what the transaction function does of it.
use Rattle.std.proofs.Common.{◌≡◌, ℕ, zero, suc, ◌+◌, ◌<◌, ◌≤◌, ℤ, Bool, true, false, cond, ◌&&◌, List, [], ◌∷◌, ◌++◌, length, drop, add-one, refl, sym, ap, ◌∙◌, arith, Result, Ok, Err, Option, Some, None}
use Rattle.std.specs.Prelude.{slice_get, option_map}
use Rattle.std.proofs.lemmas.List.{drop_all}
use Rattle.contract.specs.declared.fault.SemFault.{SemFault}
use Rattle.contract.specs.declared.fault.SemFault.TheVariants.{Leaves128}
use Rattle.contract.specs.declared.input.Input.{Input}
use Rattle.contract.specs.declared.interval.Interval.{Interval}
use Rattle.contract.specs.Tree.{ActionTree, ContractTree}
use Rattle.contract.specs.States.States.{StateMaps}
use Rattle.semantics.specs.Evaluation.Numbers.{all_fit, within}
use Rattle.semantics.proofs.FromEvaluation.Numbers.{all_fit_append, within_ok}
use Rattle.semantics.specs.Applying.{matches, tried}
use Rattle.semantics.specs.Computed.{first_match, tried_to_match}
use Rattle.next_inputs.specs.Taking.{taken_case, leaving_case}

abbrev Pair : Type 0
Pair = ActionTree × ContractTree

module _ (i : Interval) (s : StateMaps) (x : Input) where
  -- ---- the first match

  pub first_there : (ks : List Pair) (n : ℕ) (k : Pair) → taken_case i s x ks ≡ Some n → slice_get ks n ≡ Some k → first_match i s x ks ≡ Some k.1
  first_there [] n k h g = absurd (cc)
  first_there (j ∷ ks) n k h g = by (all_fit (tried i s x j.0)) (matches i s x j.0) refl h (λ l e f. first_there ks l k e f)
    where
      later : (o : Option ℕ) → option_map suc o ≡ Some n → taken_case i s x ks ≡ o → ((l : ℕ) → taken_case i s x ks ≡ Some l → slice_get ks l ≡ Some k → first_match i s x ks ≡ Some k.1) → first_match i s x ks ≡ Some k.1
      later None e f r = absurd (cc)
      later (Some l) e f r = let z : suc l ≡ n = cc in r l f (ap (slice_get (j ∷ ks)) z ∙ g)

      by : (b m : Bool) → matches i s x j.0 ≡ m → cond b (cond m (Some 0) (option_map suc (taken_case i s x ks))) None ≡ Some n
          → ((l : ℕ) → taken_case i s x ks ≡ Some l → slice_get ks l ≡ Some k → first_match i s x ks ≡ Some k.1) → first_match i s x (j ∷ ks) ≡ Some k.1
      by true true m e r =
          let z : ◌≡◌ {A = ℕ} 0 n = cc in
          let f : ◌≡◌ {A = Option Pair} (Some j) (Some k) = ap (slice_get (j ∷ ks)) z ∙ g in
          ap (λ b. cond b (Some j.1) (first_match i s x ks)) m ∙ ap (option_map (λ (q : Pair). q.1)) f
      by true false m e r = ap (λ b. cond b (Some j.1) (first_match i s x ks)) m ∙ later (taken_case i s x ks) e refl r
      by false m f e r = absurd (cc)

  -- the case that is taken is one of them
  pub taken_within : (ks : List Pair) (n : ℕ) → taken_case i s x ks ≡ Some n → n < length ks
  taken_within [] n h = absurd (cc)
  taken_within (j ∷ ks) n h = by (all_fit (tried i s x j.0)) (matches i s x j.0) h (λ l e. taken_within ks l e)
    where
      later : (o : Option ℕ) → option_map suc o ≡ Some n → taken_case i s x ks ≡ o → ((l : ℕ) → taken_case i s x ks ≡ Some l → l < length ks) → n < suc (length ks)
      later None e f r = absurd (cc)
      later (Some l) e f r = let z : suc l ≡ n = cc in let y : l < length ks = r l f in omega arith

      by : (b m : Bool) → cond b (cond m (Some 0) (option_map suc (taken_case i s x ks))) None ≡ Some n → ((l : ℕ) → taken_case i s x ks ≡ Some l → l < length ks) → n < suc (length ks)
      by true true e r = let z : ◌≡◌ {A = ℕ} 0 n = cc in omega arith
      by true false e r = later (taken_case i s x ks) e refl r
      by false m e r = absurd (cc)

  -- ---- numbers that leave, and no match

  pub leaving_numbers : (ks : List Pair) (n : ℕ) → leaving_case i s x ks ≡ Some n → all_fit (tried_to_match i s x ks) ≡ false
  leaving_numbers [] n h = absurd (cc)
  leaving_numbers (j ∷ ks) n h = by (all_fit (tried i s x j.0)) (matches i s x j.0) refl refl h (λ l e. leaving_numbers ks l e)
    where
      last_false : (b : Bool) → b && false ≡ false
      last_false true = refl
      last_false false = refl

      later : (o : Option ℕ) → option_map suc o ≡ Some n → leaving_case i s x ks ≡ o → ((l : ℕ) → leaving_case i s x ks ≡ Some l → all_fit (tried_to_match i s x ks) ≡ false) → all_fit (tried_to_match i s x ks) ≡ false
      later None e f r = absurd (cc)
      later (Some l) e f r = r l f

      by : (b m : Bool) → all_fit (tried i s x j.0) ≡ b → matches i s x j.0 ≡ m → cond b (cond m None (option_map suc (leaving_case i s x ks))) (Some 0) ≡ Some n
          → ((l : ℕ) → leaving_case i s x ks ≡ Some l → all_fit (tried_to_match i s x ks) ≡ false) → all_fit (tried_to_match i s x (j ∷ ks)) ≡ false
      by true true b m e r = absurd (cc)
      by true false b m e r =
          ap (λ d. all_fit (tried i s x j.0 ++ cond d [] (tried_to_match i s x ks))) m
          ∙ (all_fit_append (tried i s x j.0) (tried_to_match i s x ks)
          ∙ (ap (λ d. all_fit (tried i s x j.0) && d) (later (leaving_case i s x ks) e refl r) ∙ last_false (all_fit (tried i s x j.0))))
      by false d b m e r =
          all_fit_append (tried i s x j.0) (cond (matches i s x j.0) [] (tried_to_match i s x ks)) ∙ ap (λ z. z && all_fit (cond (matches i s x j.0) [] (tried_to_match i s x ks))) b

  none_behind : (o : Option ℕ) → option_map suc o ≡ None → o ≡ None
  none_behind None e = refl
  none_behind (Some l) e = absurd (cc)

  pub untaken_so : (ks : List Pair) → taken_case i s x ks ≡ None → leaving_case i s x ks ≡ None → (first_match i s x ks ≡ None) × (all_fit (tried_to_match i s x ks) ≡ true)
  untaken_so [] h g = (refl, refl)
  untaken_so (j ∷ ks) h g = by (all_fit (tried i s x j.0)) (matches i s x j.0) refl refl h g (λ e f. untaken_so ks e f)
    where
      by : (b m : Bool) → all_fit (tried i s x j.0) ≡ b → matches i s x j.0 ≡ m → cond b (cond m (Some 0) (option_map suc (taken_case i s x ks))) None ≡ None
          → cond b (cond m None (option_map suc (leaving_case i s x ks))) (Some 0) ≡ None
          → (taken_case i s x ks ≡ None → leaving_case i s x ks ≡ None → (first_match i s x ks ≡ None) × (all_fit (tried_to_match i s x ks) ≡ true))
          → (first_match i s x (j ∷ ks) ≡ None) × (all_fit (tried_to_match i s x (j ∷ ks)) ≡ true)
      by true true b m e f r = absurd (cc)
      by true false b m e f r =
          let q = r (none_behind (taken_case i s x ks) e) (none_behind (leaving_case i s x ks) f) in (
            ap (λ d. cond d (Some j.1) (first_match i s x ks)) m ∙ q.0,
            ap (λ d. all_fit (tried i s x j.0 ++ cond d [] (tried_to_match i s x ks))) m
                ∙ (all_fit_append (tried i s x j.0) (tried_to_match i s x ks) ∙ (ap (λ d. d && all_fit (tried_to_match i s x ks)) b ∙ q.1)),
          )
      by false d b m e f r = absurd (cc)

-- ---- the cases of the code, one after another

rest_suc : (ks : List Pair) (n : ℕ) (k : Pair) → slice_get ks n ≡ Some k → drop n ks ≡ k ∷ drop (suc n) ks
rest_suc [] n k e = absurd (cc)
rest_suc (j ∷ ks) zero k e = let h : j ≡ k = cc in ap (λ x. x ∷ ks) h
rest_suc (j ∷ ks) (suc n) k e = rest_suc ks n k e

rest_from : (ks : List Pair) (n : ℕ) (k : Pair) → slice_get ks n ≡ Some k → drop n ks ≡ k ∷ drop (n + 1) ks
rest_from ks n k e = rw add-one (rest_suc ks n k e)

-- so many further on
abbrev pub further : ℕ → Option ℕ → Option ℕ
further n None = None
further n (Some m) = Some (n + m)

further_on : (n : ℕ) (o : Option ℕ) → further n (option_map suc o) ≡ further (n + 1) o
further_on n None = refl
further_on n (Some m) = let e : n + suc m ≡ (n + 1) + m = omega arith in ap (λ l. let o : Option ℕ = Some l in o) e

pub further_none : (o : Option ℕ) → further 0 o ≡ o
further_none None = refl
further_none (Some m) = let e : 0 + m ≡ m = omega arith in ap (λ l. let o : Option ℕ = Some l in o) e

fault_false : (b m : Bool) (f : SemFault) → Err f ≡ cond b (Ok m) (Err Leaves128) → b ≡ false
fault_false true m f h = absurd (cc)
fault_false false m f h = refl

module _ (i : Interval) (s : StateMaps) (x : Input) (ks : List Pair) (n : ℕ) (k : Pair) (e : slice_get ks n ≡ Some k) where
  at_rest : {A : Type 0} (F : List Pair → A) → F (drop n ks) ≡ F (k ∷ drop (n + 1) ks)
  at_rest F = ap F (rest_from ks n k e)

  pub taken_past : Ok false ≡ within (tried i s x k.0) (matches i s x k.0) → further n (taken_case i s x (drop n ks)) ≡ further (n + 1) (taken_case i s x (drop (n + 1) ks))
  taken_past q =
      let w = within_ok _ _ _ q in
      let rest = taken_case i s x (drop (n + 1) ks) in
      at_rest (λ ys. further n (taken_case i s x ys))
      ∙ (ap (λ b. further n (cond b (cond (matches i s x k.0) (Some 0) (option_map suc rest)) None)) w.0
      ∙ (ap (λ m. further n (cond m (Some 0) (option_map suc rest))) (sym w.1) ∙ further_on n rest))

  pub leaving_past : Ok false ≡ within (tried i s x k.0) (matches i s x k.0) → further n (leaving_case i s x (drop n ks)) ≡ further (n + 1) (leaving_case i s x (drop (n + 1) ks))
  leaving_past q =
      let w = within_ok _ _ _ q in
      let rest = leaving_case i s x (drop (n + 1) ks) in
      at_rest (λ ys. further n (leaving_case i s x ys))
      ∙ (ap (λ b. further n (cond b (cond (matches i s x k.0) None (option_map suc rest)) (Some 0))) w.0
      ∙ (ap (λ m. further n (cond m None (option_map suc rest))) (sym w.1) ∙ further_on n rest))

  pub taken_here : Ok true ≡ within (tried i s x k.0) (matches i s x k.0) → taken_case i s x ks ≡ further n (taken_case i s x (drop n ks)) → taken_case i s x ks ≡ Some n
  taken_here q g =
      let w = within_ok _ _ _ q in
      let rest = taken_case i s x (drop (n + 1) ks) in
      let z : n + 0 ≡ n = omega arith in
      g
      ∙ (at_rest (λ ys. further n (taken_case i s x ys))
      ∙ (ap (λ b. further n (cond b (cond (matches i s x k.0) (Some 0) (option_map suc rest)) None)) w.0
      ∙ (ap (λ m. further n (cond m (Some 0) (option_map suc rest))) (sym w.1) ∙ ap (λ l. let o : Option ℕ = Some l in o) z)))

  pub leaving_here : (f : SemFault) → Err f ≡ within (tried i s x k.0) (matches i s x k.0) → leaving_case i s x ks ≡ further n (leaving_case i s x (drop n ks)) → leaving_case i s x ks ≡ Some n
  leaving_here f q g =
      let rest = leaving_case i s x (drop (n + 1) ks) in
      let z : n + 0 ≡ n = omega arith in
      g
      ∙ (at_rest (λ ys. further n (leaving_case i s x ys))
      ∙ (ap (λ b. further n (cond b (cond (matches i s x k.0) None (option_map suc rest)) (Some 0))) (fault_false (all_fit (tried i s x k.0)) (matches i s x k.0) f q)
      ∙ ap (λ l. let o : Option ℕ = Some l in o) z))

pub taken_none : (i : Interval) (s : StateMaps) (x : Input) (ks : List Pair) (n : ℕ) → length ks ≤ n → taken_case i s x ks ≡ further n (taken_case i s x (drop n ks)) → taken_case i s x ks ≡ None
taken_none i s x ks n h g = g ∙ ap (λ ys. further n (taken_case i s x ys)) (drop_all n ks h)

pub leaving_none : (i : Interval) (s : StateMaps) (x : Input) (ks : List Pair) (n : ℕ) → length ks ≤ n → leaving_case i s x ks ≡ further n (leaving_case i s x (drop n ks)) → leaving_case i s x ks ≡ None
leaving_none i s x ks n h g = g ∙ ap (λ ys. further n (leaving_case i s x ys)) (drop_all n ks h)
