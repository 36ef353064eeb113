-- The cases of a When, one after another.
use Rattle.std.proofs.Common.{◌≡◌, ℕ, ◌+◌, ℤ, Bool, true, false, cond, ◌&&◌, List, [], ◌∷◌, drop, add-one, zero, suc, refl, sym, ap, ◌∙◌, arith, Ok, Err, Option, Some}
use Rattle.std.specs.Prelude.{slice_get}
use Rattle.contract.specs.declared.fault.SemFault.{SemFault}
use Rattle.contract.specs.declared.fault.SemFault.TheVariants.{Leaves128}
use Rattle.contract.specs.declared.input.Input.{Input}
use Rattle.contract.specs.declared.interval.Interval.{Interval}
use Rattle.contract.specs.States.States.{StateMaps}
use Rattle.contract.specs.Tree.{ActionTree, ContractTree}
use Rattle.evaluation.specs.Numbers.{all_fit, within}
use Rattle.semantics.specs.Applying.{matches, tried}
use Rattle.semantics.specs.Computed.{first_match, first_match_index, tried_to_match}
use Rattle.evaluation.proofs.Numbers.{all_fit_append, within_ok}

abbrev Pair : Type 0
Pair = ActionTree × ContractTree

rest_suc : (ks : List Pair) (n : ℕ) (k : Pair) → slice_get ks n ≡ Some k → drop n ks ≡ k ∷ drop (suc n) ks
rest_suc [] n k e = absurd (cc)
rest_suc (j ∷ ks) zero k e = let h : j ≡ k = cc in ap (λ x. x ∷ ks) h
rest_suc (j ∷ ks) (suc n) k e = rest_suc ks n k e

-- the rest from a place that stands
rest_from : (ks : List Pair) (n : ℕ) (k : Pair) → slice_get ks n ≡ Some k → drop n ks ≡ k ∷ drop (n + 1) ks
rest_from ks n k e = rw add-one (rest_suc ks n k e)

module _ (i : Interval) (s : StateMaps) (x : Input) (ks : List Pair) (n : ℕ) (k : Pair) (e : slice_get ks n ≡ Some k) where
  here : {A : Type 0} (F : List Pair → A) → F (drop n ks) ≡ F (k ∷ drop (n + 1) ks)
  here F = ap F (rest_from ks n k e)

  pub fits_past : Ok false ≡ within (tried i s x k.0) (matches i s x k.0) → all_fit (tried_to_match i s x (drop n ks)) ≡ all_fit (tried_to_match i s x (drop (n + 1) ks))
  fits_past q =
      let w = within_ok _ _ _ q in
      here (λ ys. all_fit (tried_to_match i s x ys)) ∙ (all_fit_append (tried i s x k.0) _ ∙ past (all_fit (tried i s x k.0)) (matches i s x k.0) (tried_to_match i s x (drop (n + 1) ks)) w.0 w.1)
    where
      past : (b m : Bool) (ns : List ℤ) → b ≡ true → false ≡ m → b && all_fit (cond m [] ns) ≡ all_fit ns
      past true true ns p r = absurd (cc)
      past true false ns p r = refl
      past false m ns p r = absurd (cc)

  pub first_past : Ok false ≡ within (tried i s x k.0) (matches i s x k.0) → first_match i s x (drop n ks) ≡ first_match i s x (drop (n + 1) ks)
  first_past q = let w = within_ok _ _ _ q in here (first_match i s x) ∙ ap (λ m. cond m (Some k.1) (first_match i s x (drop (n + 1) ks))) (sym w.1)

  pub found_here : (y : Option ContractTree) → Ok true ≡ within (tried i s x k.0) (matches i s x k.0) →
      all_fit (tried_to_match i s x ks) ≡ all_fit (tried_to_match i s x (drop n ks)) → y ≡ first_match i s x (drop n ks) →
      Ok (Some k.1) ≡ within (tried_to_match i s x ks) y
  found_here y q f g =
      let w = within_ok _ _ _ q in
      let all : all_fit (tried_to_match i s x ks) ≡ true =
      f ∙ (here (λ ys. all_fit (tried_to_match i s x ys)) ∙ (all_fit_append (tried i s x k.0) _ ∙ done (all_fit (tried i s x k.0)) (matches i s x k.0) (tried_to_match i s x (drop (n + 1) ks)) w.0 w.1)) in
      let that : y ≡ Some k.1 = g ∙ (here (first_match i s x) ∙ ap (λ m. cond m (Some k.1) (first_match i s x (drop (n + 1) ks))) (sym w.1)) in
      rw (all, that) refl
    where
      done : (b m : Bool) (ns : List ℤ) → b ≡ true → true ≡ m → b && all_fit (cond m [] ns) ≡ true
      done true true ns p r = refl
      done true false ns p r = absurd (cc)
      done false m ns p r = absurd (cc)

  pub fault_here : (f : SemFault) (b : Bool) (y : Option ContractTree) → Err f ≡ within (tried i s x k.0) (matches i s x k.0) → b ≡ all_fit (tried_to_match i s x (drop n ks)) → Err f ≡ cond b (Ok y) (Err Leaves128)
  fault_here f b y q r = bad (all_fit (tried i s x k.0)) _ b f y _ q (r ∙ (here (λ ys. all_fit (tried_to_match i s x ys)) ∙ all_fit_append (tried i s x k.0) _))
    where
      bad : (a d b : Bool) (f : SemFault) (y : Option ContractTree) (m : Bool) → Err f ≡ cond a (Ok m) (Err Leaves128) → b ≡ a && d → Err f ≡ cond b (Ok y) (Err Leaves128)
      bad true d b f y m q r = absurd (cc)
      bad false d b f y m q r = let g : f ≡ Leaves128 = cc in rw (r, g)

  -- the place of the first match, past this case
  pub place_past : Ok false ≡ within (tried i s x k.0) (matches i s x k.0) → first_match_index i s x ks ≡ n + first_match_index i s x (drop n ks) → first_match_index i s x ks ≡ (n + 1) + first_match_index i s x (drop (n + 1) ks)
  place_past q g =
      let w = within_ok _ _ _ q in
      let p : first_match_index i s x (drop n ks) ≡ suc (first_match_index i s x (drop (n + 1) ks)) = here (first_match_index i s x) ∙ ap (λ b. cond b 0 (suc (first_match_index i s x (drop (n + 1) ks)))) (sym w.1) in
      omega (arith, g, p)

  -- it is here
  pub place_here : Ok true ≡ within (tried i s x k.0) (matches i s x k.0) → first_match_index i s x ks ≡ n + first_match_index i s x (drop n ks) → first_match_index i s x ks ≡ n
  place_here q g =
      let w = within_ok _ _ _ q in
      let p : first_match_index i s x (drop n ks) ≡ 0 = here (first_match_index i s x) ∙ ap (λ b. cond b 0 (suc (first_match_index i s x (drop (n + 1) ks)))) (sym w.1) in
      omega (arith, g, p)
