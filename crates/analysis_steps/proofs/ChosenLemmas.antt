-- Numbers of a choice that no earlier case takes.
use Rattle.std.proofs.Common.{◌≡◌, ℕ, zero, suc, ◌+◌, ◌<◌, ◌≤◌, ℤ, pos, negsuc, neg_ℤ, FitsSigned, ◌^◌, ◌≤ℤ◌, ◌<ℤ◌, int_le, Bool, true, false, cond, ◌&&◌, ◌||◌, List, [], ◌∷◌, ◌++◌, length, get_or, take, drop, All, ◌⊎◌, inl, inr, refl, sym, ap, ◌∙◌, subst, append_assoc, arith, Option, Some, None, IfSome}
use Rattle.std.proofs.lemmas.Int.{ints}
use Rattle.std.proofs.lemmas.List.Elements.{All-nil, All-cons, All-weaker, All-drop, All-more, recursion_from_All}
use Rattle.std.proofs.lemmas.List.{take_all, take_more}
use Rattle.std.specs.Int.{w128, int_min, int_max}
use Rattle.std.specs.List.{list_any, AllByRecursion}
use Rattle.std.specs.Ordering.{eq_by_cmp, bool_cmp}
use Rattle.std.specs.declared.cmp.Ordering.TheVariants.{Equal}
use Rattle.std.specs.FinMap.Entries.{find}
use Rattle.std.specs.FinMap.{get, insert, get-insert}
use Rattle.claims.specs.declared.claim.Claim.{Claim}
use Rattle.claims.specs.Claims.{takes, owner, IsLane}
use Rattle.contract.specs.Names.declared.bound.Bound.{Bound}
use Rattle.contract.specs.Names.Equal.{same_choice_id}
use Rattle.contract.specs.Names.declared.choice_id.ChoiceId.{ChoiceId}
use Rattle.contract.specs.Names.Orders.{choice_id_cmp}
use Rattle.contract.specs.Names.Totals.{choice_id_total}
use Rattle.contract.specs.declared.input.Input.TheVariants.{Choice}
use Rattle.contract.specs.declared.interval.Interval.{Interval}
use Rattle.contract.specs.declared.payment.Payment.{Payment}
use Rattle.contract.specs.declared.tree.Case.{Case}
use Rattle.contract.specs.Tree.{ActionTree, action_tree}
use Rattle.contract.specs.States.States.{StateMaps}
use Rattle.semantics.specs.Applying.{in_bound, matches}
use Rattle.linear.specs.Linear.{Linear, Valuation, number_at}
use Rattle.symbols.specs.Held.{GivesAny}
use Rattle.linear.proofs.NumberLaws.{both, true_le}
use Rattle.analysis_walk.specs.Limits.{Scope, any_runs, written_runs, Allowed}
use Rattle.analysis_walk.specs.Covered.{NoneTakes}
use Rattle.analysis_walk.specs.Conclusions.{ChoosesSo}
use Rattle.analysis_walk.specs.Knowledge.{actions_behind, actions_before}
use Rattle.analysis_values.specs.Known.{View, Known, IsSeen, IsDescribed, known}
use Rattle.analysis_values.proofs.KnownLaws.{fits_between}
use Rattle.analysis_steps.specs.Chosen.{IsIn, HasActions, IsFromTo, IsWithin, IsHull, IsHullOfClaims, IsPassed, IsEndOf, IsChosen, Owns, IsUnclaimed, ClaimsOutside, claim_of, claims_of, is_lane}
use Rattle.analysis_steps.proofs.AmountLemmas.{min_left, min_right, max_left, max_right}
use Rattle.analysis_steps.proofs.ConcludedLemmas.{entry_at, entry_allowed}
use Rattle.analysis_steps.proofs.MovedLemmas.{described_on}

reach : (a b c : ℤ) → a ≤ℤ b → b ≤ℤ c → a ≤ℤ c
reach a b c h k = omega (arith, ints)

-- ---- bounds

in_bound_is : (n : ℤ) (b : Bound) → in_bound n b ≡ true → IsFromTo b n
in_bound_is n b h = let q = both (int_le b.from n) (int_le n b.to) h in (true_le b.from n q.0, true_le n b.to q.1)

empty_bound : (a b n : ℤ) → b <ℤ a → a ≤ℤ n → n ≤ℤ b → ⊥
empty_bound a b n h k l = omega (arith, ints)

pub wider_none : (o : Option Bound) (b : Bound) (n : ℤ) → b.to <ℤ b.from → IsWithin o n ⊎ (in_bound n b ≡ true) → IsWithin o n
wider_none o b n h (inl k) = k
wider_none o b n h (inr k) = let q = in_bound_is n b k in absurd (empty_bound b.from b.to n h q.0 q.1)

pub wider_first : (b : Bound) (n : ℤ) → IsWithin None n ⊎ (in_bound n b ≡ true) → IsWithin (Some b) n
wider_first b n (inl k) = absurd k
wider_first b n (inr k) = in_bound_is n b k

pub wider_both : (a b c : Bound) (n : ℤ) → c.from ≡ int_min a.from b.from → c.to ≡ int_max a.to b.to → IsWithin (Some a) n ⊎ (in_bound n b ≡ true) → IsWithin (Some c) n
wider_both a b c n e f (inl k) = (
  subst (λ z. z ≤ℤ n) (sym e) (reach (int_min a.from b.from) a.from n (min_left a.from b.from) k.0),
  subst (λ z. n ≤ℤ z) (sym f) (reach n a.to (int_max a.to b.to) k.1 (max_left a.to b.to)),
)
wider_both a b c n e f (inr k) =
    let q = in_bound_is n b k in (
      subst (λ z. z ≤ℤ n) (sym e) (reach (int_min a.from b.from) b.from n (min_right a.from b.from) q.0),
      subst (λ z. n ≤ℤ z) (sym f) (reach n b.to (int_max a.to b.to) q.1 (max_right a.to b.to)),
    )

-- the range has a number, where it is within the bound
abbrev Has : ℤ → Option Bound → Bound → Type 0
Has n o b = in_bound n b ≡ true → IsWithin o n

-- it has those of each bound before a place
abbrev pub IsHullBefore : List Bound → ℕ → Option Bound → Type 0
IsHullBefore bs m o = (n : ℤ) → All (Has n o) (take m bs)

pub hull_none : (bs : List Bound) → IsHullBefore bs 0 None
hull_none bs n = All-nil (Has n None)

pub hull_on : (bs : List Bound) (m : ℕ) (d : Bound) (o p : Option Bound) → m < length bs → IsHullBefore bs m o → ((n : ℤ) → IsWithin o n ⊎ (in_bound n (get_or bs m d) ≡ true) → IsWithin p n) → IsHullBefore bs (m + 1) p
hull_on bs m d o p l h w n = All-more (Has n p) bs m d l (All-weaker (Has n o) (Has n p) (λ b f e. w n (inl (f e))) (take m bs) (h n)) (λ e. w n (inr e))

any_all : (n : ℤ) (o : Option Bound) (bs : List Bound) → AllByRecursion (Has n o) bs → list_any (in_bound n) bs ≡ true → IsWithin o n
any_all n o [] h k = absurd (cc)
any_all n o (b ∷ bs) h k = by_test (in_bound n b) refl (any_all n o bs h.1) k
  where
    by_test : (t : Bool) → in_bound n b ≡ t → (list_any (in_bound n) bs ≡ true → IsWithin o n) → t || list_any (in_bound n) bs ≡ true → IsWithin o n
    by_test true e go f = h.0 e
    by_test false e go f = go f

pub hull_all : (bs : List Bound) (m : ℕ) (o : Option Bound) → length bs ≤ m → IsHullBefore bs m o → IsHull bs o
hull_all bs m o l h n = any_all n o bs (recursion_from_All (Has n o) bs (subst (All (Has n o)) (take_all m bs l) (h n)))

or_neither : (a b : Bool) → a || b ≡ false → (a ≡ false) × (b ≡ false)
or_neither true b h = absurd (cc)
or_neither false b h = (refl, h)

pub outside_at : (p : Bound → Bool) (bs : List Bound) (i : ℕ) (d : Bound) → list_any p bs ≡ false → i < length bs → p (get_or bs i d) ≡ false
outside_at p [] i d h l = absurd (omega arith)
outside_at p (c ∷ bs) zero d h l = (or_neither (p c) (list_any p bs) h).0
outside_at p (c ∷ bs) (suc i) d h l = outside_at p bs i d (or_neither (p c) (list_any p bs) h).1 (omega arith)

pub ends_at : (ks ls : List Case) (n : ℕ) → ls ≡ drop n ks → IsEndOf ks ls
ends_at ks ls n e = (n, e)

pub and_right : (a b : Bool) → a ≡ true → a && b ≡ false → b ≡ false
and_right true b e h = h
and_right false b e h = absurd (cc)

-- ---- claims

lane_one : (a b : Bool) → is_lane a ≡ true → is_lane b ≡ true → bool_cmp a b ≡ Equal
lane_one true true h k = refl
lane_one true false h k = absurd (cc)
lane_one false b h k = absurd (cc)

lane_whole : (a b : Bool) → bool_cmp a b ≡ Equal → is_lane a ≡ is_lane b
lane_whole true true h = refl
lane_whole true false h = absurd (cc)
lane_whole false true h = absurd (cc)
lane_whole false false h = refl

pub one_lane : IsLane bool_cmp is_lane
one_lane = record { one = lane_one; whole = lane_whole }

claims_push : (m : ℕ) (bs : List Bound) (b : Bound) → claims_of m (bs ++ b ∷ []) ≡ claims_of m bs ++ claim_of m b ∷ []
claims_push m [] b = refl
claims_push m (c ∷ bs) b = ap (λ z. claim_of m c ∷ z) (claims_push m bs b)

pub claims_bound : (m : ℕ) (bs : List Bound) (i : ℕ) (d : Bound) (first before after : List (Claim Bool)) → i < length bs → after ≡ before ++ claim_of m (get_or bs i d) ∷ []
    → before ≡ first ++ claims_of m (take i bs) → after ≡ first ++ claims_of m (take (i + 1) bs)
claims_bound m bs i d first before after h a q =
    a ∙ (ap (λ z. z ++ claim_of m (get_or bs i d) ∷ []) q
    ∙ (append_assoc first (claims_of m (take i bs)) (claim_of m (get_or bs i d) ∷ [])
    ∙ (ap (λ z. first ++ z) (sym (claims_push m (take i bs) (get_or bs i d))) ∙ ap (λ z. first ++ claims_of m z) (sym (take_more bs i d h)))))

pub claims_all : (m : ℕ) (bs : List Bound) (i : ℕ) (first before : List (Claim Bool)) → length bs ≤ i → before ≡ first ++ claims_of m (take i bs) → before ≡ first ++ claims_of m bs
claims_all m bs i first before h q = q ∙ ap (λ z. first ++ claims_of m z) (take_all i bs h)

-- what nobody has of the first claims is had as by the others alone
behind : (n : ℤ) (cs ds : List (Claim Bool)) → IsUnclaimed n cs → owner is_lane n (cs ++ ds) ≡ owner is_lane n ds
behind n [] ds h = refl
behind n (c ∷ cs) ds h = by_test (takes is_lane n c) (behind n cs ds) h
  where
    by_test : (t : Bool) → (IsUnclaimed n cs → owner is_lane n (cs ++ ds) ≡ owner is_lane n ds) → cond t (Some c.by) (owner is_lane n cs) ≡ None
        → cond t (Some c.by) (owner is_lane n (cs ++ ds)) ≡ owner is_lane n ds
    by_test true go f = absurd (cc)
    by_test false go f = go f

outside : (n : ℤ) (m : ℕ) (bs : List Bound) → list_any (in_bound n) bs ≡ false → IsUnclaimed n (claims_of m bs)
outside n m [] h = refl
outside n m (b ∷ bs) h =
    let q = or_neither (in_bound n b) (list_any (in_bound n) bs) h in
    ap (λ t. cond t (Some m) (owner is_lane n (claims_of m bs))) q.0 ∙ outside n m bs q.1

inside : (n : ℤ) (m : ℕ) (bs : List Bound) → list_any (in_bound n) bs ≡ true → owner is_lane n (claims_of m bs) ≡ Some m
inside n m [] h = absurd (cc)
inside n m (b ∷ bs) h = by_test (in_bound n b) (inside n m bs) h
  where
    by_test : (t : Bool) → (list_any (in_bound n) bs ≡ true → owner is_lane n (claims_of m bs) ≡ Some m) → t || list_any (in_bound n) bs ≡ true → cond t (Some m) (owner is_lane n (claims_of m bs)) ≡ Some m
    by_test true go f = refl
    by_test false go f = go f

pub unclaimed_on : (id of : ChoiceId) (bs : List Bound) (old new : List (Claim Bool)) → same_choice_id id of ≡ true → new ≡ old ++ claims_of 0 bs → ClaimsOutside id of bs old new
unclaimed_on id of bs old new e q n h k =
    ap (owner is_lane n) q ∙ behind n old (claims_of 0 bs) k ∙ outside n 0 bs (and_right (same_choice_id id of) (list_any (in_bound n) bs) e h)

pub owned_by_bounds : (n : ℤ) (bs : List Bound) (old new : List (Claim Bool)) → new ≡ old ++ claims_of 1 bs → IsUnclaimed n old → list_any (in_bound n) bs ≡ true → owner is_lane n new ≡ Some 1
owned_by_bounds n bs old new q k h = ap (owner is_lane n) q ∙ behind n old (claims_of 1 bs) k ∙ inside n 1 bs h

pub not_owned : (n : ℤ) (o : Option Bound) (c : Claim Bool) → (c.by ≡ 1 → ⊥) → IsWithin o n ⊎ Owns n c → IsWithin o n
not_owned n o c h (inl k) = k
not_owned n o c h (inr k) = absurd (h k.0)

pub owned : (n : ℤ) (o : Option Bound) (c : Claim Bool) (b : Bound) → b.from ≡ c.from → b.to ≡ c.to → IsWithin o n ⊎ Owns n c → IsWithin o n ⊎ (in_bound n b ≡ true)
owned n o c b e f (inl k) = inl k
owned n o c b e f (inr k) = inr (ap (λ x. int_le x n && int_le n b.to) e ∙ ap (λ y. int_le c.from n && int_le n y) f ∙ of_lane c.lane (int_le c.from n && int_le n c.to) k.1)
  where
    of_lane : (a t : Bool) → a && t ≡ true → t ≡ true
    of_lane true t g = g
    of_lane false t g = absurd (cc)

-- the range has a number, where the claim has it for the bounds
abbrev Keeps : ℤ → Option Bound → Claim Bool → Type 0
Keeps n o c = Owns n c → IsWithin o n

-- .. of each claim before a place
abbrev pub IsClaimedBefore : List (Claim Bool) → ℕ → Option Bound → Type 0
IsClaimedBefore cs m o = (n : ℤ) → All (Keeps n o) (take m cs)

pub claimed_none : (cs : List (Claim Bool)) → IsClaimedBefore cs 0 None
claimed_none cs n = All-nil (Keeps n None)

pub claimed_on : (cs : List (Claim Bool)) (m : ℕ) (d : Claim Bool) (o p : Option Bound) → m < length cs → IsClaimedBefore cs m o → ((n : ℤ) → IsWithin o n ⊎ Owns n (get_or cs m d) → IsWithin p n) → IsClaimedBefore cs (m + 1) p
claimed_on cs m d o p l h w n = All-more (Keeps n p) cs m d l (All-weaker (Keeps n o) (Keeps n p) (λ c f e. w n (inl (f e))) (take m cs) (h n)) (λ e. w n (inr e))

any_claimed : (n : ℤ) (o : Option Bound) (cs : List (Claim Bool)) → AllByRecursion (Keeps n o) cs → owner is_lane n cs ≡ Some 1 → IsWithin o n
any_claimed n o [] h k = absurd (cc)
any_claimed n o (c ∷ cs) h k = by_test (takes is_lane n c) refl (any_claimed n o cs h.1) k
  where
    by_test : (t : Bool) → takes is_lane n c ≡ t → (owner is_lane n cs ≡ Some 1 → IsWithin o n) → cond t (Some c.by) (owner is_lane n cs) ≡ Some 1 → IsWithin o n
    by_test true e go f = let q : c.by ≡ 1 = cc in h.0 (q, e)
    by_test false e go f = go f

pub claimed_all : (cs : List (Claim Bool)) (m : ℕ) (o : Option Bound) → length cs ≤ m → IsClaimedBefore cs m o → IsHullOfClaims cs o
claimed_all cs m o l h n = any_claimed n o cs (recursion_from_All (Keeps n o) cs (subst (All (Keeps n o)) (take_all m cs l) (h n)))

-- ---- cases

-- no case takes it where none of these actions does
pub passed_at : (i : Interval) (s : StateMaps) (id : ChoiceId) (n : ℤ) (k : Case) (es : List ActionTree) → NoneTakes i s (Choice id n) es → IsIn es (action_tree k.action) → IsPassed id n k
passed_at i s id n k [] h g = absurd g
passed_at i s id n k (e ∷ es) h (inl g) = (i, s, ap (matches i s (Choice id n)) g ∙ h.0)
passed_at i s id n k (e ∷ es) h (inr g) = passed_at i s id n k es h.1 g

-- ---- the number that is chosen

no_more : (m : ℕ) → neg_ℤ (pos m) ≤ℤ pos 0
no_more m = omega (arith, ints)

no_less : (n : ℕ) → pos 0 ≤ℤ pos n
no_less n = omega (arith, ints)

above_opposite : (m n : ℕ) → n < m → neg_ℤ (pos m) ≤ℤ negsuc n
above_opposite m n h = omega (arith, ints)

below_natural : (m n : ℕ) → n < m → pos n <ℤ pos m
below_natural m n h = omega (arith, ints)

below_any : (m n : ℕ) → negsuc n <ℤ pos m
below_any m n = omega (arith, ints)

pub low_of : (n : ℤ) → FitsSigned w128 n → neg_ℤ (pos (2 ^ 127)) ≤ℤ n
low_of (pos n) h = reach (neg_ℤ (pos (2 ^ 127))) (pos 0) (pos n) (no_more (2 ^ 127)) (no_less n)
low_of (negsuc n) h = above_opposite (2 ^ 127) n h.sfits

pub high_of : (n : ℤ) → FitsSigned w128 n → n <ℤ pos (2 ^ 127)
high_of (pos n) h = below_natural (2 ^ 127) n h.sfits
high_of (negsuc n) h = below_any (2 ^ 127) n

less_first : (n b c : ℤ) → n ≤ℤ b → b <ℤ c → n <ℤ c
less_first n b c h k = omega (arith, ints)

allowed_between : (scope : Scope) (b : Bound) (n : ℤ) → neg_ℤ (pos (2 ^ 127)) ≤ℤ b.from → b.to <ℤ pos (2 ^ 127) → IsFromTo b n → Allowed scope n
allowed_between any_runs b n h k g = tt
allowed_between written_runs b n h k g = fits_between n (reach (neg_ℤ (pos (2 ^ 127))) b.from n h g.0) (less_first n b.to (pos (2 ^ 127)) g.1 k)

chosen_seen : (scope : Scope) (r : Valuation) (v : View) (i : Interval) (s : StateMaps) (ps : List Payment) (id : ChoiceId) (l : Linear) (n : ℤ) → IsSeen scope r v i s ps → n ≡ number_at r l → Allowed scope n
    → IsSeen scope r (record v { choices = (id, l) ∷ v.choices }) i (record s { choices = insert s.choices id n }) ps
chosen_seen scope r v i s ps id l n e f h = record {
  accounts = e.accounts;
  choices = λ x. get-insert choice_id_total s.choices id n x ∙ ap (cond (eq_by_cmp choice_id_cmp x id) (Some n)) (e.choices x) ∙ entry_at r (eq_by_cmp choice_id_cmp x id) n l (find choice_id_cmp x v.choices) f;
  bound = e.bound;
  paid = e.paid;
  start = e.start;
  end = e.end;
  valid = e.valid;
  times = e.times;
  natural = e.natural;
  money = e.money;
  chosen = λ x. subst (λ o. IfSome o (Allowed scope)) (sym (get-insert choice_id_total s.choices id n x)) (entry_allowed (Allowed scope) (eq_by_cmp choice_id_cmp x id) n (get s.choices x) h (e.chosen x));
  values = e.values;
  from = e.from;
  to = e.to;
}

-- ---- the actions of earlier cases

still_in : (es : List ActionTree) (ks : List Case) (a : ActionTree) → IsIn es a → IsIn (actions_behind es ks) a
still_in es [] a h = h
still_in es (k ∷ ks) a h = still_in (action_tree k.action ∷ es) ks a (inr h)

all_in : (es : List ActionTree) (ks : List Case) → HasActions (actions_behind es ks) ks
all_in es [] = All-nil (λ (k : Case). IsIn es (action_tree k.action))
all_in es (k ∷ ks) =
    let all = actions_behind es (k ∷ ks) in
    All-cons (λ (c : Case). IsIn all (action_tree c.action)) k ks (still_in (action_tree k.action ∷ es) ks (action_tree k.action) (inl refl)) (all_in (action_tree k.action ∷ es) ks)

pub has_actions : (ks : List Case) → HasActions (actions_before ks) ks
has_actions ks = all_in [] ks

-- ---- what is left

-- the numbers that are left
abbrev pub IsLeft : List Case → ChoiceId → List Bound → Option Bound → Type 0
IsLeft earlier id bounds o = (n : ℤ) → All (IsPassed id n) earlier → list_any (in_bound n) bounds ≡ true → IsWithin o n

module _ (earlier : List Case) (es : List ActionTree) (id : ChoiceId) (bounds : List Bound) (known_in : HasActions es earlier) where
  all_passed : (i : Interval) (s : StateMaps) (n : ℤ) → NoneTakes i s (Choice id n) es → All (IsPassed id n) earlier
  all_passed i s n h = All-weaker (λ (k : Case). IsIn es (action_tree k.action)) (IsPassed id n) (λ k g. passed_at i s id n k es h g) earlier known_in

  pub chooses_none : (k : Known) → IsLeft earlier id bounds None → ChoosesSo IsDescribed k es id bounds (record { kinds = []; known = None })
  chooses_none k left scope i s ps n d z h = absurd (left n (all_passed i s n z) h)

  pub chooses_so : (k m : Known) (b : Bound) → IsLeft earlier id bounds (Some b) → IsChosen k id b m → ChoosesSo IsDescribed k es id bounds (record { kinds = []; known = Some m })
  chooses_so k m b left chosen scope i s ps n d z h = record { warned = tt; numbers = λ _. tt; known = λ _. chosen scope i s ps n d (left n (all_passed i s n z) h) }

pub chosen_by : (k w m : Known) (id : ChoiceId) (e : Linear) (b : Bound) → neg_ℤ (pos (2 ^ 127)) ≤ℤ b.from → b.to <ℤ pos (2 ^ 127) → GivesAny k.symbols w.symbols e (Some b.from) (Some b.to)
    → w.view ≡ k.view → m ≡ known w.symbols (record (w.view) { choices = (id, e) ∷ w.view.choices }) → IsChosen k id b m
chosen_by k w m id e b low high fresh same set scope i s ps n d q =
    let g = fresh d.numbers n d.closed d.valued q.0 q.1 in
    let f = described_on scope k i s ps d w e n same g in
    let c = f.below in
    subst (λ m. IsDescribed scope m i (record s { choices = insert s.choices id n }) ps) (sym set)
    (record {
      closed = g.closed;
      below = record { accounts = c.accounts; choices = (g.below, c.choices); bound = c.bound; paid = c.paid; start = c.start; end = c.end; times = c.times };
      numbers = g.values;
      valued = g.valued;
      seen = chosen_seen scope g.values w.view i s ps id e n f.seen g.number (allowed_between scope b n low high q);
    })

pub passed_of_end : (id : ChoiceId) (n : ℤ) (ks ls : List Case) → IsEndOf ks ls → All (IsPassed id n) ks → All (IsPassed id n) ls
passed_of_end id n ks ls e h = subst (All (IsPassed id n)) (sym e.1) (All-drop (IsPassed id n) e.0 ks h)
