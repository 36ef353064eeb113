-- How many alarms each is told for.
use Rattle.std.proofs.Common.{◌≡◌, ℕ, zero, suc, ◌+◌, ◌<◌, ◌≤◌, Bool, true, false, cond, List, [], ◌∷◌, ◌++◌, length, length-append, take, refl, sym, ap, ◌∙◌, subst, arith}
use Rattle.std.specs.Prelude.{◌==◌, All}
use Rattle.std.specs.List.{filter}
use Rattle.std.proofs.Math.ListN.{get_or, set}
use Rattle.std.proofs.lemmas.Bool.Decides.{Decides-eqb}
use Rattle.std.proofs.lemmas.List.{take_more, take_all, length-take-le, get_or_default, get_or-set_same, get_or-set_other}
use Rattle.std.proofs.lemmas.List.Elements.{filter-append, All-get_or, All-from_get_or}
use Rattle.contract.specs.Tree.{ContractTree}
use Rattle.alike_alarms.specs.Alike.{SeenAlarm, AreToldBy, count_of}
use Rattle.alike_alarms.specs.AlikeSupport.{CountUpTo, AreCounts}

-- ---- of a list with one item more

one_if : (t k : ℕ) (b : Bool) → b ≡ (t == k) → length (filter (λ u. u == k) (t ∷ [])) ≡ (cond b 1 0)
one_if t k true e = ap (λ (c : Bool). length (cond c (t ∷ []) [])) (sym e)
one_if t k false e = ap (λ (c : Bool). length (cond c (t ∷ []) [])) (sym e)

pub count_more : (ts : List ℕ) (t k : ℕ) (b : Bool) → b ≡ (t == k) → count_of (ts ++ t ∷ []) k ≡ count_of ts k + (cond b 1 0)
count_more ts t k b e =
    ap length (filter-append (λ u. u == k) ts (t ∷ [])) ∙ length-append (filter (λ u. u == k) ts) (filter (λ u. u == k) (t ∷ [])) ∙ ap (λ n. count_of ts k + n) (one_if t k b e)

one_few : (t k : ℕ) (ts : List ℕ) (b : Bool) → (t == k) ≡ b → count_of ts k ≤ length ts → count_of (t ∷ ts) k ≤ suc (length ts)
one_few t k ts true e h = subst (λ (c : Bool). length (cond c (t ∷ filter (λ u. u == k) ts) (filter (λ u. u == k) ts)) ≤ suc (length ts)) (sym e) (omega (arith, h))
one_few t k ts false e h = subst (λ (c : Bool). length (cond c (t ∷ filter (λ u. u == k) ts) (filter (λ u. u == k) ts)) ≤ suc (length ts)) (sym e) (omega (arith, h))

pub count_few : (ts : List ℕ) (k : ℕ) → count_of ts k ≤ length ts
count_few [] k = omega arith
count_few (t ∷ ts) k = one_few t k ts (t == k) refl (count_few ts k)

plus_none : (n : ℕ) → n ≡ n + 0
plus_none n = omega arith

-- ---- counts of a front

pub counted_more : (ts cs : List ℕ) (i t : ℕ) → i < length ts → t ≡ get_or ts i t → t < length cs → CountUpTo ts cs i → CountUpTo ts (set cs t (get_or cs t 0 + 1)) (i + 1)
counted_more ts cs i t l is there h = λ k few. by k few (t == k) refl
  where
    more : take (i + 1) ts ≡ take i ts ++ t ∷ []
    more = take_more ts i t l ∙ ap (λ (x : ℕ). take i ts ++ x ∷ []) (sym is)

    by : (k : ℕ) → k < length ts → (b : Bool) → (t == k) ≡ b → get_or (set cs t (get_or cs t 0 + 1)) k 0 ≡ count_of (take (i + 1) ts) k
    by k few true e =
        let q : t ≡ k = (Decides-eqb t k).0 e in
        subst (λ j. get_or (set cs t (get_or cs t 0 + 1)) j 0 ≡ count_of (take (i + 1) ts) j) q
        (get_or-set_same cs t (get_or cs t 0 + 1) 0 there
        ∙ ap (λ n. n + 1) (h t (subst (λ j. j < length ts) (sym q) few))
        ∙ sym (ap (λ (xs : List ℕ). count_of xs t) more ∙ count_more (take i ts) t t true (sym (ap (λ j. t == j) q ∙ e))))
    by k few false e =
        get_or-set_other cs t k (get_or cs t 0 + 1) 0 (λ (q : k ≡ t). absurd (let z : (t == k) ≡ true = (Decides-eqb t k).1 (sym q) in let w : true ≡ false = sym z ∙ e in cc))
        ∙ h k few
        ∙ plus_none (count_of (take i ts) k)
        ∙ sym (ap (λ (xs : List ℕ). count_of xs k) more ∙ count_more (take i ts) t k false (sym e))

-- ---- tellers are indexes

pub tellers_below : (c : ContractTree) (all : List SeenAlarm) (ts : List ℕ) → AreToldBy c all ts → All (λ t. t < length ts) ts
tellers_below c all ts h =
    All-from_get_or (λ t. t < length ts) ts 0 (λ i l.
    let x = (h.1 i (omega (arith, l, h.0))).there in
    subst (λ t. t < length ts) (get_or_default ts i i 0 l) (omega (arith, x, h.0)))

-- where all counts are 0, none is counted yet
pub counted_none : (ts cs : List ℕ) → ((k : ℕ) → get_or cs k 0 ≡ 0) → CountUpTo ts cs 0
counted_none ts cs h = λ k l. h k

pub counted_all : (ts cs : List ℕ) (n : ℕ) → length ts ≤ n → length cs ≡ length ts → CountUpTo ts cs n → AreCounts ts cs
counted_all ts cs n l e h = (e, λ k few. h k few ∙ ap (λ (xs : List ℕ). count_of xs k) (take_all n ts l))

-- no count is more than the items so far
pub count_small : (ts cs : List ℕ) (i t : ℕ) → i < length ts → t < length ts → CountUpTo ts cs i → get_or cs t 0 ≤ i
count_small ts cs i t l few h = omega (arith, h t few, count_few (take i ts) t, length-take-le i ts (omega (arith, l)))

-- one item more
module _ (ts cs : List ℕ) (i d : ℕ) (l : i < length ts) (below : All (λ t. t < length ts) ts) (e : length cs ≡ length ts) (h : CountUpTo ts cs i) where
  there : get_or ts i d < length ts
  there = All-get_or (λ t. t < length ts) ts i d l below

  pub counted_here : (get_or ts i d < length cs) × (get_or cs (get_or ts i d) 0 < length cs)
  counted_here = (omega (arith, there, e), omega (arith, count_small ts cs i (get_or ts i d) l there h, l, e))

  pub counted_step : (new : List ℕ) → new ≡ set cs (get_or ts i d) (get_or cs (get_or ts i d) 0 + 1) → (length new ≡ length ts) × CountUpTo ts new (i + 1)
  counted_step new is =
      let t = get_or ts i d in (
        ap length is ∙ length-set cs t (get_or cs t 0 + 1) ∙ e,
        subst (λ (xs : List ℕ). CountUpTo ts xs (i + 1)) (sym is) (counted_more ts cs i t l (get_or_default ts i d t l) (omega (arith, there, e)) h),
      )
    where
      length-set : (xs : List ℕ) (j y : ℕ) → length (set xs j y) ≡ length xs
      length-set [] j y = refl
      length-set (x ∷ xs) zero y = refl
      length-set (x ∷ xs) (suc j) y = ap suc (length-set xs j y)
