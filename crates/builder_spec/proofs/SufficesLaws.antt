-- When outputs suffice: with more of them, they still do.
use Rattle.std.proofs.Common.{◌≡◌, ℕ, zero, suc, ◌≤◌, ℤ, pos, ◌+ℤ◌, ◌≤ℤ◌, int_lt, Bool, true, false, not, ◌&&◌, ◌||◌, if◌then◌else◌, List, [], ◌∷◌, ◌++◌, take, drop, map, filter, is_none, Option, Some, None, refl, sym, ap, subst, arith}
use Rattle.std.proofs.lemmas.Int.{ints}
use Rattle.std.specs.List.{list_all, list_any}
use Rattle.std.specs.Ordering.{is_lt}
use Rattle.contract.specs.Names.declared.token.Token.{Token}
use Rattle.contract.specs.Names.Orders.{token_cmp}
use Rattle.ledger.specs.Bundle.Bundles.{Amounts, amount_of}
use Rattle.ledger.specs.Bundle.Totals.{total_of}
use Rattle.ledger.specs.Eutxo.Differing.{lesser, least}
use Rattle.ledger.specs.declared.look.Unspent.{Unspent}
use Rattle.builder_spec.specs.Holding.{amount_in, holds_token, wanted, lacks, least_lacking, AreBundles}
use Rattle.builder_spec.specs.Fronts.{suffices, front}
use Rattle.builder_spec.proofs.HoldingLaws.{total_of-append, total_of-natural}
use Rattle.builder_spec.proofs.FrontsLaws.{shortest_passes}

pub and_so : (a b : Bool) → a && b ≡ true → (a ≡ true) × (b ≡ true)
and_so true b h = (refl, h)
and_so false b h = absurd (cc)

pub and_true : (a b : Bool) → a ≡ true → b ≡ true → a && b ≡ true
and_true a b h k = rw h k

-- ---- the least of some tokens

lesser_some : (t : Token) (o : Option Token) → is_none (lesser t o) ≡ false
lesser_some t None = refl
lesser_some t (Some u) = elim (is_lt (token_cmp u t)) as (λ b. is_none (if b then Some u else Some t) ≡ false) [ true ↦ refl | false ↦ refl ]

not_true : (b : Bool) → b ≡ false → b ≡ true → ⊥
not_true b h k = cc

-- there is a least where there is any
pub none_least : (p : Token → Bool) (ts : List Token) → is_none (least (filter p ts)) ≡ true → list_all (λ t. not (p t)) ts ≡ true
none_least p [] h = refl
none_least p (t ∷ ts) h = by (p t) refl (none_least p ts) h
  where
    by : (b : Bool) → p t ≡ b → (is_none (least (filter p ts)) ≡ true → list_all (λ u. not (p u)) ts ≡ true) → is_none (least (if b then t ∷ filter p ts else filter p ts)) ≡ true → not (p t) && list_all (λ u. not (p u)) ts ≡ true
    by true q f k = absurd (not_true _ (lesser_some t (least (filter p ts))) k)
    by false q f k = and_true (not (p t)) _ (ap not q) (f k)

least_none : (p : Token → Bool) (ts : List Token) → list_all (λ t. not (p t)) ts ≡ true → is_none (least (filter p ts)) ≡ true
least_none p [] h = refl
least_none p (t ∷ ts) h =
    let k = and_so (not (p t)) (list_all (λ u. not (p u)) ts) h in
    by (p t) k.0 (least_none p ts k.1)
  where
    by : (b : Bool) → not b ≡ true → is_none (least (filter p ts)) ≡ true → is_none (least (if b then t ∷ filter p ts else filter p ts)) ≡ true
    by true q f = absurd (cc)
    by false q f = f

all_weaker : (p q : Token → Bool) (ts : List Token) → ((t : Token) → p t ≡ true → q t ≡ true) → list_all p ts ≡ true → list_all q ts ≡ true
all_weaker p q [] f h = refl
all_weaker p q (t ∷ ts) f h =
    let k = and_so (p t) (list_all p ts) h in
    and_true (q t) (list_all q ts) (f t k.0) (all_weaker p q ts f k.1)

-- ---- more outputs

any_more : {A : Type 0} (p : A → Bool) (xs ys : List A) → list_any p xs ≡ true → list_any p (xs ++ ys) ≡ true
any_more p [] ys h = absurd (cc)
any_more p (x ∷ xs) ys h = by (p x) (any_more p xs ys) h
  where
    by : (b : Bool) → (list_any p xs ≡ true → list_any p (xs ++ ys) ≡ true) → b || list_any p xs ≡ true → b || list_any p (xs ++ ys) ≡ true
    by true f k = refl
    by false f k = f k

held_more : (us vs : List Unspent) (t : Token) → holds_token us t ≡ true → holds_token (us ++ vs) t ≡ true
held_more us vs t h = any_more (λ u. int_lt (pos 0) (amount_of (amount_in u) t)) us vs h

still_enough : (a b w : ℤ) → pos 0 ≤ℤ b → not (int_lt a w) ≡ true → not (int_lt (a +ℤ b) w) ≡ true
still_enough a b w h k = grind (arith, ints)

covered_more : (ns : List (Token × ℤ)) (us vs : List Unspent) (t : Token) → AreBundles amount_in vs → not (lacks ns us t) ≡ true → not (lacks ns (us ++ vs) t) ≡ true
covered_more ns us vs t p h =
    subst (λ n. not (int_lt n (wanted ns t)) ≡ true) (sym (total_of-append amount_in t us vs))
    (still_enough (total_of amount_in t us) (total_of amount_in t vs) (wanted ns t) (total_of-natural amount_in t vs p) h)

-- outputs that suffice do so with others
pub suffices_with : (roles : List Token) (ns : List (Token × ℤ)) (us vs : List Unspent) → AreBundles amount_in vs → suffices roles ns us ≡ true → suffices roles ns (us ++ vs) ≡ true
suffices_with roles ns us vs p h =
    let k = and_so (list_all (holds_token us) roles) (is_none (least_lacking ns us)) h in
    let ts = map (λ (n : Token × ℤ). n.0) ns in
    and_true (list_all (holds_token (us ++ vs)) roles) (is_none (least_lacking ns (us ++ vs)))
    (all_weaker (holds_token us) (holds_token (us ++ vs)) roles (λ t. held_more us vs t) k.0)
    (least_none (lacks ns (us ++ vs)) ts (all_weaker (λ t. not (lacks ns us t)) (λ t. not (lacks ns (us ++ vs) t)) ts (λ t. covered_more ns us vs t p) (none_least (lacks ns us) ts k.1)))

pub bundles_take : {A : Type 0} (w : A → Amounts) (n : ℕ) (xs : List A) → AreBundles w xs → AreBundles w (take n xs)
bundles_take w zero xs h = tt
bundles_take w (suc n) [] h = tt
bundles_take w (suc n) (x ∷ xs) h = (h.0, bundles_take w n xs h.1)

bundles_drop : {A : Type 0} (w : A → Amounts) (n : ℕ) (xs : List A) → AreBundles w xs → AreBundles w (drop n xs)
bundles_drop w zero xs h = h
bundles_drop w (suc n) [] h = tt
bundles_drop w (suc n) (x ∷ xs) h = bundles_drop w n xs h.1

-- a longer beginning is a shorter one and more
longer : {A : Type 0} (k n : ℕ) (xs : List A) → k ≤ n → take k xs ++ drop k (take n xs) ≡ take n xs
longer zero n xs l = refl
longer (suc k) zero xs l = absurd (omega (arith, l))
longer (suc k) (suc n) [] l = refl
longer (suc k) (suc n) (x ∷ xs) l = ap (λ ys. x ∷ ys) (longer k n xs (omega (arith, l)))

-- a beginning that is longer than one that suffices does
pub suffices_longer : (roles : List Token) (ns : List (Token × ℤ)) (us : List Unspent) (k n : ℕ) → AreBundles amount_in us → k ≤ n → suffices roles ns (take k us) ≡ true → suffices roles ns (take n us) ≡ true
suffices_longer roles ns us k n p l h =
    subst (λ vs. suffices roles ns vs ≡ true) (longer k n us l)
    (suffices_with roles ns (take k us) (drop k (take n us)) (bundles_drop amount_in k (take n us) (bundles_take amount_in n us p)) h)

-- where all that is offered suffices, the front does
pub front_suffices : (roles : List Token) (ns : List (Token × ℤ)) (us : List Unspent) → suffices roles ns us ≡ true → suffices roles ns (front roles ns us) ≡ true
front_suffices roles ns us h = shortest_passes (suffices roles ns) us h
