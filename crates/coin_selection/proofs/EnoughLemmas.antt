-- When nothing is needed any more, and which token is lacking.
use Rattle.std.proofs.Common.{◌≡◌, ℕ, ◌+◌, ◌<◌, ◌≤◌, ℤ, pos, ◌+ℤ◌, ◌-ℤ◌, ◌<ℤ◌, ◌≤ℤ◌, int_lt, Bool, true, false, cond, not, ◌||◌, if◌then◌else◌, List, [], ◌∷◌, map, filter, is_none, Option, Some, None, refl, sym, ◌∙◌, ap, subst, arith}
use Rattle.std.proofs.lemmas.Int.{ints}
use Rattle.std.proofs.lemmas.Bool.Decides.{nat_tests}
use Rattle.std.specs.Prelude.{is_some, nat_lt}
use Rattle.std.specs.List.{list_all, list_any}
use Rattle.std.specs.Ordering.{eq_by_cmp, is_eq, is_lt, ordering_reverse}
use Rattle.std.specs.Cmp.{tied_itself}
use Rattle.std.specs.declared.cmp.Ordering.{Ordering}
use Rattle.std.specs.declared.cmp.Ordering.TheVariants.{Less, Equal, Greater}
use Rattle.std.specs.FinMap.{get}
use Rattle.contract.specs.Names.declared.token.Token.{Token}
use Rattle.contract.specs.Names.Orders.{token_cmp}
use Rattle.contract.specs.Names.Totals.{token_total}
use Rattle.contract.proofs.FromNames.Exact.{token_exact}
use Rattle.builder_spec.specs.Bundle.Bundles.{Amounts, amount_of}
use Rattle.builder_spec.specs.Bundle.Totals.{total_of}
use Rattle.builder_spec.proofs.FromBundle.PositiveLaws.{amount_of-natural}
use Rattle.builder_spec.specs.Eutxo.Differing.{lesser, least}
use Rattle.builder_spec.specs.Ledger.declared.look.Unspent.{Unspent}
use Rattle.builder_spec.specs.Holding.{amount_in, holds_token, wanted, lacks, least_lacking, AreBundles}
use Rattle.builder_spec.specs.Fronts.{suffices}
use Rattle.builder_spec.proofs.HoldingLaws.{total_of-natural}
use Rattle.builder_spec.proofs.SufficesLaws.{and_so, and_true}
use Rattle.builder_spec.proofs.FundsLaws.{all_covered}
use Rattle.coin_selection.specs.RequiredSupport.{one_at_least, required_amount, lacking_amount, IsMissing}
use Rattle.coin_selection.proofs.RequiredLemmas.{lt_true, lt_false, true_lt, false_lt, some_above, not_above, none_above, same_test}

-- ---- tokens that are held

more : (a b : ℤ) → pos 0 <ℤ a → pos 0 ≤ℤ b → pos 0 <ℤ (a +ℤ b)
more a b h k = omega (arith, ints, h, k)

more_later : (a b : ℤ) → pos 0 ≤ℤ a → pos 0 <ℤ b → pos 0 <ℤ (a +ℤ b)
more_later a b h k = omega (arith, ints, h, k)

no_more : (a b : ℤ) → a ≤ℤ pos 0 → b ≤ℤ pos 0 → (a +ℤ b) ≤ℤ pos 0
no_more a b h k = omega (arith, ints, h, k)

held_some : (us : List Unspent) (t : Token) → AreBundles amount_in us → holds_token us t ≡ true → pos 0 <ℤ total_of amount_in t us
held_some [] t p h = absurd (cc)
held_some (u ∷ us) t p h = by (int_lt (pos 0) (amount_of (amount_in u) t)) refl (held_some us t p.1) h
  where
    by : (b : Bool) → int_lt (pos 0) (amount_of (amount_in u) t) ≡ b → (holds_token us t ≡ true → pos 0 <ℤ total_of amount_in t us) → b || holds_token us t ≡ true → pos 0 <ℤ (amount_of (amount_in u) t +ℤ total_of amount_in t us)
    by true e f k = more (amount_of (amount_in u) t) (total_of amount_in t us) (true_lt (pos 0) (amount_of (amount_in u) t) e) (total_of-natural amount_in t us p.1)
    by false e f k = more_later (amount_of (amount_in u) t) (total_of amount_in t us) (amount_of-natural (amount_in u) t p.0) (f k)

held_none : (us : List Unspent) (t : Token) → holds_token us t ≡ false → total_of amount_in t us ≤ℤ pos 0
held_none [] t h = omega (arith, ints)
held_none (u ∷ us) t h = by (int_lt (pos 0) (amount_of (amount_in u) t)) refl (held_none us t) h
  where
    by : (b : Bool) → int_lt (pos 0) (amount_of (amount_in u) t) ≡ b → (holds_token us t ≡ false → total_of amount_in t us ≤ℤ pos 0) → b || holds_token us t ≡ false → (amount_of (amount_in u) t +ℤ total_of amount_in t us) ≤ℤ pos 0
    by true e f k = absurd (cc)
    by false e f k = no_more (amount_of (amount_in u) t) (total_of amount_in t us) (false_lt (pos 0) (amount_of (amount_in u) t) e) (f k)

-- a token is held where all together hold some of it
pub held_is : (us : List Unspent) (t : Token) → AreBundles amount_in us → holds_token us t ≡ int_lt (pos 0) (total_of amount_in t us)
held_is us t p = by (holds_token us t) refl
  where
    by : (b : Bool) → holds_token us t ≡ b → b ≡ int_lt (pos 0) (total_of amount_in t us)
    by true e = sym (lt_true (pos 0) (total_of amount_in t us) (held_some us t p e))
    by false e = sym (lt_false (pos 0) (total_of amount_in t us) (held_none us t e))

-- ---- the least of some tokens

keep : (p : Token → Bool) (t : Token) (ts : List Token) (b : Bool) → p t ≡ b → filter p (t ∷ ts) ≡ (if b then t ∷ filter p ts else filter p ts)
keep p t ts b e = ap (λ c. if c then t ∷ filter p ts else filter p ts) e

pub least_none : (p : Token → Bool) (ts : List Token) → ((t : Token) → p t ≡ false) → least (filter p ts) ≡ None
least_none p [] f = refl
least_none p (t ∷ ts) f = ap least (keep p t ts false (f t)) ∙ least_none p ts f

abbrev value_or : Token → Option Token → Token
value_or d None = d
value_or d (Some t) = t

same_value : (t v : Token) → Some t ≡ Some v → t ≡ v
same_value t v e = ap (value_or t) e

least_passes : (p : Token → Bool) (ts : List Token) (v : Token) → least (filter p ts) ≡ Some v → p v ≡ true
least_passes p [] v h = absurd (cc)
least_passes p (t ∷ ts) v h = by (p t) refl (least_passes p ts v) (sym (ap least (keep p t ts (p t) refl)) ∙ h)
  where
    one : p t ≡ true → (least (filter p ts) ≡ Some v → p v ≡ true) → (w : Token) → least (filter p ts) ≡ Some w → (b : Bool) → (if b then Some w else Some t) ≡ Some v → p v ≡ true
    one q f w e true k = f (e ∙ k)
    one q f w e false k = subst (λ x. p x ≡ true) (same_value t v k) q

    of_lesser : p t ≡ true → (least (filter p ts) ≡ Some v → p v ≡ true) → (o : Option Token) → least (filter p ts) ≡ o → lesser t o ≡ Some v → p v ≡ true
    of_lesser q f None e k = subst (λ x. p x ≡ true) (same_value t v k) q
    of_lesser q f (Some w) e k = one q f w e (is_lt (token_cmp w t)) k

    by : (b : Bool) → p t ≡ b → (least (filter p ts) ≡ Some v → p v ≡ true) → least (if b then t ∷ filter p ts else filter p ts) ≡ Some v → p v ≡ true
    by true q f k = of_lesser q f (least (filter p ts)) refl k
    by false q f k = f k

not_both : (b : Bool) → b ≡ true → b ≡ false → ⊥
not_both b h k = cc

-- a token that passes, is among them, and has none below it that passes, is the least of those that pass
pub least_is : (p : Token → Bool) (ts : List Token) (k : Token) → p k ≡ true → ((u : Token) → is_lt (token_cmp u k) ≡ true → p u ≡ false) → list_any (λ t. eq_by_cmp token_cmp k t) ts ≡ true → least (filter p ts) ≡ Some k
least_is p [] k q f h = absurd (cc)
least_is p (t ∷ ts) k q f h = by (token_cmp k t) refl (least_is p ts k q f) h
  where
    none : t ≡ k → (v : Token) → least (filter p ts) ≡ Some v → (b : Bool) → is_lt (token_cmp v t) ≡ b → (if b then Some v else Some t) ≡ Some k
    none e v l true g = absurd (not_both (p v) (least_passes p ts v l) (f v (ap (λ x. is_lt (token_cmp v x)) (sym e) ∙ g)))
    none e v l false g = ap Some e

    first : t ≡ k → (o : Option Token) → least (filter p ts) ≡ o → lesser t o ≡ Some k
    first e None l = ap Some e
    first e (Some v) l = none e v l (is_lt (token_cmp v t)) refl

    after : token_cmp k t ≡ Less → (b : Bool) → least (filter p ts) ≡ Some k → least (if b then t ∷ filter p ts else filter p ts) ≡ Some k
    after e true l = ap (lesser t) l ∙ ap (λ r. if is_lt r then Some k else Some t) e
    after e false l = l

    by : (r : Ordering) → token_cmp k t ≡ r → (list_any (λ u. eq_by_cmp token_cmp k u) ts ≡ true → least (filter p ts) ≡ Some k) → is_eq r || list_any (λ u. eq_by_cmp token_cmp k u) ts ≡ true → least (filter p (t ∷ ts)) ≡ Some k
    by Equal e g m =
        let same = sym (token_exact k t e) in
        ap least (keep p t ts true (ap p same ∙ q)) ∙ first same (least (filter p ts)) refl
    by Less e g m = ap least (keep p t ts (p t) refl) ∙ after e (p t) (g m)
    by Greater e g m = ap least (keep p t ts false (f t (ap is_lt (token_total.antisymm t k ∙ ap ordering_reverse e)))) ∙ g m

-- ---- what is lacking

not_none : pos 0 <ℤ pos 0 → ⊥
not_none h = omega (arith, ints, h)

rest_above : (w : ℤ) → pos 0 <ℤ (pos 0 +ℤ w) → pos 0 <ℤ w
rest_above w h = omega (arith, ints, h)

-- what is wanted is of one of the tokens
wanted_one : (ns : List (Token × ℤ)) (k : Token) → pos 0 <ℤ wanted ns k → list_any (λ t. eq_by_cmp token_cmp k t) (map (λ (n : Token × ℤ). n.0) ns) ≡ true
wanted_one [] k h = absurd (not_none h)
wanted_one (n ∷ ns) k h = by (eq_by_cmp token_cmp k n.0) (wanted_one ns k) h
  where
    by : (b : Bool) → (pos 0 <ℤ wanted ns k → list_any (λ t. eq_by_cmp token_cmp k t) (map (λ (m : Token × ℤ). m.0) ns) ≡ true) → pos 0 <ℤ (cond b n.1 (pos 0) +ℤ wanted ns k) → b || list_any (λ t. eq_by_cmp token_cmp k t) (map (λ (m : Token × ℤ). m.0) ns) ≡ true
    by true f g = refl
    by false f g = f (rest_above (wanted ns k) g)

abbrev pub lack : List (Token × ℤ) → List Unspent → Token → ℤ
lack ns us t = wanted ns t -ℤ total_of amount_in t us

lacks_is : (ns : List (Token × ℤ)) (us : List Unspent) (m : Amounts) → IsMissing (lack ns us) m → (t : Token) → lacks ns us t ≡ is_some (get m t)
lacks_is ns us m s t = same_test (total_of amount_in t us) (wanted ns t) ∙ sym (some_above (lack ns us t)) ∙ sym (ap is_some (s t))

wanted_above : (a b : ℤ) → int_lt a b ≡ true → pos 0 ≤ℤ a → pos 0 <ℤ b
wanted_above a b e h = by (true_lt a b e)
  where
    by : a <ℤ b → pos 0 <ℤ b
    by k = omega (arith, ints, h, k)

-- the least token that is left of the needs is the least of which less is held than is wanted
pub lacking_is : (ns : List (Token × ℤ)) (us : List Unspent) (m : Amounts) (k : Token) → AreBundles amount_in us → IsMissing (lack ns us) m → is_some (get m k) ≡ true → ((u : Token) → is_lt (token_cmp u k) ≡ true → get m u ≡ None) → least_lacking ns us ≡ Some k
lacking_is ns us m k p s h f =
    let lacked = lacks_is ns us m s k ∙ h in
    least_is (lacks ns us) (map (λ (n : Token × ℤ). n.0) ns) k lacked (λ u l. lacks_is ns us m s u ∙ ap is_some (f u l))
    (wanted_one ns k (wanted_above (total_of amount_in k us) (wanted ns k) lacked (total_of-natural amount_in k us p)))

pub none_lacking : (ns : List (Token × ℤ)) (us : List Unspent) (m : Amounts) → IsMissing (lack ns us) m → ((t : Token) → get m t ≡ None) → least_lacking ns us ≡ None
none_lacking ns us m s f = least_none (lacks ns us) (map (λ (n : Token × ℤ). n.0) ns) (λ t. lacks_is ns us m s t ∙ ap is_some (f t))

-- ---- when outputs suffice

at_least : (b : Bool) (m : ℤ) → m ≤ℤ one_at_least b m
at_least true m = by (int_lt (pos 0) m) refl
  where
    by : (b : Bool) → int_lt (pos 0) m ≡ b → m ≤ℤ (if b then m else pos 1)
    by true e = omega (arith, ints)
    by false e = let h = false_lt (pos 0) m e in omega (arith, ints, h)
at_least false m = omega (arith, ints)

one_needed : (m : ℤ) → pos 0 <ℤ one_at_least true m
one_needed m = by (int_lt (pos 0) m) refl
  where
    by : (b : Bool) → int_lt (pos 0) m ≡ b → pos 0 <ℤ (if b then m else pos 1)
    by true e = true_lt (pos 0) m e
    by false e = omega (arith, ints)

at_most : (b : Bool) (m n : ℤ) → m ≤ℤ n → (b ≡ true → pos 0 <ℤ n) → one_at_least b m ≤ℤ n
at_most true m n h f = by (int_lt (pos 0) m) (f refl)
  where
    by : (b : Bool) → pos 0 <ℤ n → (if b then m else pos 1) ≤ℤ n
    by true k = h
    by false k = omega (arith, ints, k)
at_most false m n h f = h

not_more : (a b c : ℤ) → a ≤ℤ b → b ≤ℤ c → a ≤ℤ c
not_more a b c h k = omega (arith, ints, h, k)

above_not_more : (a b : ℤ) → pos 0 <ℤ a → a ≤ℤ b → pos 0 <ℤ b
above_not_more a b h k = omega (arith, ints, h, k)

wanted_needed : (rs : List Token) (ns : List (Token × ℤ)) (t : Token) → wanted ns t ≤ℤ required_amount rs ns t
wanted_needed [] ns t = omega (arith, ints)
wanted_needed (r ∷ rs) ns t = not_more (wanted ns t) (required_amount rs ns t) (required_amount (r ∷ rs) ns t) (wanted_needed rs ns t) (at_least (eq_by_cmp token_cmp r t) (required_amount rs ns t))

roles_held : (rs : List Token) (ns : List (Token × ℤ)) (us : List Unspent) → AreBundles amount_in us → ((t : Token) → required_amount rs ns t ≤ℤ total_of amount_in t us) → list_all (holds_token us) rs ≡ true
roles_held [] ns us p f = refl
roles_held (r ∷ rs) ns us p f =
    let needed : pos 0 <ℤ required_amount (r ∷ rs) ns r = subst (λ o. pos 0 <ℤ one_at_least (is_eq o) (required_amount rs ns r)) (sym (tied_itself token_total r)) (one_needed (required_amount rs ns r)) in
    and_true (holds_token us r) (list_all (holds_token us) rs) (held_is us r p ∙ lt_true (pos 0) (total_of amount_in r us) (above_not_more (required_amount (r ∷ rs) ns r) (total_of amount_in r us) needed (f r)))
    (roles_held rs ns us p (λ t. not_more (required_amount rs ns t) (required_amount (r ∷ rs) ns t) (total_of amount_in t us) (at_least (eq_by_cmp token_cmp r t) (required_amount rs ns t)) (f t)))

-- outputs that hold as much of each token as is needed suffice
covering : (rs : List Token) (ns : List (Token × ℤ)) (us : List Unspent) → AreBundles amount_in us → ((t : Token) → required_amount rs ns t ≤ℤ total_of amount_in t us) → suffices rs ns us ≡ true
covering rs ns us p f =
    and_true (list_all (holds_token us) rs) (is_none (least_lacking ns us)) (roles_held rs ns us p f)
    (ap is_none (least_none (lacks ns us) (map (λ (n : Token × ℤ). n.0) ns)
    (λ t. lt_false (total_of amount_in t us) (wanted ns t) (not_more (wanted ns t) (required_amount rs ns t) (total_of amount_in t us) (wanted_needed rs ns t) (f t)))))

-- and outputs that suffice hold as much
covered : (rs : List Token) (ns : List (Token × ℤ)) (us : List Unspent) → AreBundles amount_in us → list_all (holds_token us) rs ≡ true → is_none (least_lacking ns us) ≡ true → (t : Token) → required_amount rs ns t ≤ℤ total_of amount_in t us
covered [] ns us p h k t = all_covered t ns us p k
covered (r ∷ rs) ns us p h k t =
    let both = and_so (holds_token us r) (list_all (holds_token us) rs) h in
    at_most (eq_by_cmp token_cmp r t) (required_amount rs ns t) (total_of amount_in t us) (covered rs ns us p both.1 k t) (λ e. by (token_cmp r t) refl both.0 e)
  where
    by : (o : Ordering) → token_cmp r t ≡ o → holds_token us r ≡ true → is_eq o ≡ true → pos 0 <ℤ total_of amount_in t us
    by Equal g both e = subst (λ u. pos 0 <ℤ total_of amount_in u us) (token_exact r t g) (true_lt (pos 0) (total_of amount_in r us) (sym (held_is us r p) ∙ both))
    by Less g both e = absurd (cc)
    by Greater g both e = absurd (cc)

enough : (n m : ℤ) → (n -ℤ m) ≤ℤ pos 0 → n ≤ℤ m
enough n m h = omega (arith, ints, h)

nothing_lacks : (n m : ℤ) → n ≤ℤ m → (n -ℤ m) ≤ℤ pos 0
nothing_lacks n m h = omega (arith, ints, h)

-- where nothing is needed any more, outputs suffice
pub met_suffices : (rs : List Token) (ns : List (Token × ℤ)) (us : List Unspent) (m : Amounts) → AreBundles amount_in us → IsMissing (lacking_amount rs ns us) m → ((t : Token) → get m t ≡ None) → suffices rs ns us ≡ true
met_suffices rs ns us m p s f = covering rs ns us p (λ t. enough (required_amount rs ns t) (total_of amount_in t us) (none_above (lacking_amount rs ns us t) (sym (s t) ∙ f t)))

-- and where they suffice, nothing is
pub suffices_met : (rs : List Token) (ns : List (Token × ℤ)) (us : List Unspent) (m : Amounts) → AreBundles amount_in us → IsMissing (lacking_amount rs ns us) m → suffices rs ns us ≡ true → (t : Token) → get m t ≡ None
suffices_met rs ns us m p s h t =
    let both = and_so (list_all (holds_token us) rs) (is_none (least_lacking ns us)) h in
    s t ∙ not_above (lacking_amount rs ns us t) (nothing_lacks (required_amount rs ns t) (total_of amount_in t us) (covered rs ns us p both.0 both.1 t))

-- ---- tokens of roles that nobody holds

one_by : (a b : Bool) → one_at_least a (if b then pos 1 else pos 0) ≡ (if a || b then pos 1 else pos 0)
one_by true true = refl
one_by true false = refl
one_by false true = refl
one_by false false = refl

-- of roles' tokens alone, one of each is needed
one_of_each : (rs : List Token) (t : Token) → required_amount rs [] t ≡ (if list_any (λ r. eq_by_cmp token_cmp r t) rs then pos 1 else pos 0)
one_of_each [] t = refl
one_of_each (r ∷ rs) t = ap (one_at_least (eq_by_cmp token_cmp r t)) (one_of_each rs t) ∙ one_by (eq_by_cmp token_cmp r t) (list_any (λ q. eq_by_cmp token_cmp q t) rs)

one_less : (n : ℤ) → int_lt (pos 0) (pos 1 -ℤ n) ≡ not (int_lt (pos 0) n)
one_less n = grind (arith, ints)

-- it is still needed where no output holds it
pub unheld_is : (rs : List Token) (us : List Unspent) (m : Amounts) (t : Token) → AreBundles amount_in us → IsMissing (lacking_amount rs [] us) m → list_any (λ r. eq_by_cmp token_cmp r t) rs ≡ true → is_some (get m t) ≡ not (holds_token us t)
unheld_is rs us m t p s h =
    ap is_some (s t)
    ∙ some_above (lacking_amount rs [] us t)
    ∙ ap (λ n. int_lt (pos 0) (n -ℤ total_of amount_in t us)) (one_of_each rs t ∙ ap (λ b. if b then pos 1 else pos 0) h)
    ∙ one_less (total_of amount_in t us)
    ∙ ap not (sym (held_is us t p))

-- ---- no shorter front

not_so : (b : Bool) → (b ≡ true → false ≡ true) → b ≡ false
not_so true h = absurd (cc (h refl))
not_so false h = refl

-- where something is still needed, outputs don't suffice
pub unmet_lacks : (rs : List Token) (ns : List (Token × ℤ)) (us : List Unspent) (m : Amounts) (met : Bool) → AreBundles amount_in us → IsMissing (lacking_amount rs ns us) m → (((t : Token) → get m t ≡ None) → met ≡ true) → met ≡ false → suffices rs ns us ≡ false
unmet_lacks rs ns us m met p s f e = not_so (suffices rs ns us) (λ h. sym e ∙ f (suffices_met rs ns us m p s h))

earlier : (k i : ℕ) → nat_lt k i ≡ true → k < i
earlier k i h = grind (arith, nat_tests)

last : (k i : ℕ) → k < i + 1 → nat_lt k i ≡ false → i ≡ k
last k i l h = let n = not_earlier k i h in omega (arith, l, n)
  where
    not_earlier : (k i : ℕ) → nat_lt k i ≡ false → i ≤ k
    not_earlier k i h = grind (arith, nat_tests)

-- what holds below a place and there holds below the next
pub up_one : (P : ℕ → Type 0) (i : ℕ) → ((k : ℕ) → k < i → P k) → P i → (k : ℕ) → k < i + 1 → P k
up_one P i f p k l = by (nat_lt k i) refl
  where
    by : (b : Bool) → nat_lt k i ≡ b → P k
    by true e = f k (earlier k i e)
    by false e = subst P (last k i l e) p
