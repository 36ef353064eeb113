-- What a map of needs stands for, from one amount, role or output to the next.
use Rattle.std.proofs.Common.{◌≡◌, ℕ, ◌+◌, ◌*◌, ◌^◌, ℤ, pos, ◌+ℤ◌, ◌-ℤ◌, ◌<ℤ◌, ◌≤ℤ◌, int_lt, Bool, true, false, cond, if◌then◌else◌, List, [], ◌∷◌, ◌++◌, Option, Some, None, refl, sym, ◌∙◌, ap, subst, arith}
use Rattle.std.proofs.lemmas.Int.{ints}
use Rattle.std.specs.Prelude.{is_some}
use Rattle.std.specs.Option.{unwrap_or}
use Rattle.std.specs.Ordering.{eq_by_cmp, is_eq, ordering_reverse}
use Rattle.std.specs.Cmp.{tied_itself}
use Rattle.std.specs.declared.cmp.Ordering.{Ordering}
use Rattle.std.specs.declared.cmp.Ordering.TheVariants.{Less, Equal, Greater}
use Rattle.std.specs.FinMap.{entries, get}
use Rattle.contract.specs.Names.declared.token.Token.{Token}
use Rattle.contract.specs.Names.Orders.{token_cmp}
use Rattle.contract.specs.Names.Totals.{token_total}
use Rattle.contract.proofs.FromNames.Exact.{token_exact}
use Rattle.contract.specs.States.States.{counted}
use Rattle.builder_spec.specs.Bundle.Bundles.{Amounts, amount_of, AllPositive}
use Rattle.builder_spec.specs.Bundle.Totals.{total_of}
use Rattle.builder_spec.proofs.FromBundle.PositiveLaws.{amount_of-natural}
use Rattle.coin_selection.specs.MissingSupport.{left}
use Rattle.builder_spec.specs.Holding.{wanted}
use Rattle.builder_spec.proofs.HoldingLaws.{total_of-append}
use Rattle.coin_selection.specs.RequiredSupport.{if_positive, one_at_least, required_amount, IsMissing}

-- ---- numbers above 0

pub lt_true : (a b : ℤ) → a <ℤ b → int_lt a b ≡ true
lt_true a b h = grind (arith, ints)

pub lt_false : (a b : ℤ) → b ≤ℤ a → int_lt a b ≡ false
lt_false a b h = grind (arith, ints)

pub true_lt : (a b : ℤ) → int_lt a b ≡ true → a <ℤ b
true_lt a b h = grind (arith, ints)

pub false_lt : (a b : ℤ) → int_lt a b ≡ false → b ≤ℤ a
false_lt a b h = grind (arith, ints)

pub is_above : (n : ℤ) → pos 0 <ℤ n → if_positive n ≡ Some n
is_above n h = ap (λ b. if◌then◌else◌ {A = Option ℤ} b (Some n) None) (lt_true (pos 0) n h)

pub not_above : (n : ℤ) → n ≤ℤ pos 0 → if_positive n ≡ None
not_above n h = ap (λ b. if◌then◌else◌ {A = Option ℤ} b (Some n) None) (lt_false (pos 0) n h)

pub some_above : (n : ℤ) → is_some (if_positive n) ≡ int_lt (pos 0) n
some_above n = elim (int_lt (pos 0) n) as (λ b. is_some (if◌then◌else◌ {A = Option ℤ} b (Some n) None) ≡ b) [ true ↦ refl | false ↦ refl ]

pub none_above : (n : ℤ) → if_positive n ≡ None → n ≤ℤ pos 0
none_above n h = false_lt (pos 0) n (sym (some_above n) ∙ ap is_some h)

zero_is : (n : ℤ) → pos 0 ≤ℤ n → n ≤ℤ pos 0 → pos 0 ≡ n
zero_is n h k = omega (arith, ints, h, k)

pub unwrap_above : (n : ℤ) → pos 0 ≤ℤ n → unwrap_or (if_positive n) (pos 0) ≡ n
unwrap_above n h = by (int_lt (pos 0) n) refl
  where
    by : (b : Bool) → int_lt (pos 0) n ≡ b → unwrap_or (if◌then◌else◌ {A = Option ℤ} b (Some n) None) (pos 0) ≡ n
    by true e = refl
    by false e = zero_is n h (false_lt (pos 0) n e)

-- ---- what is left

difference : (m n : ℤ) → m <ℤ n → pos 0 <ℤ (n -ℤ m)
difference m n h = omega (arith, ints, h)

no_difference : (m n : ℤ) → n ≤ℤ m → (n -ℤ m) ≤ℤ pos 0
no_difference m n h = omega (arith, ints, h)

none_left : (m n : ℤ) → pos 0 ≤ℤ m → n ≤ℤ pos 0 → (n -ℤ m) ≤ℤ pos 0
none_left m n h k = omega (arith, ints, h, k)

pub same_test : (m n : ℤ) → int_lt m n ≡ int_lt (pos 0) (n -ℤ m)
same_test m n = by (int_lt m n) refl
  where
    by : (b : Bool) → int_lt m n ≡ b → b ≡ int_lt (pos 0) (n -ℤ m)
    by true e = sym (lt_true (pos 0) (n -ℤ m) (difference m n (true_lt m n e)))
    by false e = sym (lt_false (pos 0) (n -ℤ m) (no_difference m n (false_lt m n e)))

pub left_above : (n m : ℤ) → pos 0 ≤ℤ m → left (if_positive n) m ≡ if_positive (n -ℤ m)
left_above n m h = by (int_lt (pos 0) n) refl
  where
    by : (b : Bool) → int_lt (pos 0) n ≡ b → left (if◌then◌else◌ {A = Option ℤ} b (Some n) None) m ≡ if_positive (n -ℤ m)
    by true e = ap (λ b. if◌then◌else◌ {A = Option ℤ} b (Some (n -ℤ m)) None) (same_test m n)
    by false e = sym (not_above (n -ℤ m) (none_left m n h (false_lt (pos 0) n e)))

after_both : (f m a : ℤ) → (f -ℤ m) -ℤ a ≡ f -ℤ (m +ℤ (a +ℤ pos 0))
after_both f m a = omega (arith, ints)

-- one output more is met
pub meet_more : {A : Type 0} (held : A → Amounts) (f : Token → ℤ) (old new : Amounts) (xs : List A) (x : A) → IsMissing (λ t. f t -ℤ total_of held t xs) old → AllPositive (entries (held x)) →
    ((t : Token) → get new t ≡ left (get old t) (amount_of (held x) t)) → IsMissing (λ t. f t -ℤ total_of held t (xs ++ x ∷ [])) new
meet_more held f old new xs x s p h = λ t.
    h t
    ∙ ap (λ o. left o (amount_of (held x) t)) (s t)
    ∙ left_above (f t -ℤ total_of held t xs) (amount_of (held x) t) (amount_of-natural (held x) t p)
    ∙ ap if_positive (after_both (f t) (total_of held t xs) (amount_of (held x) t) ∙ ap (λ n. f t -ℤ n) (sym (total_of-append held t xs (x ∷ []))))

-- ---- tokens that are the same

pub other_way : (a b : Token) → is_eq (token_cmp a b) ≡ is_eq (token_cmp b a)
other_way a b = by (token_cmp a b) refl
  where
    by : (r : Ordering) → token_cmp a b ≡ r → is_eq r ≡ is_eq (token_cmp b a)
    by Less e = sym (ap is_eq (token_total.antisymm b a ∙ ap ordering_reverse e))
    by Equal e = sym (ap is_eq (token_total.antisymm b a ∙ ap ordering_reverse e))
    by Greater e = sym (ap is_eq (token_total.antisymm b a ∙ ap ordering_reverse e))

-- ---- amounts that are wanted

swap : (a b : ℤ) → a +ℤ b ≡ b +ℤ a
swap a b = omega (arith, ints)

none_first : (n : ℤ) → n ≡ pos 0 +ℤ n
none_first n = omega (arith, ints)

two : (a b : ℤ) → pos 0 ≤ℤ a → pos 0 <ℤ b → pos 0 <ℤ (b +ℤ a)
two a b h k = omega (arith, ints, h, k)

-- one amount more is wanted
pub add_more : (old new : Amounts) (rest : List (Token × ℤ)) (n : Token × ℤ) → IsMissing (wanted rest) old → pos 0 ≤ℤ wanted rest n.0 → pos 0 <ℤ n.1 →
    ((t : Token) → get new t ≡ (if eq_by_cmp token_cmp n.0 t then Some (amount_of old n.0 +ℤ n.1) else get old t)) → IsMissing (wanted (n ∷ rest)) new
add_more old new rest n s p q h = λ t. h t ∙ by t (token_cmp n.0 t) refl
  where
    sum : amount_of old n.0 +ℤ n.1 ≡ n.1 +ℤ wanted rest n.0
    sum = ap (λ m. m +ℤ n.1) (ap (λ o. unwrap_or o (pos 0)) (s n.0) ∙ unwrap_above (wanted rest n.0) p) ∙ swap (wanted rest n.0) n.1

    there : Some (amount_of old n.0 +ℤ n.1) ≡ if_positive (wanted (n ∷ rest) n.0)
    there = ap Some sum ∙ sym (is_above (n.1 +ℤ wanted rest n.0) (two (wanted rest n.0) n.1 p q)) ∙ ap (λ r. if_positive (cond (is_eq r) n.1 (pos 0) +ℤ wanted rest n.0)) (sym (tied_itself token_total n.0))

    elsewhere : (t : Token) → is_eq (token_cmp t n.0) ≡ false → get old t ≡ if_positive (wanted (n ∷ rest) t)
    elsewhere t e = s t ∙ ap if_positive (none_first (wanted rest t) ∙ ap (λ b. cond b n.1 (pos 0) +ℤ wanted rest t) (sym e))

    by : (t : Token) (r : Ordering) → token_cmp n.0 t ≡ r → (if is_eq r then Some (amount_of old n.0 +ℤ n.1) else get old t) ≡ if_positive (wanted (n ∷ rest) t)
    by t Equal e = subst (λ u. Some (amount_of old n.0 +ℤ n.1) ≡ if_positive (wanted (n ∷ rest) u)) (token_exact n.0 t e) there
    by t Less e = elsewhere t (other_way t n.0 ∙ ap is_eq e)
    by t Greater e = elsewhere t (other_way t n.0 ∙ ap is_eq e)

-- ---- tokens of roles

one_more_role : (m : ℤ) → (if is_some (if_positive m) then if_positive m else Some (pos 1)) ≡ if_positive (one_at_least true m)
one_more_role m = by (int_lt (pos 0) m) refl
  where
    by : (b : Bool) → int_lt (pos 0) m ≡ b → (if is_some (if◌then◌else◌ {A = Option ℤ} b (Some m) None) then (if◌then◌else◌ {A = Option ℤ} b (Some m) None) else Some (pos 1)) ≡ if_positive (if b then m else pos 1)
    by true e = sym (is_above m (true_lt (pos 0) m e))
    by false e = refl

-- one role more is needed
pub add_role : (old new : Amounts) (rs : List Token) (ns : List (Token × ℤ)) (r : Token) → IsMissing (required_amount rs ns) old →
    ((t : Token) → get new t ≡ (if eq_by_cmp token_cmp r t then (if is_some (get old r) then get old r else Some (pos 1)) else get old t)) → IsMissing (required_amount (r ∷ rs) ns) new
add_role old new rs ns r s h = λ t. h t ∙ by t (token_cmp r t) refl
  where
    there : (if is_some (get old r) then get old r else Some (pos 1)) ≡ if_positive (one_at_least true (required_amount rs ns r))
    there = ap (λ (o : Option ℤ). if is_some o then o else Some (pos 1)) (s r) ∙ one_more_role (required_amount rs ns r)

    by : (t : Token) (o : Ordering) → token_cmp r t ≡ o → (if is_eq o then (if is_some (get old r) then get old r else Some (pos 1)) else get old t) ≡ if_positive (one_at_least (is_eq (token_cmp r t)) (required_amount rs ns t))
    by t Equal e = subst (λ u. (if is_some (get old r) then get old r else Some (pos 1)) ≡ if_positive (one_at_least true (required_amount rs ns u))) (token_exact r t e) there ∙ ap (λ o. if_positive (one_at_least (is_eq o) (required_amount rs ns t))) (sym e)
    by t Less e = s t ∙ ap (λ o. if_positive (one_at_least (is_eq o) (required_amount rs ns t))) (sym e)
    by t Greater e = s t ∙ ap (λ o. if_positive (one_at_least (is_eq o) (required_amount rs ns t))) (sym e)

-- ---- how much is wanted

abbrev pub room : ℕ → ℤ
room n = pos (n * 2 ^ 127)

counted_within : (t k : Token) (n : ℤ) → pos 0 ≤ℤ n → n ≤ℤ pos (2 ^ 127) → (pos 0 ≤ℤ counted t k n) × (counted t k n ≤ℤ pos (2 ^ 127))
counted_within t k n h l = by (eq_by_cmp token_cmp t k)
  where
    by : (b : Bool) → (pos 0 ≤ℤ cond b n (pos 0)) × (cond b n (pos 0) ≤ℤ pos (2 ^ 127))
    by true = (h, l)
    by false = (omega (arith, ints), omega (arith, ints))

-- the amounts from a place on come to no less than 0, and to no more than there is room for
abbrev pub Within : List (Token × ℤ) → ℕ → Type 0
Within ns n = (t : Token) → (pos 0 ≤ℤ wanted ns t) × (wanted ns t ≤ℤ room n)

more_within : (a w : ℤ) (n : ℕ) → pos 0 ≤ℤ a → a ≤ℤ pos (2 ^ 127) → pos 0 ≤ℤ w → w ≤ℤ room n → (pos 0 ≤ℤ (a +ℤ w)) × ((a +ℤ w) ≤ℤ room (n + 1))
more_within a w n h k l m = (omega (arith, ints, h, l), omega (arith, ints, k, m))

pub within_more : (n : Token × ℤ) (rest : List (Token × ℤ)) (i : ℕ) → pos 0 <ℤ n.1 → n.1 ≤ℤ pos (2 ^ 127) → Within rest i → Within (n ∷ rest) (i + 1)
within_more n rest i h l w = λ t.
    let c = counted_within t n.0 n.1 (no_less n.1 h) l in
    more_within (counted t n.0 n.1) (wanted rest t) i c.0 c.1 (w t).0 (w t).1
  where
    no_less : (n : ℤ) → pos 0 <ℤ n → pos 0 ≤ℤ n
    no_less n h = omega (arith, ints, h)
