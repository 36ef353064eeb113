-- What one party loses goes to the others.
use Rattle.std.proofs.Common.{◌≡◌, ℕ, ◌+◌, ◌<◌, ◌≤◌, ℤ, pos, ◌+ℤ◌, ◌≤ℤ◌, ◌<ℤ◌, int_lt, Bool, true, false, ◌&&◌, cond, not, List, [], ◌∷◌, ◌++◌, take, length, refl, sym, ap, ◌∙◌, subst, arith, Option, Some, IfSome, Result, Ok, Err, ◌⊎◌, inl, inr}
use Rattle.std.proofs.lemmas.Int.{ints}
use Rattle.std.proofs.Math.ListN.{get_or}
use Rattle.std.proofs.lemmas.List.{take_more, take_all}
use Rattle.std.specs.Int.{int_max}
use Rattle.std.specs.Result.{result_unwrap_or}
use Rattle.std.specs.FinMap.{entries}
use Rattle.contract.specs.Collections.Total.{total}
use Rattle.contract.specs.Names.declared.account.Account.{Account}
use Rattle.contract.specs.Names.declared.party.Party.{Party}
use Rattle.contract.specs.Names.declared.payee.Payee.{Payee}
use Rattle.contract.specs.Names.declared.payee.Payee.TheVariants.{Account as ToAccount, Party as ToParty}
use Rattle.contract.specs.Names.declared.token.Token.{Token}
use Rattle.contract.specs.Names.Equal.{same_party, same_token}
use Rattle.contract.proofs.FromNames.EqualLaws.{same_party_decides, same_token_decides}
use Rattle.contract.specs.declared.fault.SemFault.{SemFault}
use Rattle.contract.specs.declared.fault.SemFault.TheVariants.{Leaves128}
use Rattle.contract.specs.declared.input.Input.{Input}
use Rattle.contract.specs.declared.input.Input.TheVariants.{Deposit, Choice, Notify}
use Rattle.contract.specs.declared.payment.Payment.{Payment}
use Rattle.contract.specs.declared.transaction.Transaction.{Transaction}
use Rattle.contract.specs.Tree.{ContractTree}
use Rattle.contract.specs.States.States.{StateMaps, AllPositive, counted, in_token, total_of}
use Rattle.semantics.specs.Evaluation.Numbers.{all_fit}
use Rattle.semantics.specs.Walk.{Standing, standing, answer_of}
use Rattle.semantics.specs.Reduction.{account_of}
use Rattle.semantics.specs.Money.{taken_out, paid_out, brought as put_in, deposited, MoneyIsKept}
use Rattle.semantics.specs.Naturals.{AreNatural, PaymentsAreNatural, AccountsStayPositive}
use Rattle.semantics.proofs.Integers.{true_lt, false_lt}
use Rattle.analysis_spec.specs.declared.paid.PaidRange.{PaidRange}
use Rattle.analysis_spec.specs.Analysed.{IsUnnamed, PaysWithinRanges, PaysOthersNothing}
use Rattle.analysis_spec.specs.Runs.{walk_from, stands_after, paid_with, payments_of, reaches_party, paid_to}
use Rattle.losses.specs.declared.loss.Loss.{Loss}
use Rattle.losses.specs.Losses.{brought, inputs_with, inputs_of, brought_by, LosesAtMost}
use Rattle.losses.specs.Told.{LoseWithin, OthersLoseNothing}
use Rattle.analysis_walk.proofs.ListLaws.{all_left, all_right}
use Rattle.analysis_walk.proofs.PaidLaws.{total_append}
use Rattle.analysis_steps.proofs.AmountLemmas.{max_above, max_none}
use Rattle.loss_walk.specs.Asked.{asks_beyond}
use Rattle.loss_walk.specs.Others.{is_other, others_paid, StayWithin, ArePaidAtMost, PaidSoFar, AddsRange}
use Rattle.loss_walk.specs.Nets.{NetsBoundLosses}
use Rattle.loss_walk.proofs.AskedLemmas.{loses_nothing}

le_self : (a : ℤ) → a ≤ℤ a
le_self a = omega (arith, ints)

sum_natural : (a b : ℤ) → pos 0 ≤ℤ a → pos 0 ≤ℤ b → pos 0 ≤ℤ (a +ℤ b)
sum_natural a b h k = omega (arith, ints)

ok_answer : (b : Bool) (end : Result Standing SemFault) (a : Standing) → cond b end (Err Leaves128) ≡ Ok a → end ≡ Ok a
ok_answer true end a h = h
ok_answer false end a h = absurd (cc)

abbrev Positive : StateMaps → Type 0
Positive s = AllPositive (entries s.accounts)

-- ---- runs

natural_append : (ps qs : List Payment) → AreNatural ps → AreNatural qs → AreNatural (ps ++ qs)
natural_append [] qs h k = k
natural_append (p ∷ ps) qs h k = (h.0, natural_append ps qs h.1 k)

module _ (N : PaymentsAreNatural) (A : AccountsStayPositive) where
  pub natural_run : (a : Standing) (ts : List Transaction) → Positive a.state → AreNatural (payments_of a ts)
  natural_run a [] h = tt
  natural_run a (x ∷ ts) h = by_answer (λ d k. natural_run d ts k) (answer_of (walk_from a x)) refl
    where
      by_answer : ((d : Standing) → Positive d.state → AreNatural (payments_of d ts)) → (r : Result Standing SemFault) → answer_of (walk_from a x) ≡ r
          → AreNatural (paid_with r (walk_from a x).payments ++ payments_of (result_unwrap_or r a) ts)
      by_answer rest (Ok d) e =
          natural_append (walk_from a x).payments (payments_of d ts) (N x.interval a.state a.contract x.inputs h)
          (rest d (A x.interval a.state a.contract x.inputs d h (ok_answer (all_fit (walk_from a x).numbers) (walk_from a x).end d e)))
      by_answer rest (Err f) e = rest a h

module _ (token : Token) (K : MoneyIsKept) where
  joined : (s m n g h p q x y : ℤ) → s +ℤ g ≡ m +ℤ p → m +ℤ h ≡ n +ℤ q → x ≡ g +ℤ h → y ≡ p +ℤ q → s +ℤ x ≡ n +ℤ y
  joined s m n g h p q x y e f u v = omega (arith, ints, e, f, u, v)

  kept_by : (a : Standing) (ts : List Transaction) → total_of token a.state +ℤ deposited token (inputs_of a ts) ≡ total_of token (stands_after a ts).state +ℤ paid_out token (payments_of a ts)
  kept_by a [] = refl
  kept_by a (x ∷ ts) = by_answer (λ d. kept_by d ts) (answer_of (walk_from a x)) refl
    where
      by_answer : ((d : Standing) → total_of token d.state +ℤ deposited token (inputs_of d ts) ≡ total_of token (stands_after d ts).state +ℤ paid_out token (payments_of d ts))
          → (r : Result Standing SemFault) → answer_of (walk_from a x) ≡ r
          → total_of token a.state +ℤ deposited token (inputs_with r x.inputs ++ inputs_of (result_unwrap_or r a) ts)
          ≡ total_of token (stands_after (result_unwrap_or r a) ts).state +ℤ paid_out token (paid_with r (walk_from a x).payments ++ payments_of (result_unwrap_or r a) ts)
      by_answer rest (Ok d) e =
          joined (total_of token a.state) (total_of token d.state) (total_of token (stands_after d ts).state) (deposited token x.inputs) (deposited token (inputs_of d ts))
          (paid_out token (walk_from a x).payments) (paid_out token (payments_of d ts)) (deposited token (x.inputs ++ inputs_of d ts)) (paid_out token ((walk_from a x).payments ++ payments_of d ts))
          (K token x.interval a.state a.contract x.inputs d (ok_answer (all_fit (walk_from a x).numbers) (walk_from a x).end d e)) (rest d)
          (total_append (put_in token) x.inputs (inputs_of d ts))
          (total_append (λ (p : Payment). taken_out p.to (counted token p.token p.amount)) (walk_from a x).payments (payments_of d ts))
      by_answer rest (Err f) e = rest a

-- ---- what a party brings is put in

module _ (party : Party) (token : Token) where
  counts_less : (b d : Bool) (n : ℤ) → cond b (cond d (int_max (pos 0) n) (pos 0)) (pos 0) ≤ℤ cond (int_lt (pos 0) n) (cond d n (pos 0)) (pos 0)
  counts_less b d n = by_sign b d (int_lt (pos 0) n) refl
    where
      same : (a b : ℤ) → a ≡ b → a ≤ℤ b
      same a b e = omega (arith, ints, e)

      lt_le : (a b : ℤ) → a <ℤ b → a ≤ℤ b
      lt_le a b h = omega (arith, ints)

      by_sign : (b d t : Bool) → int_lt (pos 0) n ≡ t → cond b (cond d (int_max (pos 0) n) (pos 0)) (pos 0) ≤ℤ cond t (cond d n (pos 0)) (pos 0)
      by_sign true true true e = same (int_max (pos 0) n) n (max_above n (true_lt (pos 0) n e))
      by_sign true true false e = same (int_max (pos 0) n) (pos 0) (max_none n (false_lt (pos 0) n e))
      by_sign true false true e = le_self (pos 0)
      by_sign true false false e = le_self (pos 0)
      by_sign false true true e = lt_le (pos 0) n (true_lt (pos 0) n e)
      by_sign false true false e = le_self (pos 0)
      by_sign false false true e = le_self (pos 0)
      by_sign false false false e = le_self (pos 0)

  one_less : (x : Input) → brought party token x ≤ℤ put_in token x
  one_less (Deposit a p t n) = counts_less (same_party party p) (same_token token t) n
  one_less (Choice id n) = le_self (pos 0)
  one_less Notify = le_self (pos 0)

  both_less : (a b c d : ℤ) → a ≤ℤ b → c ≤ℤ d → (a +ℤ c) ≤ℤ (b +ℤ d)
  both_less a b c d h k = omega (arith, ints)

  all_less : (xs : List Input) → brought_by party token xs ≤ℤ deposited token xs
  all_less [] = le_self (pos 0)
  all_less (x ∷ xs) = both_less (brought party token x) (put_in token x) (brought_by party token xs) (deposited token xs) (one_less x) (all_less xs)

-- ---- what goes out goes to a party and to others

natural_total : (token : Token) (es : List (Account × ℤ)) → AllPositive es → pos 0 ≤ℤ total (in_token token) es
natural_total token [] h = le_self (pos 0)
natural_total token (e ∷ es) h = sum_natural (in_token token e) (total (in_token token) es) (by_test (same_token token e.0.token)) (natural_total token es h.1)
  where
    lt_le : (a b : ℤ) → a <ℤ b → a ≤ℤ b
    lt_le a b h = omega (arith, ints)

    by_test : (d : Bool) → pos 0 ≤ℤ cond d e.1 (pos 0)
    by_test true = lt_le (pos 0) e.1 h.0
    by_test false = le_self (pos 0)

natural_share : (party : Party) (token : Token) (y : Payee) (t : Token) (n : ℤ) → pos 0 ≤ℤ n → pos 0 ≤ℤ reaches_party party y (counted token t n)
natural_share party token (ToAccount q) t n h = le_self (pos 0)
natural_share party token (ToParty q) t n h = by_tests (same_party party q) (same_token token t)
  where
    by_tests : (b d : Bool) → pos 0 ≤ℤ cond b (cond d n (pos 0)) (pos 0)
    by_tests true true = h
    by_tests true false = le_self (pos 0)
    by_tests false d = le_self (pos 0)

pub natural_paid : (party : Party) (token : Token) (ps : List Payment) → AreNatural ps → pos 0 ≤ℤ paid_to party token ps
natural_paid party token [] h = le_self (pos 0)
natural_paid party token (p ∷ ps) h = sum_natural (reaches_party party p.to (counted token p.token p.amount)) (paid_to party token ps) (natural_share party token p.to p.token p.amount h.0) (natural_paid party token ps h.1)

module _ (a : Account) where
  others_first : (rs : List PaidRange) (p : Payment) (ps : List Payment) → others_paid a rs (p ∷ ps) ≡ others_paid a rs (p ∷ []) +ℤ others_paid a rs ps
  others_first [] p ps = omega (arith, ints)
  others_first (r ∷ rs) p ps = by_test (is_other a r) (others_first rs p ps)
    where
      by_test : (b : Bool) → others_paid a rs (p ∷ ps) ≡ others_paid a rs (p ∷ []) +ℤ others_paid a rs ps
          → cond b (paid_to r.party r.token (p ∷ ps)) (pos 0) +ℤ others_paid a rs (p ∷ ps) ≡ (cond b (paid_to r.party r.token (p ∷ [])) (pos 0) +ℤ others_paid a rs (p ∷ [])) +ℤ (cond b (paid_to r.party r.token ps) (pos 0) +ℤ others_paid a rs ps)
      by_test true e = added (reaches_party r.party p.to (counted r.token p.token p.amount)) (paid_to r.party r.token ps) (others_paid a rs (p ∷ ps)) (others_paid a rs (p ∷ [])) (others_paid a rs ps) e
        where
          added : (x u o v w : ℤ) → o ≡ v +ℤ w → (x +ℤ u) +ℤ o ≡ ((x +ℤ pos 0) +ℤ v) +ℤ (u +ℤ w)
          added x u o v w e = omega (arith, ints, e)
      by_test false e = apart (others_paid a rs (p ∷ ps)) (others_paid a rs (p ∷ [])) (others_paid a rs ps) e
        where
          apart : (o v w : ℤ) → o ≡ v +ℤ w → pos 0 +ℤ o ≡ (pos 0 +ℤ v) +ℤ (pos 0 +ℤ w)
          apart o v w e = omega (arith, ints, e)

  natural_others : (rs : List PaidRange) (ps : List Payment) → AreNatural ps → pos 0 ≤ℤ others_paid a rs ps
  natural_others [] ps h = le_self (pos 0)
  natural_others (r ∷ rs) ps h = sum_natural (cond (is_other a r) (paid_to r.party r.token ps) (pos 0)) (others_paid a rs ps) (by_test (is_other a r)) (natural_others rs ps h)
    where
      by_test : (b : Bool) → pos 0 ≤ℤ cond b (paid_to r.party r.token ps) (pos 0)
      by_test true = natural_paid r.party r.token ps h
      by_test false = le_self (pos 0)

  -- a payment to another party is among what they are paid, or that party has no range
  either : (rs : List PaidRange) (f q : Party) (t : Token) (n : ℤ) → pos 0 ≤ℤ n → same_party a.owner q ≡ false
      → (counted a.token t n ≤ℤ others_paid a rs (record { from = f; to = ToParty q; token = t; amount = n } ∷ [])) ⊎ IsUnnamed rs q a.token
  either [] f q t n h other = inr tt
  either (r ∷ rs) f q t n h other = by_tests (same_token a.token r.token) (same_party q r.party) refl refl (either rs f q t n h other)
    where
      natural_first : (b : Bool) → pos 0 ≤ℤ cond b (paid_to r.party r.token (record { from = f; to = ToParty q; token = t; amount = n } ∷ [])) (pos 0)
      natural_first true = natural_paid r.party r.token (record { from = f; to = ToParty q; token = t; amount = n } ∷ []) (h, tt)
      natural_first false = le_self (pos 0)

      behind : (k u v : ℤ) → pos 0 ≤ℤ u → k ≤ℤ v → k ≤ℤ (u +ℤ v)
      behind k u v l m = omega (arith, ints)

      here : (k u v : ℤ) → u ≡ k +ℤ pos 0 → pos 0 ≤ℤ v → k ≤ℤ (u +ℤ v)
      here k u v e m = omega (arith, ints, e)

      later : (counted a.token t n ≤ℤ others_paid a rs (record { from = f; to = ToParty q; token = t; amount = n } ∷ [])) ⊎ IsUnnamed rs q a.token → (r.party ≡ q → r.token ≡ a.token → ⊥)
          → (counted a.token t n ≤ℤ others_paid a (r ∷ rs) (record { from = f; to = ToParty q; token = t; amount = n } ∷ [])) ⊎ IsUnnamed (r ∷ rs) q a.token
      later (inl m) never =
          inl (behind (counted a.token t n) (cond (is_other a r) (paid_to r.party r.token (record { from = f; to = ToParty q; token = t; amount = n } ∷ [])) (pos 0))
          (others_paid a rs (record { from = f; to = ToParty q; token = t; amount = n } ∷ [])) (natural_first (is_other a r)) m)
      later (inr u) never = inr (never, u)

      is_it : r.party ≡ q → r.token ≡ a.token → same_token a.token r.token ≡ true → is_other a r ≡ true
      is_it e g d = ap (λ b. b && not (same_party a.owner r.party)) d ∙ ap (λ (z : Party). not (same_party a.owner z)) e ∙ ap not other

      reaches_it : r.party ≡ q → r.token ≡ a.token → reaches_party r.party (ToParty q) (counted r.token t n) ≡ counted a.token t n
      reaches_it e g = ap (λ b. cond b (counted r.token t n) (pos 0)) ((same_party_decides r.party q).1 e) ∙ ap (λ (z : Token). counted z t n) g

      by_tests : (d b : Bool) → same_token a.token r.token ≡ d → same_party q r.party ≡ b
          → (counted a.token t n ≤ℤ others_paid a rs (record { from = f; to = ToParty q; token = t; amount = n } ∷ [])) ⊎ IsUnnamed rs q a.token
          → (counted a.token t n ≤ℤ others_paid a (r ∷ rs) (record { from = f; to = ToParty q; token = t; amount = n } ∷ [])) ⊎ IsUnnamed (r ∷ rs) q a.token
      by_tests true true x y k =
          let e : r.party ≡ q = sym ((same_party_decides q r.party).0 y) in
          let g : r.token ≡ a.token = sym ((same_token_decides a.token r.token).0 x) in
          inl (here (counted a.token t n) (cond (is_other a r) (paid_to r.party r.token (record { from = f; to = ToParty q; token = t; amount = n } ∷ [])) (pos 0))
          (others_paid a rs (record { from = f; to = ToParty q; token = t; amount = n } ∷ []))
          (ap (λ b. cond b (paid_to r.party r.token (record { from = f; to = ToParty q; token = t; amount = n } ∷ [])) (pos 0)) (is_it e g x) ∙ ap (λ z. z +ℤ pos 0) (reaches_it e g))
          (natural_others rs (record { from = f; to = ToParty q; token = t; amount = n } ∷ []) (h, tt)))
      by_tests true false x y k = later k (λ e g. let z : true ≡ false = sym ((same_party_decides q r.party).1 (sym e)) ∙ y in cc)
      by_tests false b x y k = later k (λ e g. let z : true ≡ false = sym ((same_token_decides a.token r.token).1 (sym g)) ∙ x in cc)

  module _ (rs : List PaidRange) where
    -- who has no range isn't paid
    abbrev PaysNoOther : List Payment → Type 0
    PaysNoOther ps = (q : Party) → IsUnnamed rs q a.token → paid_to q a.token ps ≤ℤ pos 0

    none_first : (n m : ℤ) → pos 0 ≤ℤ n → (n +ℤ m) ≤ℤ pos 0 → m ≤ℤ pos 0
    none_first n m h k = omega (arith, ints)

    goes_to : (f : Party) (y : Payee) (t : Token) (n : ℤ) (ps : List Payment) → pos 0 ≤ℤ n → AreNatural ps → PaysNoOther (record { from = f; to = y; token = t; amount = n } ∷ ps)
        → taken_out y (counted a.token t n) ≤ℤ (reaches_party a.owner y (counted a.token t n) +ℤ others_paid a rs (record { from = f; to = y; token = t; amount = n } ∷ []))
    goes_to f (ToAccount q) t n ps h k none =
        plus_natural (others_paid a rs (record { from = f; to = ToAccount q; token = t; amount = n } ∷ [])) (natural_others rs (record { from = f; to = ToAccount q; token = t; amount = n } ∷ []) (h, tt))
      where
        plus_natural : (v : ℤ) → pos 0 ≤ℤ v → pos 0 ≤ℤ (pos 0 +ℤ v)
        plus_natural v h = omega (arith, ints)
    goes_to f (ToParty q) t n ps h k none = by_test (same_party a.owner q) refl
      where
        own : (k v : ℤ) → pos 0 ≤ℤ v → k ≤ℤ (k +ℤ v)
        own k v h = omega (arith, ints)

        others : (k v : ℤ) → k ≤ℤ v → k ≤ℤ (pos 0 +ℤ v)
        others k v h = omega (arith, ints)

        nothing : (k m v : ℤ) → (k +ℤ m) ≤ℤ pos 0 → pos 0 ≤ℤ m → pos 0 ≤ℤ v → k ≤ℤ (pos 0 +ℤ v)
        nothing k m v e g h = omega (arith, ints)

        by_either : (counted a.token t n ≤ℤ others_paid a rs (record { from = f; to = ToParty q; token = t; amount = n } ∷ [])) ⊎ IsUnnamed rs q a.token
            → counted a.token t n ≤ℤ (pos 0 +ℤ others_paid a rs (record { from = f; to = ToParty q; token = t; amount = n } ∷ []))
        by_either (inl m) = others (counted a.token t n) (others_paid a rs (record { from = f; to = ToParty q; token = t; amount = n } ∷ [])) m
        by_either (inr u) =
            nothing (counted a.token t n) (paid_to q a.token ps) (others_paid a rs (record { from = f; to = ToParty q; token = t; amount = n } ∷ []))
            (subst (λ z. (z +ℤ paid_to q a.token ps) ≤ℤ pos 0) (ap (λ b. cond b (counted a.token t n) (pos 0)) ((same_party_decides q q).1 refl)) (none q u)) (natural_paid q a.token ps k)
            (natural_others rs (record { from = f; to = ToParty q; token = t; amount = n } ∷ []) (h, tt))

        by_test : (b : Bool) → same_party a.owner q ≡ b → counted a.token t n ≤ℤ (cond b (counted a.token t n) (pos 0) +ℤ others_paid a rs (record { from = f; to = ToParty q; token = t; amount = n } ∷ []))
        by_test true e = own (counted a.token t n) (others_paid a rs (record { from = f; to = ToParty q; token = t; amount = n } ∷ [])) (natural_others rs (record { from = f; to = ToParty q; token = t; amount = n } ∷ []) (h, tt))
        by_test false e = by_either (either rs f q t n h e)

    one_more : (k o p v w x : ℤ) → k ≤ℤ (p +ℤ v) → o ≤ℤ (x +ℤ w) → (k +ℤ o) ≤ℤ ((p +ℤ x) +ℤ (v +ℤ w))
    one_more k o p v w x h l = omega (arith, ints)

    out_goes : (ps : List Payment) → AreNatural ps → PaysNoOther ps → paid_out a.token ps ≤ℤ (paid_to a.owner a.token ps +ℤ others_paid a rs ps)
    out_goes [] h none = nothing_out (others_paid a rs []) (natural_others rs [] tt)
      where
        nothing_out : (v : ℤ) → pos 0 ≤ℤ v → pos 0 ≤ℤ (pos 0 +ℤ v)
        nothing_out v h = omega (arith, ints)
    out_goes (p ∷ ps) h none =
        subst (λ z. paid_out a.token (p ∷ ps) ≤ℤ (paid_to a.owner a.token (p ∷ ps) +ℤ z)) (sym (others_first rs p ps))
        (one_more (taken_out p.to (counted a.token p.token p.amount)) (paid_out a.token ps) (reaches_party a.owner p.to (counted a.token p.token p.amount)) (others_paid a rs (p ∷ [])) (others_paid a rs ps) (paid_to a.owner a.token ps)
        (goes_to p.from p.to p.token p.amount ps h.0 h.1 none)
        (out_goes ps h.1 (λ q u. none_first (reaches_party q p.to (counted a.token p.token p.amount)) (paid_to q a.token ps) (natural_share q a.token p.to p.token p.amount h.0) (none q u))))

-- ---- what one loses

comes_to : (s g n y b p o m : ℤ) → s +ℤ g ≡ n +ℤ y → pos 0 ≤ℤ s → n ≡ pos 0 → b ≤ℤ g → y ≤ℤ (p +ℤ o) → o ≤ℤ m → b ≤ℤ (p +ℤ m)
comes_to s g n y b p o m e h f k l v = omega (arith, ints, e, f)

within : (s : StateMaps) (c : ContractTree) (ts : List Transaction) (rs : List PaidRange) → PaysWithinRanges rs s c → StayWithin rs (payments_of (standing s c) ts)
within s c ts [] h = tt
within s c ts (r ∷ rs) h = (h.0.always ts, within s c ts rs h.1)

pub loses_what_others_get : MoneyIsKept → PaymentsAreNatural → AccountsStayPositive → (s : StateMaps) (c : ContractTree) (a : Account) (rs : List PaidRange) (n : ℤ) → Positive s → PaysWithinRanges rs s c → PaysOthersNothing rs s c
    → ArePaidAtMost a rs n → LosesAtMost a.owner a.token n s c
loses_what_others_get K N A s c a rs n above ranges others most ts spent =
    let d = standing s c in
    let b = stands_after d ts in
    let ps = payments_of d ts in
    comes_to (total_of a.token s) (deposited a.token (inputs_of d ts)) (total_of a.token b.state) (paid_out a.token ps) (brought_by a.owner a.token (inputs_of d ts)) (paid_to a.owner a.token ps) (others_paid a rs ps) n
    (kept_by a.token K d ts) (natural_total a.token (entries s.accounts) above) (ap (total (in_token a.token)) spent.1) (all_less a.owner a.token (inputs_of d ts))
    (out_goes a rs ps (natural_run N A d ts above) (λ q u. (others q a.token u).always ts)) (most ps (within s c ts rs ranges))

-- the loss that is told, and nothing else is lost
lost_within : MoneyIsKept → PaymentsAreNatural → AccountsStayPositive → (s : StateMaps) (c : ContractTree) (a : Account) (rs : List PaidRange) (n : ℤ) (l : Loss) → Positive s → PaysWithinRanges rs s c → PaysOthersNothing rs s c
    → ArePaidAtMost a rs n → l.party ≡ a.owner → l.token ≡ a.token → l.most ≡ Some n → LoseWithin (l ∷ []) s c
lost_within K N A s c a rs n l above ranges others most is of it = (
  subst (λ (o : Option ℤ). IfSome o (λ m. LosesAtMost l.party l.token m s c)) (sym it)
      (subst (λ (p : Party). LosesAtMost p l.token n s c) (sym is) (subst (λ (t : Token). LosesAtMost a.owner t n s c) (sym of) (loses_what_others_get K N A s c a rs n above ranges others most))),
  tt,
)

pub told_within : MoneyIsKept → PaymentsAreNatural → AccountsStayPositive → (s : StateMaps) (c : ContractTree) (a : Account) (rs : List PaidRange) (n : ℤ) (l : Loss) (old new : List Loss) → new ≡ old ++ l ∷ [] → old ≡ [] → Positive s
    → PaysWithinRanges rs s c → PaysOthersNothing rs s c → ArePaidAtMost a rs n → l.party ≡ a.owner → l.token ≡ a.token → l.most ≡ Some n → LoseWithin new s c
told_within K N A s c a rs n l old new added none above ranges others most is of it =
    subst (λ (ls : List Loss). LoseWithin ls s c) (sym (added ∙ ap (λ ls. ls ++ l ∷ []) none)) (lost_within K N A s c a rs n l above ranges others most is of it)

others_lose_none : NetsBoundLosses → (s : StateMaps) (c : ContractTree) (a : Account) (l : Loss) → Positive s → asks_beyond (Some a) c ≡ false → l.party ≡ a.owner → l.token ≡ a.token → OthersLoseNothing (l ∷ []) s c
others_lose_none law s c a l above e is of p t u =
    loses_nothing law s c above (Some a) e p t (λ q. let w : a ≡ account_of p t = cc in u.0 (is ∙ ap (λ (x : Account). x.owner) w) (of ∙ ap (λ (x : Account). x.token) w))

pub told_others : NetsBoundLosses → (s : StateMaps) (c : ContractTree) (a : Account) (l : Loss) (old new : List Loss) → new ≡ old ++ l ∷ [] → old ≡ [] → Positive s → asks_beyond (Some a) c ≡ false → l.party ≡ a.owner → l.token ≡ a.token
    → OthersLoseNothing new s c
told_others law s c a l old new added none above e is of =
    subst (λ (ls : List Loss). OthersLoseNothing ls s c) (sym (added ∙ ap (λ ls. ls ++ l ∷ []) none)) (others_lose_none law s c a l above e is of)

-- ---- what the others are paid at most

others_more : (a : Account) (rs : List PaidRange) (r : PaidRange) (ps : List Payment) → others_paid a (rs ++ r ∷ []) ps ≡ others_paid a rs ps +ℤ cond (is_other a r) (paid_to r.party r.token ps) (pos 0)
others_more a [] r ps = turned (cond (is_other a r) (paid_to r.party r.token ps) (pos 0))
  where
    turned : (x : ℤ) → x +ℤ pos 0 ≡ pos 0 +ℤ x
    turned x = omega (arith, ints)
others_more a (q ∷ rs) r ps =
    moved (cond (is_other a q) (paid_to q.party q.token ps) (pos 0)) (others_paid a (rs ++ r ∷ []) ps) (others_paid a rs ps) (cond (is_other a r) (paid_to r.party r.token ps) (pos 0)) (others_more a rs r ps)
  where
    moved : (x o u v : ℤ) → o ≡ u +ℤ v → x +ℤ o ≡ (x +ℤ u) +ℤ v
    moved x o u v e = omega (arith, ints, e)

pub none_paid : (a : Account) → PaidSoFar a [] (pos 0)
none_paid a = (le_self (pos 0), λ ps h. le_self (pos 0))

pub more_paid : (a : Account) (rs : List PaidRange) (i : ℕ) (r : PaidRange) (m n : ℤ) → i < length rs → r ≡ get_or rs i r → PaidSoFar a (take i rs) m → AddsRange a r m n → PaidSoFar a (take (i + 1) rs) n
more_paid a rs i r m n l is before adds = (
  adds.0,
  λ ps h.
      let more = take_more rs i r l ∙ ap (λ (x : PaidRange). take i rs ++ x ∷ []) (sym is) in
      let P : PaidRange → Type 0 = λ q. IfSome q.most (λ k. paid_to q.party q.token ps ≤ℤ k) in
      let w : StayWithin (take i rs ++ r ∷ []) ps = subst (λ (qs : List PaidRange). StayWithin qs ps) more h in
      subst (λ (qs : List PaidRange). others_paid a qs ps ≤ℤ n) (sym more)
      (subst (λ z. z ≤ℤ n) (sym (others_more a (take i rs) r ps))
      (rises (others_paid a (take i rs) ps) m (cond (is_other a r) (paid_to r.party r.token ps) (pos 0)) n (before.1 ps (all_left P (take i rs) (r ∷ []) w)) (adds.1 (paid_to r.party r.token ps) (all_right P (take i rs) (r ∷ []) w).0))),
)
  where
    rises : (o m x n : ℤ) → o ≤ℤ m → (m +ℤ x) ≤ℤ n → (o +ℤ x) ≤ℤ n
    rises o m x n h k = omega (arith, ints)

pub all_paid : (a : Account) (rs : List PaidRange) (i : ℕ) (n : ℤ) → length rs ≤ i → PaidSoFar a (take i rs) n → PaidSoFar a rs n
all_paid a rs i n l h = subst (λ (qs : List PaidRange). PaidSoFar a qs n) (take_all i rs l) h

pub adds_none : (a : Account) (r : PaidRange) (m : ℤ) → pos 0 ≤ℤ m → is_other a r ≡ false → AddsRange a r m m
adds_none a r m h e = (h, λ o k. subst (λ b. (m +ℤ cond b o (pos 0)) ≤ℤ m) (sym e) (still m))
  where
    still : (m : ℤ) → (m +ℤ pos 0) ≤ℤ m
    still m = omega (arith, ints)

pub adds_own : (a : Account) (r : PaidRange) (m own n : ℤ) → r.most ≡ Some own → is_other a r ≡ true → (pos 0 ≤ℤ n) × ((m +ℤ own) ≤ℤ n) → AddsRange a r m n
adds_own a r m own n e other h = (h.0, λ o up. subst (λ b. (m +ℤ cond b o (pos 0)) ≤ℤ n) (sym other) (below m o own n (subst (λ (x : Option ℤ). IfSome x (λ y. o ≤ℤ y)) e up) h.1))
  where
    below : (m o k n : ℤ) → o ≤ℤ k → (m +ℤ k) ≤ℤ n → (m +ℤ o) ≤ℤ n
    below m o k n h l = omega (arith, ints)
