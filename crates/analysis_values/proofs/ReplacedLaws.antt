-- What is known where an account's entry takes the place of another.
use Rattle.std.proofs.Common.{◌≡◌, ℕ, zero, suc, ◌<◌, pos, Bool, true, false, cond, List, [], ◌∷◌, length, get_or, refl, sym, ap, ◌∙◌, subst, arith, Option, Some}
use Rattle.std.proofs.lemmas.List.{get_or_default}
use Rattle.std.specs.List.{remove}
use Rattle.std.specs.Option.{unwrap_or}
use Rattle.std.specs.Ordering.{eq_by_cmp}
use Rattle.std.specs.FinMap.Entries.{find}
use Rattle.contract.specs.Names.declared.account.Account.{Account}
use Rattle.contract.specs.Names.Orders.{account_cmp}
use Rattle.contract.specs.declared.interval.Interval.{Interval}
use Rattle.contract.specs.declared.payment.Payment.{Payment}
use Rattle.contract.specs.States.States.{StateMaps}
use Rattle.linear.specs.Linear.{Linear, Valuation, number_at, number}
use Rattle.symbols.specs.Symbols.{Symbols, IsValued, IsClosed}
use Rattle.analysis_walk.specs.Limits.{Scope}
use Rattle.analysis_values.specs.Known.{View, Known, EntriesBelow, SeesBelow, IsSeen, IsDescribed, held}
use Rattle.analysis_values.specs.Replaced.{AreAsFound, IsPlaceOf, IsAsKnown}
use Rattle.analysis_values.proofs.AccountLaws.{account_decides}

abbrev Entry : Type 0
Entry = Account × Linear

-- ---- a place

pub place_by : (es : List Entry) (i : ℕ) (x : Entry) (a : Account) → i < length es → x ≡ get_or es i x → eq_by_cmp account_cmp a x.0 ≡ true → IsPlaceOf es a i
place_by es i x a within is same =
    let own : x.0 ≡ a = sym ((account_decides a x.0).0 same) in
    (within, λ e at. ap (λ (z : Entry). z.0) (at ∙ get_or_default es i e x within ∙ sym is) ∙ own)

-- ---- an entry that is taken out

-- another account doesn't miss it
left_out : (a : Account) (es : List Entry) (i : ℕ) (e : Entry) → i < length es → e ≡ get_or es i e → eq_by_cmp account_cmp a e.0 ≡ false
    → find account_cmp a (remove es i) ≡ find account_cmp a es
left_out a [] i e l is other = absurd (omega arith)
left_out a (y ∷ es) zero e l is other =
    let first : eq_by_cmp account_cmp a y.0 ≡ false = ap (λ (z : Entry). eq_by_cmp account_cmp a z.0) (sym is) ∙ other in
    sym (ap (λ b. cond b (Some y.1) (find account_cmp a es)) first)
left_out a (y ∷ es) (suc i) e l is other = ap (cond (eq_by_cmp account_cmp a y.0) (Some y.1)) (left_out a es i e (omega arith) is other)

kept_below : (n : ℕ) (es : List Entry) (i : ℕ) → i < length es → EntriesBelow n es → EntriesBelow n (remove es i)
kept_below n [] i l h = absurd (omega arith)
kept_below n (y ∷ es) zero l h = h.1
kept_below n (y ∷ es) (suc i) l h = (h.0, kept_below n es i (omega arith) h.1)

-- put first again, with another value
pub again_found : (es new : List Entry) (i : ℕ) (e : Entry) (a : Account) (l : Linear) → i < length es → e ≡ get_or es i e → e.0 ≡ a
    → new ≡ (e.0, l) ∷ remove es i → AreAsFound ((a, l) ∷ es) new
again_found es new i e a l within is own same =
    subst (AreAsFound ((a, l) ∷ es)) (sym (same ∙ ap (λ (b : Account). (b, l) ∷ remove es i) own))
    (record { found = λ b. by_test b (eq_by_cmp account_cmp b a) refl; below = λ n h. (h.0, kept_below n es i within h.1) })
  where
    by_test : (b : Account) (t : Bool) → eq_by_cmp account_cmp b a ≡ t
        → cond t (Some l) (find account_cmp b (remove es i)) ≡ cond t (Some l) (find account_cmp b es)
    by_test b true q = refl
    by_test b false q = left_out b es i e within is (ap (eq_by_cmp account_cmp b) own ∙ q)

pub same_found : (es new : List Entry) → new ≡ es → AreAsFound es new
same_found es new same = subst (AreAsFound es) (sym same) (record { found = λ a. refl; below = λ n h. h })

-- ---- what is known

module _ (scope : Scope) (r : Valuation) (i : Interval) (s : StateMaps) (ps : List Payment) where
  as_number : (a : Account) (old new : List Entry) → AreAsFound old new → number_at r (held old a) ≡ number_at r (held new a)
  as_number a old new h = ap (λ (o : Option Linear). number_at r (unwrap_or o (number (pos 0)))) (sym (h.found a))

  pub seen_as : (v : View) (accounts paid : List Entry) → AreAsFound v.accounts accounts → AreAsFound v.paid paid → IsSeen scope r v i s ps
      → IsSeen scope r (record v { accounts = accounts; paid = paid }) i s ps
  seen_as v accounts paid h k e = record {
    accounts = λ a. e.accounts a ∙ as_number a v.accounts accounts h;
    choices = e.choices;
    bound = e.bound;
    paid = λ a. e.paid a ∙ as_number a v.paid paid k;
    start = e.start;
    end = e.end;
    valid = e.valid;
    times = e.times;
    natural = e.natural;
    money = e.money;
    chosen = e.chosen;
    values = e.values;
    from = e.from;
    to = e.to;
  }

below_as : (n : ℕ) (v : View) (accounts paid : List Entry) → AreAsFound v.accounts accounts → AreAsFound v.paid paid → SeesBelow n v
    → SeesBelow n (record v { accounts = accounts; paid = paid })
below_as n v accounts paid h k b = record {
  accounts = h.below n b.accounts;
  choices = b.choices;
  bound = b.bound;
  paid = k.below n b.paid;
  start = b.start;
  end = b.end;
  times = b.times;
}

module _ (scope : Scope) (k m : Known) (i : Interval) (s : StateMaps) (ps : List Payment) (h : IsAsKnown k m) (d : IsDescribed scope k i s ps) where
  pub below_here : SeesBelow k.symbols.next m.view
  below_here = subst (SeesBelow k.symbols.next) (sym h.view) (below_as k.symbols.next k.view m.view.accounts m.view.paid h.accounts h.paid d.below)

  -- of the same runs, in the same numbers
  abbrev pub described_as : IsDescribed scope m i s ps
  described_as = record {
    closed = subst IsClosed (sym h.symbols) d.closed;
    below = subst (λ (x : Symbols). SeesBelow x.next m.view) (sym h.symbols) below_here;
    numbers = d.numbers;
    valued = subst (IsValued d.numbers) (sym h.symbols) d.valued;
    seen = subst (λ v. IsSeen scope d.numbers v i s ps) (sym h.view)
        (seen_as scope d.numbers i s ps k.view m.view.accounts m.view.paid h.accounts h.paid d.seen);
  }
