-- What is known: a view in other numbers for symbols, and the numbers of runs whose times JSON can write.
use Rattle.std.proofs.Common.{◌≡◌, ℕ, ◌≤◌, ℤ, pos, neg_ℤ, ◌^◌, ◌≤ℤ◌, ◌<ℤ◌, int_lt, int_le, Bool, true, false, cond, ◌&&◌, List, [], ◌∷◌, refl, sym, ap, ◌∙◌, subst, arith, Option, Some, None, IfSome}
use Rattle.std.proofs.lemmas.Int.{ints}
use Rattle.std.specs.Prelude.{option_map}
use Rattle.std.specs.Option.{unwrap_or}
use Rattle.std.specs.Ordering.{eq_by_cmp}
use Rattle.std.specs.declared.cmp.Ordering.{Ordering}
use Rattle.std.specs.FinMap.Entries.{find}
use Rattle.contract.specs.Names.Orders.{account_cmp, choice_id_cmp, bytes_cmp}
use Rattle.contract.specs.declared.interval.Interval.{Interval}
use Rattle.contract.specs.declared.payment.Payment.{Payment}
use Rattle.contract.specs.States.States.{StateMaps}
use Rattle.semantics.specs.Evaluation.Numbers.{fits}
use Rattle.linear.specs.Linear.{Linear, Valuation, number_at, IsBelow, number, Agree}
use Rattle.linear.proofs.NumberLaws.{true_lt, true_le, lt_true, le_true}
use Rattle.linear.proofs.LinearLaws.{same_number}
use Rattle.symbols.proofs.KnownLaws.{terms_more, below_more}
use Rattle.analysis_spec.specs.Promises.{IsWritten}
use Rattle.analysis_walk.specs.Limits.{Scope, any_runs, written_runs, Admitted, Allowed}
use Rattle.analysis_values.specs.Known.{View, Known, held, AreTimes, IsSeen, EntriesBelow, SymbolsBelow, SeesBelow, IsDescribed}

-- ---- entries

module _ {K : Type 0} (R : K → K → Ordering) (n : ℕ) where
  pub found_below : (es : List (K × Linear)) (x : K) → EntriesBelow n es → IsBelow n (unwrap_or (find R x es) (number (pos 0)))
  found_below [] x h = tt
  found_below (e ∷ es) x h = by_test (eq_by_cmp R x e.0) (found_below es x h.1)
    where
      by_test : (b : Bool) → IsBelow n (unwrap_or (find R x es) (number (pos 0))) → IsBelow n (unwrap_or (cond b (Some e.1) (find R x es)) (number (pos 0)))
      by_test true k = h.0
      by_test false k = k

  pub same_found : (q r : Valuation) → Agree n q r → (es : List (K × Linear)) (x : K) → EntriesBelow n es → option_map (number_at r) (find R x es) ≡ option_map (number_at q) (find R x es)
  same_found q r a [] x h = refl
  same_found q r a (e ∷ es) x h = by_test (eq_by_cmp R x e.0) (same_found q r a es x h.1)
    where
      by_test : (b : Bool) → option_map (number_at r) (find R x es) ≡ option_map (number_at q) (find R x es)
          → option_map (number_at r) (cond b (Some e.1) (find R x es)) ≡ option_map (number_at q) (cond b (Some e.1) (find R x es))
      by_test true k = ap (λ z. let o : Option ℤ = Some z in o) (sym (same_number n q r a e.1 h.0))
      by_test false k = k

pub unwrapped : (r : Valuation) (o : Option Linear) → unwrap_or (option_map (number_at r) o) (pos 0) ≡ number_at r (unwrap_or o (number (pos 0)))
unwrapped r None = refl
unwrapped r (Some l) = refl

pub entries_more : {K : Type 0} (n m : ℕ) → n ≤ m → (es : List (K × Linear)) → EntriesBelow n es → EntriesBelow m es
entries_more n m h [] k = tt
entries_more n m h (e ∷ es) k = (terms_more n m h e.1.terms k.0, entries_more n m h es k.1)

symbols_more : (n m : ℕ) → n ≤ m → (xs : List ℕ) → SymbolsBelow n xs → SymbolsBelow m xs
symbols_more n m h [] k = tt
symbols_more n m h (x ∷ xs) k = (below_more x n m k.0 h, symbols_more n m h xs k.1)

pub sees_more : (n m : ℕ) → n ≤ m → (v : View) → SeesBelow n v → SeesBelow m v
sees_more n m h v b = record {
  accounts = entries_more n m h v.accounts b.accounts;
  choices = entries_more n m h v.choices b.choices;
  bound = entries_more n m h v.bound b.bound;
  paid = entries_more n m h v.paid b.paid;
  start = terms_more n m h v.start.terms b.start;
  end = terms_more n m h v.end.terms b.end;
  times = symbols_more n m h v.times b.times;
}

same_times : (scope : Scope) (n : ℕ) (q r : Valuation) → Agree n q r → (xs : List ℕ) → SymbolsBelow n xs → AreTimes scope r xs → AreTimes scope q xs
same_times any_runs n q r a xs b h = tt
same_times written_runs n q r a [] b h = tt
same_times written_runs n q r a (x ∷ xs) b h = (subst IsWritten (sym (a x b.0)) h.0, same_times written_runs n q r a xs b.1 h.1)

-- a view is still true where no symbol of it changes
pub same_seen : (scope : Scope) (n : ℕ) (q r : Valuation) (v : View) (i : Interval) (s : StateMaps) (ps : List Payment) → Agree n q r → SeesBelow n v → IsSeen scope r v i s ps → IsSeen scope q v i s ps
same_seen scope n q r v i s ps a b e = record {
  accounts = λ x. e.accounts x ∙ sym (same_number n q r a (held v.accounts x) (found_below account_cmp n v.accounts x b.accounts));
  choices = λ x. e.choices x ∙ same_found choice_id_cmp n q r a v.choices x b.choices;
  bound = λ x. e.bound x ∙ same_found bytes_cmp n q r a v.bound x b.bound;
  paid = λ x. e.paid x ∙ sym (same_number n q r a (held v.paid x) (found_below account_cmp n v.paid x b.paid));
  start = e.start ∙ sym (same_number n q r a v.start b.start);
  end = e.end ∙ sym (same_number n q r a v.end b.end);
  valid = e.valid;
  times = same_times scope n q r a v.times b.times e.times;
  natural = e.natural;
  money = e.money;
  chosen = e.chosen;
  values = e.values;
  from = e.from;
  to = e.to;
}

-- ---- 128 bits

both_true : (a b : Bool) → a ≡ true → b ≡ true → a && b ≡ true
both_true true b h k = k
both_true false b h k = absurd (cc)

pub fits_between : (n : ℤ) → neg_ℤ (pos (2 ^ 127)) ≤ℤ n → n <ℤ pos (2 ^ 127) → fits n ≡ true
unfolding fits
fits_between n h k = both_true (int_le (neg_ℤ (pos (2 ^ 127))) n) (int_lt n (pos (2 ^ 127))) (le_true _ _ h) (lt_true _ _ k)

pub zero_allowed : (scope : Scope) → Allowed scope (pos 0)
unfolding fits
zero_allowed any_runs = tt
zero_allowed written_runs = refl

-- what is absent is 0
pub unwrapped_allowed : (scope : Scope) (o : Option ℤ) → IfSome o (Allowed scope) → Allowed scope (unwrap_or o (pos 0))
unwrapped_allowed scope None h = zero_allowed scope
unwrapped_allowed scope (Some n) h = h

written_fits : (n : ℤ) → IsWritten n → fits n ≡ true
written_fits n h = fits_between n (reach (neg_ℤ (pos (2 ^ 127))) (neg_ℤ (pos (2 ^ 63))) n (true_le (neg_ℤ (pos (2 ^ 127))) (neg_ℤ (pos (2 ^ 63))) refl) h.0) (less_lt n (pos (2 ^ 63)) (pos (2 ^ 127)) h.1 (true_lt (pos (2 ^ 63)) (pos (2 ^ 127)) refl))
  where
    reach : (a b c : ℤ) → a ≤ℤ b → b ≤ℤ c → a ≤ℤ c
    reach a b c h k = omega (arith, ints)

    less_lt : (a b c : ℤ) → a <ℤ b → b <ℤ c → a <ℤ c
    less_lt a b c h k = omega (arith, ints)

pub from_allowed : (scope : Scope) (j : Interval) → Admitted scope j → Allowed scope j.from
from_allowed any_runs j a = tt
from_allowed written_runs j a = written_fits j.from a.0

pub to_allowed : (scope : Scope) (j : Interval) → Admitted scope j → Allowed scope j.to
to_allowed any_runs j a = tt
to_allowed written_runs j a = written_fits j.to a.1

-- ---- the minimum time

-- nothing is known of it
pub time_is : (scope : Scope) (k : Known) (i : Interval) (s : StateMaps) (ps : List Payment) (n : ℤ) → IsDescribed scope k i s ps → IsDescribed scope k i (record s { min_time = n }) ps
time_is scope k i s ps n d =
    let e = d.seen in
    record {
      closed = d.closed;
      below = d.below;
      numbers = d.numbers;
      valued = d.valued;
      seen = record { accounts = e.accounts; choices = e.choices; bound = e.bound; paid = e.paid; start = e.start; end = e.end; valid = e.valid; times = e.times; natural = e.natural; money = e.money; chosen = e.chosen; values = e.values; from = e.from; to = e.to };
    }
