-- What is known before the first transaction.
use Rattle.std.proofs.Common.{◌≡◌, ℕ, ◌<◌, ℤ, pos, negsuc, FitsSigned, ◌+ℤ◌, ◌^◌, ◌≤ℤ◌, Bool, true, false, cond, List, [], ◌∷◌, refl, sym, ap, ◌∙◌, subst, arith, Option, Some, IfSome}
use Rattle.std.proofs.lemmas.Int.{ints}
use Rattle.std.proofs.lemmas.Bool.Decides.{nat_tests}
use Rattle.std.specs.Int.{w64, w128}
use Rattle.std.specs.Prelude.{option_map}
use Rattle.std.specs.List.{AllByRecursion}
use Rattle.std.specs.Option.{unwrap_or}
use Rattle.std.specs.Ordering.{eq_by_cmp}
use Rattle.std.specs.declared.cmp.Ordering.{Ordering}
use Rattle.std.specs.FinMap.Entries.{find}
use Rattle.std.specs.FinMap.{get, entries, get-entries}
use Rattle.contract.proofs.FromCollections.Positive.{AllPositive-find}
use Rattle.contract.specs.Names.Orders.{account_cmp, choice_id_cmp, bytes_cmp}
use Rattle.contract.specs.States.States.{StateMaps, AllPositive}
use Rattle.semantics.specs.Evaluation.Numbers.{fits}
use Rattle.linear.specs.Linear.{Valuation, number_at, number}
use Rattle.symbols.specs.Held.{symbols_of}
use Rattle.analysis_walk.specs.Limits.{Scope, any_runs, written_runs, Allowed}
use Rattle.analysis_walk.specs.Conclusions.{IsLater, DescribesStart}
use Rattle.analysis_values.specs.Known.{Known, AreTimes, EntriesBelow, IsDescribed}
use Rattle.analysis_values.specs.Entries.{in_numbers, EntriesFit}
use Rattle.analysis_values.proofs.KnownLaws.{unwrapped_allowed}

-- the numbers of a state fit 128 bits
pub record NumbersFit (s : StateMaps) : Type 0 where
  pub accounts : EntriesFit (entries s.accounts)
  pub choices : EntriesFit (entries s.choices)
  pub bound : EntriesFit (entries s.bound_values)

numbers_below : {K : Type 0} (n : ℕ) (es : List (K × ℤ)) → EntriesBelow n (in_numbers es)
numbers_below n [] = tt
numbers_below n (e ∷ es) = (tt, numbers_below n es)

plus_none : (a : ℤ) → a ≡ a +ℤ pos 0
plus_none a = omega (arith, ints)

le_self : (a : ℤ) → a ≤ℤ a
le_self a = omega (arith, ints)

module _ {K : Type 0} (R : K → K → Ordering) (r : Valuation) where
  found_numbers : (es : List (K × ℤ)) (x : K) → find R x es ≡ option_map (number_at r) (find R x (in_numbers es))
  found_numbers [] x = refl
  found_numbers (e ∷ es) x = by_test (eq_by_cmp R x e.0) (found_numbers es x)
    where
      by_test : (b : Bool) → find R x es ≡ option_map (number_at r) (find R x (in_numbers es)) → cond b (Some e.1) (find R x es) ≡ option_map (number_at r) (cond b (Some (number e.1)) (find R x (in_numbers es)))
      by_test true h = ap (λ z. let o : Option ℤ = Some z in o) (plus_none e.1)
      by_test false h = h

  held_numbers : (es : List (K × ℤ)) (x : K) → unwrap_or (find R x es) (pos 0) ≡ number_at r (unwrap_or (find R x (in_numbers es)) (number (pos 0)))
  held_numbers [] x = refl
  held_numbers (e ∷ es) x = by_test (eq_by_cmp R x e.0) (held_numbers es x)
    where
      by_test : (b : Bool) → unwrap_or (find R x es) (pos 0) ≡ number_at r (unwrap_or (find R x (in_numbers es)) (number (pos 0)))
          → unwrap_or (cond b (Some e.1) (find R x es)) (pos 0) ≡ number_at r (unwrap_or (cond b (Some (number e.1)) (find R x (in_numbers es))) (number (pos 0)))
      by_test true h = plus_none e.1
      by_test false h = h

found_fits : {K : Type 0} (R : K → K → Ordering) (scope : Scope) (es : List (K × ℤ)) (x : K) → AllByRecursion (λ e. fits e.1 ≡ true) es → IfSome (find R x es) (Allowed scope)
found_fits R scope [] x h = tt
found_fits R scope (e ∷ es) x h = by_test (eq_by_cmp R x e.0) (found_fits R scope es x h.1)
  where
    allowed : (scope : Scope) → Allowed scope e.1
    allowed any_runs = tt
    allowed written_runs = h.0

    by_test : (b : Bool) → IfSome (find R x es) (Allowed scope) → IfSome (cond b (Some e.1) (find R x es)) (Allowed scope)
    by_test true k = allowed scope
    by_test false k = k

time_allowed : (scope : Scope) (t : ℤ) → fits t ≡ true → Allowed scope t
time_allowed any_runs t h = tt
time_allowed written_runs t h = h

pub fits_signed : (n : ℤ) → FitsSigned w128 n → fits n ≡ true
unfolding fits
fits_signed (pos n) h = let k : n < 2 ^ 127 = h.sfits in grind (arith, nat_tests)
fits_signed (negsuc n) h = let k : n < 2 ^ 127 = h.sfits in grind (arith, nat_tests)

pub fits_short : (n : ℤ) → FitsSigned w64 n → fits n ≡ true
fits_short (pos n) h =
    let k : n < 2 ^ 63 = h.sfits in
    let l : n < 2 ^ 127 = omega arith in
    fits_signed (pos n) (record { sfits = l })
fits_short (negsuc n) h =
    let k : n < 2 ^ 63 = h.sfits in
    let l : n < 2 ^ 127 = omega arith in
    fits_signed (negsuc n) (record { sfits = l })

-- a state's entries, and no time yet
abbrev pub entries_alone : StateMaps → Known
entries_alone s = record {
  symbols = symbols_of [] [] [] [] [];
  view = record {
    accounts = in_numbers (entries s.accounts);
    choices = in_numbers (entries s.choices);
    bound = in_numbers (entries s.bound_values);
    paid = [];
    start = number s.min_time;
    end = number s.min_time;
    times = [];
  };
}

entries_described : (scope : Scope) (s : StateMaps) → AllPositive (entries s.accounts) → NumbersFit s → fits s.min_time ≡ true → IsDescribed scope (entries_alone s) (record { from = s.min_time; to = s.min_time }) s []
entries_described scope s above fit time =
    let r : Valuation = λ n. pos 0 in
    record {
      closed = record { ranges = tt; facts = tt; apart = tt; operations = tt; branches = tt };
      below = record {
        accounts = numbers_below 0 (entries s.accounts);
        choices = numbers_below 0 (entries s.choices);
        bound = numbers_below 0 (entries s.bound_values);
        paid = tt;
        start = tt;
        end = tt;
        times = tt;
      };
      numbers = r;
      valued = record { ranges = tt; facts = tt; apart = tt; operations = tt; branches = tt };
      seen = record {
        accounts = λ a. ap (λ o. unwrap_or o (pos 0)) (get-entries s.accounts a) ∙ held_numbers account_cmp r (entries s.accounts) a;
        choices = λ id. get-entries s.choices id ∙ found_numbers choice_id_cmp r (entries s.choices) id;
        bound = λ x. get-entries s.bound_values x ∙ found_numbers bytes_cmp r (entries s.bound_values) x;
        paid = λ a. refl;
        start = plus_none s.min_time;
        end = plus_none s.min_time;
        valid = le_self s.min_time;
        times = no_times scope r;
        natural = λ a. subst (λ o. pos 0 ≤ℤ unwrap_or o (pos 0)) (sym (get-entries s.accounts a)) (AllPositive-find account_cmp a (entries s.accounts) above);
        money = λ a. unwrapped_allowed scope (get s.accounts a) (subst (λ o. IfSome o (Allowed scope)) (sym (get-entries s.accounts a)) (found_fits account_cmp scope (entries s.accounts) a fit.accounts));
        chosen = λ id. subst (λ o. IfSome o (Allowed scope)) (sym (get-entries s.choices id)) (found_fits choice_id_cmp scope (entries s.choices) id fit.choices);
        values = λ x. subst (λ o. IfSome o (Allowed scope)) (sym (get-entries s.bound_values x)) (found_fits bytes_cmp scope (entries s.bound_values) x fit.bound);
        from = time_allowed scope s.min_time time;
        to = time_allowed scope s.min_time time;
      };
    }
  where
    no_times : (scope : Scope) (r : Valuation) → AreTimes scope r []
    no_times any_runs r = tt
    no_times written_runs r = tt

pub starts_by : (s : StateMaps) (k m : Known) → AllPositive (entries s.accounts) → NumbersFit s → fits s.min_time ≡ true → k ≡ entries_alone s → IsLater IsDescribed k m → (scope : Scope) → DescribesStart IsDescribed scope m s
starts_by s k m above fit time is later scope i up valid admitted =
    subst (λ k. IsLater IsDescribed k m) is later scope (record { from = s.min_time; to = s.min_time }) i s [] i.from (entries_described scope s above fit time) up valid admitted
