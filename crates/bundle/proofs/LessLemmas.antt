-- One entry less of what is left, where zeros stand for nothing.
use Rattle.std.proofs.Common.{◌≡◌, ℕ, ℤ, pos, ◌-ℤ◌, ◌≤ℤ◌, List, ◌∷◌, get_or, set, None, sym, ◌∙◌, ap, subst, arith}
use Rattle.std.proofs.Math.Dec.{T}
use Rattle.std.proofs.lemmas.Int.{ints}
use Rattle.std.specs.FinMap.{from_sorted}
use Rattle.std.specs.FinMap.Entries.{put, is_sorted, is_sorted-put}
use Rattle.names.proofs.FromCollections.Places.{IsAt, put_at}
use Rattle.names.specs.declared.token.Token.{Token}
use Rattle.names.specs.Orders.{token_cmp}
use Rattle.names.specs.Totals.{token_total}
use Rattle.bundle.specs.Bundles.{Amounts, with_amount, each, first_short, AllPositive}
use Rattle.bundle.specs.WalksSupport.{amount_in, AllNatural, without_zeros}
use Rattle.bundle.proofs.CoverLaws.{AllCovered, all_covered}
use Rattle.bundle.proofs.LoopLemmas.{IsTaking, taken}
use Rattle.bundle.proofs.ZeroLemmas.{amount_of-without_zeros, put_without_zeros, natural-put, natural_of_positive, no_zeros}

rest_natural : (m n : ℤ) → n ≤ℤ m → pos 0 ≤ℤ (m -ℤ n)
rest_natural m n h = omega (arith, ints, h)

-- what is left so far stands in these entries
pub record IsLessening (held : Amounts) (all es left : List (Token × ℤ)) : Type 0 where
  pub taking : IsTaking held all (from_sorted (without_zeros es)) left
  pub sorted : T (is_sorted token_cmp es)
  pub natural : AllNatural es

pub starting : (es less : List (Token × ℤ)) → T (is_sorted token_cmp es) → AllPositive es → T (is_sorted token_cmp less) → AllPositive less → first_short (from_sorted es) less ≡ None → IsLessening (from_sorted es) less es less
starting es less s p t q c =
    let same = no_zeros es p in
    record {
      taking = record {
        whole = ap (λ xs. each (λ m n. m -ℤ n) (from_sorted {R = token_cmp} xs) less) same;
        covered = subst (λ xs. AllCovered (from_sorted xs) less) (sym same) (all_covered (from_sorted es) less c);
        positive = q;
        sorted = t;
      };
      sorted = s;
      natural = natural_of_positive es p;
    }

-- there is as much as the next entry has
pub enough : (held : Amounts) (all es : List (Token × ℤ)) (e : Token × ℤ) (left : List (Token × ℤ)) → IsLessening held all es (e ∷ left) → e.1 ≤ℤ amount_in es e.0
enough held all es e left h = subst (λ n. e.1 ≤ℤ n) (amount_of-without_zeros es e.0 h.sorted) h.taking.covered.0

pub lessened : (held : Amounts) (all es : List (Token × ℤ)) (e : Token × ℤ) (left : List (Token × ℤ)) → IsLessening held all es (e ∷ left) → IsLessening held all (put token_cmp e.0 (amount_in es e.0 -ℤ e.1) es) left
lessened held all es e left h = record {
  taking = subst (λ m. IsTaking held all m left)
      (ap (λ n. with_amount (from_sorted (without_zeros es)) e.0 (n -ℤ e.1)) (amount_of-without_zeros es e.0 h.sorted) ∙ sym (put_without_zeros es e.0 (amount_in es e.0 -ℤ e.1) h.sorted))
      (taken held all (from_sorted (without_zeros es)) e left h.taking);
  sorted = is_sorted-put token_cmp token_total e.0 (amount_in es e.0 -ℤ e.1) es h.sorted;
  natural = natural-put e.0 (amount_in es e.0 -ℤ e.1) es (rest_natural _ _ (enough held all es e left h)) h.natural;
}

-- the token's entry with another amount is the put
pub put_is_set : (t : Token) (v : ℤ) (es : List (Token × ℤ)) (i : ℕ) (d : Token × ℤ) → IsAt token_cmp t es i → set es i ((get_or es i d).0, v) ≡ put token_cmp t v es
put_is_set t v es i d h = sym (put_at token_cmp t v es i d h)
