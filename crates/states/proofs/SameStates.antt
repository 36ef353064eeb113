-- States with the same parts are the same.
use Rattle.std.proofs.Common.{◌≡◌, ◌↔◌, List, Bool, IsTrue, ap, sym, ◌∙◌}
use Rattle.std.specs.declared.cmp.Ordering.{Ordering}
use Rattle.std.specs.FinMap.{FinMap, entries, same_entries_map}
use Rattle.states.specs.States.{StateMaps}

pub same_states : (s t : StateMaps) → s.accounts ≡ t.accounts → s.choices ≡ t.choices → s.bound_values ≡ t.bound_values → s.min_time ≡ t.min_time → s ≡ t
same_states s t a c b m = λ i. record { accounts = a i; choices = c i; bound_values = b i; min_time = m i }

-- a test of two maps' entries is one of the maps
pub same_by_entries : {K X : Type 0} {R : K → K → Ordering} (m n : FinMap R X) (r : Bool) (xs ys : List (K × X))
    → (IsTrue r ↔ (xs ≡ ys)) → xs ≡ entries m → ys ≡ entries n → IsTrue r ↔ (m ≡ n)
same_by_entries m n r xs ys test here there =
    (λ yes. same_entries_map m n (sym here ∙ test.0 yes ∙ there), λ e. test.1 (here ∙ ap entries e ∙ sym there))
