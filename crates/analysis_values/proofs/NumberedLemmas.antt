-- Entries whose numbers become expressions.
use Rattle.std.proofs.Common.{◌≡◌, ℕ, ◌+◌, ◌<◌, ℤ, List, [], ◌∷◌, ◌++◌, take, length, get_or, refl, sym, ap, ◌∙◌}
use Rattle.std.proofs.lemmas.List.{take_more}
use Rattle.linear.specs.Linear.{Linear, number}
use Rattle.analysis_values.specs.Entries.{in_numbers}

module _ {K : Type 0} where
  numbers_last : (es : List (K × ℤ)) (x : K × ℤ) → in_numbers (es ++ x ∷ []) ≡ in_numbers es ++ (x.0, number x.1) ∷ []
  numbers_last [] x = refl
  numbers_last (e ∷ es) x = ap (λ (z : List (K × Linear)). (e.0, number e.1) ∷ z) (numbers_last es x)

  -- one more entry
  pub numbers_more : (es : List (K × ℤ)) (i : ℕ) (x : K × ℤ) (k : K) (l : Linear) (a b : List (K × Linear)) → i < length es → x ≡ get_or es i x → k ≡ x.0 → l ≡ number x.1 → a ≡ in_numbers (take i es) → b ≡ a ++ (k, l) ∷ []
      → b ≡ in_numbers (take (i + 1) es)
  numbers_more es i x k l a b h is e f g j =
      j ∙ ap (λ (z : List (K × Linear)). z ++ (k, l) ∷ []) g ∙ ap (λ (q : K). in_numbers (take i es) ++ (q, l) ∷ []) e ∙ ap (λ (q : Linear). in_numbers (take i es) ++ (x.0, q) ∷ []) f ∙ sym (numbers_last (take i es) x)
      ∙ ap in_numbers (sym (take_more es i x h ∙ ap (λ (y : K × ℤ). take i es ++ y ∷ []) (sym is)))
