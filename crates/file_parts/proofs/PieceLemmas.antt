-- What a walk over a list finds, one item after another.
use Rattle.std.proofs.Common.{◌≡◌, ℕ, ◌+◌, ◌<◌, ◌≤◌, List, [], ◌∷◌, ◌++◌, length, get_or, drop, sym, ap, ◌∙◌, append_assoc, append-nil}
use Rattle.std.proofs.lemmas.List.{drop_more, drop_all}

module _ {V X : Type 0} (all : List V → List X) (one : V → List X) where
  pub past : ((v : V) (vs : List V) → all (v ∷ vs) ≡ one v ++ all vs) → (start out new : List X) (vs : List V) (i : ℕ) (v : V) → i < length vs → get_or vs i v ≡ v
      → out ++ all (drop i vs) ≡ start → new ≡ out ++ one v → new ++ all (drop (i + 1) vs) ≡ start
  past opens start out new vs i v below is before made =
      ap (λ xs. xs ++ all (drop (i + 1) vs)) made
      ∙ append_assoc out (one v) (all (drop (i + 1) vs))
      ∙ ap (λ xs. out ++ xs) (sym (ap all (drop_more vs i v below ∙ ap (λ x. x ∷ drop (i + 1) vs) is) ∙ opens v (drop (i + 1) vs)))
      ∙ before

  pub to_end : all [] ≡ [] → (start out : List X) (vs : List V) (i : ℕ) → length vs ≤ i → out ++ all (drop i vs) ≡ start → out ≡ start
  to_end none start out vs i over before = sym (append-nil out) ∙ sym (ap (λ xs. out ++ xs) (ap all (drop_all i vs over) ∙ none)) ∙ before
