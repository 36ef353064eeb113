-- Ada is the token without a symbol and without a name.
use Rattle.std.proofs.Common.{◌≡◌, ℕ, suc, Bool, true, false, List, [], ◌∷◌, length, refl, sym, ap, ◌∙◌, arith}
use Rattle.std.specs.Prelude.{◌==◌}
use Rattle.std.specs.declared.cmp.Ordering.{Ordering}
use Rattle.std.specs.declared.cmp.Ordering.TheVariants.{Less, Equal, Greater}
use Rattle.std.specs.Ordering.{is_eq, ordering_then}
use Rattle.std.proofs.lemmas.Bool.Decides.{Decides-eqb}
use Rattle.contract.specs.Names.declared.token.Token.{Token}
use Rattle.contract.specs.Names.Orders.{bytes_cmp}
use Rattle.contract.specs.Names.Equal.{is_ada}

is_empty : (xs : List ℕ) (b : Bool) → b ≡ (length xs == 0) → b ≡ is_eq (bytes_cmp xs [])
is_empty [] b e = e
is_empty (x ∷ xs) true e = let q : suc (length xs) ≡ 0 = (Decides-eqb (suc (length xs)) 0).0 (sym e) in absurd (omega arith)
is_empty (x ∷ xs) false e = refl

by_second : (o p : Ordering) → is_eq o ≡ true → is_eq p ≡ is_eq (ordering_then o p)
by_second Less p e = absurd (cc)
by_second Equal p e = refl
by_second Greater p e = absurd (cc)

by_first : (o p : Ordering) → is_eq o ≡ false → is_eq o ≡ is_eq (ordering_then o p)
by_first Less p e = refl
by_first Equal p e = absurd (cc)
by_first Greater p e = refl

-- whether the symbol is empty, and whether the name is
pub ada_by_name : (t : Token) (xs ys : List ℕ) (a b : Bool) → a ≡ (length xs == 0) → b ≡ (length ys == 0) → xs ≡ t.symbol → ys ≡ t.name → a ≡ true → b ≡ is_ada t
ada_by_name t xs ys a b e f p q h =
    is_empty ys b f ∙ ap (λ z. is_eq (bytes_cmp z [])) q ∙ by_second (bytes_cmp t.symbol []) (bytes_cmp t.name []) (ap (λ z. is_eq (bytes_cmp z [])) (sym p) ∙ sym (is_empty xs a e) ∙ h)

pub not_ada : (t : Token) (xs : List ℕ) (a : Bool) → a ≡ (length xs == 0) → xs ≡ t.symbol → a ≡ false → a ≡ is_ada t
not_ada t xs a e p h =
    is_empty xs a e ∙ ap (λ z. is_eq (bytes_cmp z [])) p ∙ by_first (bytes_cmp t.symbol []) (bytes_cmp t.name []) (ap (λ z. is_eq (bytes_cmp z [])) (sym p) ∙ sym (is_empty xs a e) ∙ h)
