-- One more input with its output.
use Rattle.std.proofs.Common.{◌≡◌, ℕ, zero, suc, ◌+◌, ◌<◌, List, [], ◌∷◌, ◌++◌, Option, Some, None, drop, length, get_or, refl, sym, ◌∙◌, ap, arith, append_assoc}
use Rattle.std.specs.Option.{option_map}
use Rattle.eutxo_types.specs.declared.output.Output.{Output}
use Rattle.eutxo_types.specs.declared.spend.Spend.{Spend}
use Rattle.eutxo.specs.FoundSupport.{found_at}
use Rattle.eutxo.specs.Found.{with_output, with_outputs}

nothing_left : {A : Type 0} (i : ℕ) → drop {A = A} i [] ≡ []
nothing_left zero = refl
nothing_left (suc i) = refl

pair_here : (xs : List Spend) (os : List (Option Output)) (i : ℕ) (x : Spend) → i < length xs → x ≡ get_or xs i x →
    with_outputs (drop i xs) (drop i os) ≡ with_output x (found_at os i) (with_outputs (drop (suc i) xs) (drop (suc i) os))
pair_here [] os i x l e = absurd (omega (arith, l))
pair_here (y ∷ xs) [] zero x l e = refl
pair_here (y ∷ xs) (o ∷ os) zero x l e = ap (λ z. with_output z o (with_outputs xs os)) (sym e)
pair_here (y ∷ xs) [] (suc i) x l e =
    ap (with_outputs (drop i xs)) (sym (nothing_left i)) ∙ pair_here xs [] i x (omega (arith, l)) e
pair_here (y ∷ xs) (o ∷ os) (suc i) x l e = pair_here xs os i x (omega (arith, l)) e

-- what is paired from a place on begins with the pair at that place
pub pair_at : (xs : List Spend) (os : List (Option Output)) (i : ℕ) (x : Spend) → i < length xs → x ≡ get_or xs i x →
    with_outputs (drop i xs) (drop i os) ≡ with_output x (found_at os i) (with_outputs (drop (i + 1) xs) (drop (i + 1) os))
pair_at xs os i x l e = pair_here xs os i x l e ∙ ap (λ j. with_output x (found_at os i) (with_outputs (drop j xs) (drop j os))) (let n : suc i ≡ i + 1 = omega arith in n)

pushed : {A : Type 0} (ys : List A) (p : A) (r : Option (List A)) → option_map (λ rest. ys ++ rest) (option_map (λ rest. p ∷ rest) r) ≡ option_map (λ rest. (ys ++ p ∷ []) ++ rest) r
pushed ys p None = refl
pushed ys p (Some zs) = ap Some (sym (append_assoc ys (p ∷ []) zs))

pub next_pair : (xs : List Spend) (os : List (Option Output)) (ys : List (Spend × Output)) (i : ℕ) (x : Spend) (o : Output) → i < length xs → x ≡ get_or xs i x → found_at os i ≡ Some o →
    option_map (λ rest. ys ++ rest) (with_outputs (drop i xs) (drop i os)) ≡ option_map (λ rest. (ys ++ (x, o) ∷ []) ++ rest) (with_outputs (drop (i + 1) xs) (drop (i + 1) os))
next_pair xs os ys i x o l e f =
    ap (option_map (λ rest. ys ++ rest)) (pair_at xs os i x l e ∙ ap (λ q. with_output x q (with_outputs (drop (i + 1) xs) (drop (i + 1) os))) f)
    ∙ pushed ys (x, o) (with_outputs (drop (i + 1) xs) (drop (i + 1) os))

pub no_pair : (xs : List Spend) (os : List (Option Output)) (ys : List (Spend × Output)) (i : ℕ) (x : Spend) → i < length xs → x ≡ get_or xs i x → found_at os i ≡ None →
    option_map (λ rest. ys ++ rest) (with_outputs (drop i xs) (drop i os)) ≡ None
no_pair xs os ys i x l e f =
    ap (option_map (λ rest. ys ++ rest)) (pair_at xs os i x l e ∙ ap (λ q. with_output x q (with_outputs (drop (i + 1) xs) (drop (i + 1) os))) f)
