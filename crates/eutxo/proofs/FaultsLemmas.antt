-- One more element of a list that is searched for its first place.
use Rattle.std.proofs.Common.{◌≡◌, ℕ, ◌+◌, ◌<◌, Bool, true, false, List, sym, ◌∙◌, ap, Some, drop, length, get_or}
use Rattle.std.specs.Prelude.{if◌then◌else◌}
use Rattle.std.proofs.lemmas.List.{at_drop_more}
use Rattle.eutxo.specs.Faults.{first_index}

pub found_place : {A : Type 0} (test : ℕ → A → Bool) (xs : List A) (i : ℕ) (d : A) → i < length xs → d ≡ get_or xs i d → test i d ≡ true → first_index test i (drop i xs) ≡ Some i
found_place test xs i d h e t =
    at_drop_more (first_index test i) xs i d h
    ∙ ap (λ (x : _). if test i x then Some i else first_index test (i + 1) (drop (i + 1) xs)) (sym e)
    ∙ ap (λ (b : Bool). if b then Some i else first_index test (i + 1) (drop (i + 1) xs)) t

pub next_place : {A : Type 0} (test : ℕ → A → Bool) (xs : List A) (i : ℕ) (d : A) → i < length xs → d ≡ get_or xs i d → test i d ≡ false → first_index test i (drop i xs) ≡ first_index test (i + 1) (drop (i + 1) xs)
next_place test xs i d h e t =
    at_drop_more (first_index test i) xs i d h
    ∙ ap (λ (x : _). if test i x then Some i else first_index test (i + 1) (drop (i + 1) xs)) (sym e)
    ∙ ap (λ (b : Bool). if b then Some i else first_index test (i + 1) (drop (i + 1) xs)) t
