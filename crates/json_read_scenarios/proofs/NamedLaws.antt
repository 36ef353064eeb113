-- What was read names what is there.
use Rattle.std.proofs.Common.{◌≡◌, ℕ, suc, ◌+◌, ◌<◌, ◌≤◌, Bool, true, false, cond, List, [], ◌∷◌, ◌++◌, length, Option, Some, None, Result, Ok, Err, refl, sym, ap, ◌∙◌, subst, arith}
use Rattle.std.specs.Prelude.{option_map, nat_lt, codes, if◌then◌else◌}
use Rattle.std.specs.List.{All}
use Rattle.std.proofs.lemmas.List.{length-append}
use Rattle.std.proofs.lemmas.List.Elements.{All-nil, All-cons, All-append}
use Rattle.contract.specs.Collections.Answers.{◌>>=◌}
use Rattle.contract.specs.declared.input.Input.{Input}
use Rattle.contract.specs.Names.Equal.{same_text}
use Rattle.serde_json.specs.Data.{Data, Items, no_items, item}
use Rattle.serde_json.specs.Find.{get, as_array}
use Rattle.json_read_names.specs.Parts.{Reading, needed, member_at, reading_at, text, all_items, list}
use Rattle.json_read_names.specs.declared.fault.JsonFault.{JsonFault}
use Rattle.json_read_scenarios.specs.Names.{place_of, known, one_by_one, list_in_turn}

-- what a reading in two steps gave, the first gave something of which the second gave it
pub record Stepped {A B : Type 0} (first : Reading A) (second : A → Reading B) (b : B) : Type 0 where
  pub value : A
  pub first_is : first ≡ Ok value
  pub second_is : second value ≡ Ok b

pub stepped : {A B : Type 0} (first : Reading A) (second : A → Reading B) (b : B) → (first >>= second) ≡ Ok b → Stepped first second b
stepped (Ok a) second b is = record { value = a; first_is = refl; second_is = is }
stepped (Err fault) second b is = absurd (cc)

some_is : {A : Type 0} (o : Option A) (a : A) → needed o ≡ Ok a → o ≡ Some a
some_is (Some x) a is = cc
some_is None a is = absurd (cc)

-- what is read at a key was read of some value
pub at_key : {A : Type 0} (reading : Data → Reading A) (d : Data) (key : List ℕ) (a : A) → reading_at reading d key ≡ Ok a → (e : Data) × (reading e ≡ Ok a)
at_key reading d key a is =
    let s = stepped (member_at key d) reading a is in (s.value, s.second_is)

-- ---- places of names

below_more : (o : Option ℕ) (n place : ℕ) → ((k : ℕ) → o ≡ Some k → k < n) → option_map (λ i. i + 1) o ≡ Some place → place < suc n
below_more None n place h is = absurd (cc)
below_more (Some k) n place h is =
    let below : k < n = h k refl in
    let at : k + 1 ≡ place = cc in omega (arith, below, at)

module _ {X : Type 0} (name_of : X → List ℕ) where
  place_is_there : (name : List ℕ) (xs : List X) (place : ℕ) → place_of name_of name xs ≡ Some place → place < length xs
  place_is_there name [] place is = absurd (cc)
  place_is_there name (x ∷ xs) place is =
      elim (same_text (name_of x) name)
      as (λ b. cond b (Some 0) (option_map (λ i. i + 1) (place_of name_of name xs)) ≡ Some place → place < length (x ∷ xs)) [
        | true ↦ λ first.
            let at : 0 ≡ place = cc in omega (arith, at)
        | false ↦ λ later. below_more (place_of name_of name xs) (length xs) place (λ k there. place_is_there name xs k there) later
      ] is

  pub known_is_there : (xs : List X) (d : Data) (place : ℕ) → known name_of xs d ≡ Ok place → place < length xs
  known_is_there xs d place is =
      let s = stepped (text d) (λ name. needed (place_of name_of name xs)) place is in
      place_is_there s.value xs place (some_is (place_of name_of s.value xs) place s.second_is)

-- ---- lists

-- what holds of each item that is read holds of all
all_read : {X : Type 0} (P : X → Type 0) (reading : Data → Reading X) → ((d : Data) (x : X) → reading d ≡ Ok x → P x) → (ds : Items) (xs : List X) → all_items reading ds ≡ Ok xs → All P xs
all_read {X} P reading each no_items xs is =
    let none : ◌≡◌ {A = List X} [] xs = cc in subst (All P) none (All-nil P)
all_read {X} P reading each (item d ds) xs is =
    let one = stepped (reading d) (λ x. all_items reading ds >>= λ xs. Ok (x ∷ xs)) xs is in
    let rest = stepped (all_items reading ds) (λ xs. Ok (one.value ∷ xs)) xs one.second_is in
    let whole : ◌≡◌ {A = List X} (one.value ∷ rest.value) xs = let h = rest.second_is in cc in
    subst (All P) whole (All-cons P one.value rest.value (each d one.value one.first_is) (all_read P reading each ds rest.value rest.first_is))

pub list_read : {X : Type 0} (P : X → Type 0) (reading : Data → Reading X) → ((d : Data) (x : X) → reading d ≡ Ok x → P x) → (d : Data) (xs : List X) → list reading d ≡ Ok xs → All P xs
list_read P reading each d xs is =
    let s = stepped (needed (as_array d)) (all_items reading) xs is in all_read P reading each s.value xs s.second_is

-- the same where each is read beside those before it
read_in_turn : {X : Type 0} (P : X → Type 0) (reading : List X → Data → Reading X) → ((before : List X) (d : Data) (x : X) → reading before d ≡ Ok x → P x) → (before : List X) (ds : Items) (xs : List X) → All P before → one_by_one reading before ds ≡ Ok xs → All P xs
read_in_turn {X} P reading each before no_items xs all is =
    let same : ◌≡◌ {A = List X} before xs = cc in subst (All P) same all
read_in_turn P reading each before (item d ds) xs all is =
    let one = stepped (reading before d) (λ x. one_by_one reading (before ++ x ∷ []) ds) xs is in
    read_in_turn P reading each (before ++ one.value ∷ []) ds xs (All-append P before (one.value ∷ []) all (All-cons P one.value [] (each before d one.value one.first_is) (All-nil P))) one.second_is

pub list_read_in_turn : {X : Type 0} (P : X → Type 0) (reading : List X → Data → Reading X) → ((before : List X) (d : Data) (x : X) → reading before d ≡ Ok x → P x) → (d : Data) (xs : List X) → list_in_turn reading d ≡ Ok xs → All P xs
list_read_in_turn P reading each d xs is =
    let s = stepped (needed (as_array d)) (one_by_one reading []) xs is in read_in_turn P reading each [] s.value xs (All-nil P) s.second_is

-- where an item is read only beside fewer than so many, there are at most so many
few_in_turn : {X : Type 0} (most : ℕ) (reading : List X → Data → Reading X) → ((before : List X) (d : Data) (x : X) → reading before d ≡ Ok x → length before < most) → (before : List X) (ds : Items) (xs : List X) → length before ≤ most → one_by_one reading before ds ≡ Ok xs → length xs ≤ most
few_in_turn {X} most reading each before no_items xs few is =
    let same : ◌≡◌ {A = List X} before xs = cc in subst (λ (l : List X). length l ≤ most) same few
few_in_turn most reading each before (item d ds) xs few is =
    let one = stepped (reading before d) (λ x. one_by_one reading (before ++ x ∷ []) ds) xs is in
    let below : length before < most = each before d one.value one.first_is in
    let long : length (before ++ one.value ∷ []) ≡ length before + 1 = length-append before (one.value ∷ []) in
    few_in_turn most reading each (before ++ one.value ∷ []) ds xs (omega (arith, below, long)) one.second_is

pub few_read : {X : Type 0} (most : ℕ) (reading : List X → Data → Reading X) → ((before : List X) (d : Data) (x : X) → reading before d ≡ Ok x → length before < most) → (d : Data) (xs : List X) → list_in_turn reading d ≡ Ok xs → length xs ≤ most
few_read most reading each d xs is =
    let s = stepped (needed (as_array d)) (one_by_one reading []) xs is in
    let none : 0 ≤ most = omega arith in few_in_turn most reading each [] s.value xs none s.second_is
