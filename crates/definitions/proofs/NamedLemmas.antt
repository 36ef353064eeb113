-- What stands at the place of a name.
use Rattle.std.proofs.Common.{◌≡◌, ℕ, zero, suc, ◌+◌, ◌<◌, ◌≤◌, List, [], ◌∷◌, ◌++◌, length, get_or, take, Bool, true, false, Option, Some, None, refl, sym, ap, subst, arith, add-one, length-append, ◌-◌}
use Rattle.std.specs.Prelude.{option_map, if◌then◌else◌, nat_le}
use Rattle.std.specs.List.{remove}
use Rattle.std.proofs.lemmas.Bool.{and_parts}
use Rattle.std.proofs.lemmas.Bool.Decides.{nat_tests}
use Rattle.std.proofs.Math.ListN.{set, length-set}
use Rattle.std.proofs.lemmas.List.Edits.{length-remove}
use Rattle.contract.specs.declared.tree.Contract.{Contract}
use Rattle.contract.specs.Names.Equal.{same_text}
use Rattle.definitions.specs.declared.definition.Definition.{Definition}
use Rattle.definitions.specs.Named.{named, put_named, without_named, bytes_of, has_room}
use Rattle.definitions.specs.NamedSupport.{place_of}

-- ---- the first place

abbrev first_or : Bool → Option ℕ → Option ℕ
first_or b rest = if b then Some 0 else option_map suc rest

none-step : (b : Bool) (old new : Option ℕ) → first_or b old ≡ None → (old ≡ None → new ≡ None) → first_or b new ≡ None
none-step true old new h f = absurd (cc)
none-step false None new h f = rw (f refl) refl
none-step false (Some j) new h f = absurd (cc)

here-step : (b : Bool) (old new : Option ℕ) (i : ℕ) → first_or b old ≡ None → (old ≡ None → new ≡ Some i) → first_or b new ≡ Some (suc i)
here-step true old new i h f = absurd (cc)
here-step false None new i h f = rw (f refl) refl
here-step false (Some j) new i h f = absurd (cc)

none-next : (n : List ℕ) (ds : List Definition) (i : ℕ) (d : Definition) → i < length ds → place_of n (take i ds) ≡ None
    → same_text (get_or ds i d).name n ≡ false → place_of n (take (suc i) ds) ≡ None
none-next n [] i d below none other = absurd (omega arith)
none-next n (e ∷ ds) zero d below none other = rw other refl
none-next n (e ∷ ds) (suc i) d below none other =
    none-step (same_text e.name n) (place_of n (take i ds)) (place_of n (take (suc i) ds)) none (λ before. none-next n ds i d (omega arith) before other)

-- the name stands at a place, and nowhere before it
pub place-here : (n : List ℕ) (ds : List Definition) (i : ℕ) (d : Definition) → i < length ds → place_of n (take i ds) ≡ None
    → same_text (get_or ds i d).name n ≡ true → place_of n ds ≡ Some i
place-here n [] i d below none is = absurd (omega arith)
place-here n (e ∷ ds) zero d below none is = rw is refl
place-here n (e ∷ ds) (suc i) d below none is =
    here-step (same_text e.name n) (place_of n (take i ds)) (place_of n ds) i none (λ before. place-here n ds i d (omega arith) before is)

-- .. nor there
pub place-before : (n : List ℕ) (ds : List Definition) (i : ℕ) (d : Definition) → i < length ds → place_of n (take i ds) ≡ None
    → same_text (get_or ds i d).name n ≡ false → place_of n (take (i + 1) ds) ≡ None
place-before n ds i d below none other = rw (add-one i) (none-next n ds i d below none other)

-- ---- what is there

within-step : (b : Bool) (rest : Option ℕ) (i n : ℕ) → first_or b rest ≡ Some i → ((j : ℕ) → rest ≡ Some j → j < n) → i < suc n
within-step true rest i n h f = let z : 0 ≡ i = cc in omega arith
within-step false None i n h f = absurd (cc)
within-step false (Some j) i n h f = let z : suc j ≡ i = cc in let below : j < n = f j refl in omega arith

pub place-within : (n : List ℕ) (ds : List Definition) (i : ℕ) → place_of n ds ≡ Some i → i < length ds
place-within n [] i h = absurd (cc)
place-within n (e ∷ ds) i h = within-step (same_text e.name n) (place_of n ds) i (length ds) h (λ j. place-within n ds j)

named-step : (b : Bool) (rest : Option ℕ) (tail : Option Contract) (e : Definition) (ds : List Definition) (i : ℕ) (d : Definition) → first_or b rest ≡ Some i
    → ((j : ℕ) → rest ≡ Some j → tail ≡ Some (get_or ds j d).contract) → (if b then Some e.contract else tail) ≡ Some (get_or (e ∷ ds) i d).contract
named-step true rest tail e ds i d h f = let z : 0 ≡ i = cc in subst (λ k. Some e.contract ≡ Some (get_or (e ∷ ds) k d).contract) z refl
named-step false None tail e ds i d h f = absurd (cc)
named-step false (Some j) tail e ds i d h f = let z : suc j ≡ i = cc in subst (λ k. tail ≡ Some (get_or (e ∷ ds) k d).contract) z (f j refl)

pub named-at : (n : List ℕ) (ds : List Definition) (i : ℕ) (d : Definition) → place_of n ds ≡ Some i → named n ds ≡ Some (get_or ds i d).contract
named-at n [] i d h = absurd (cc)
named-at n (e ∷ ds) i d h = named-step (same_text e.name n) (place_of n ds) (named n ds) e ds i d h (λ j. named-at n ds j d)

nowhere-step : {X : Type 0} (b : Bool) (rest : Option ℕ) (x : X) (old new : X) → first_or b rest ≡ None → (rest ≡ None → old ≡ new) → (if b then x else old) ≡ new
nowhere-step true rest x old new h f = absurd (cc)
nowhere-step false None x old new h f = f refl
nowhere-step false (Some j) x old new h f = absurd (cc)

pub named-nowhere : (n : List ℕ) (ds : List Definition) → place_of n ds ≡ None → named n ds ≡ None
named-nowhere n [] h = refl
named-nowhere n (e ∷ ds) h = nowhere-step (same_text e.name n) (place_of n ds) (Some e.contract) (named n ds) None h (named-nowhere n ds)

-- ---- what is changed

list-step : (b : Bool) (rest : Option ℕ) (here : List Definition) (tail : List Definition) (made : ℕ → List Definition) (e : Definition) (i : ℕ)
    → first_or b rest ≡ Some i → here ≡ made 0 → ((j : ℕ) → rest ≡ Some j → e ∷ tail ≡ made (suc j)) → (if b then here else e ∷ tail) ≡ made i
list-step true rest here tail made e i h first f = let z : 0 ≡ i = cc in subst (λ k. here ≡ made k) z first
list-step false None here tail made e i h first f = absurd (cc)
list-step false (Some j) here tail made e i h first f = let z : suc j ≡ i = cc in subst (λ k. e ∷ tail ≡ made k) z (f j refl)

pub put-at : (new : Definition) (ds : List Definition) (i : ℕ) → place_of new.name ds ≡ Some i → put_named new ds ≡ set ds i new
put-at new [] i h = absurd (cc)
put-at new (e ∷ ds) i h =
    list-step (same_text e.name new.name) (place_of new.name ds) (new ∷ ds) (put_named new ds) (λ k. set (e ∷ ds) k new) e i h refl (λ j is. ap (λ xs. e ∷ xs) (put-at new ds j is))

pub put-behind : (new : Definition) (ds : List Definition) → place_of new.name ds ≡ None → put_named new ds ≡ ds ++ new ∷ []
put-behind new [] h = refl
put-behind new (e ∷ ds) h =
    nowhere-step (same_text e.name new.name) (place_of new.name ds) (new ∷ ds) (e ∷ put_named new ds) (e ∷ (ds ++ new ∷ [])) h (λ none. ap (λ xs. e ∷ xs) (put-behind new ds none))

pub without-at : (n : List ℕ) (ds : List Definition) (i : ℕ) → place_of n ds ≡ Some i → without_named n ds ≡ remove ds i
without-at n [] i h = absurd (cc)
without-at n (e ∷ ds) i h =
    list-step (same_text e.name n) (place_of n ds) ds (without_named n ds) (λ k. remove (e ∷ ds) k) e i h refl (λ j is. ap (λ xs. e ∷ xs) (without-at n ds j is))

pub without-nowhere : (n : List ℕ) (ds : List Definition) → place_of n ds ≡ None → without_named n ds ≡ ds
without-nowhere n [] h = refl
without-nowhere n (e ∷ ds) h =
    nowhere-step (same_text e.name n) (place_of n ds) ds (e ∷ without_named n ds) (e ∷ ds) h (λ none. ap (λ xs. e ∷ xs) (without-nowhere n ds none))

-- ---- how much there is

swapped : (a b c : ℕ) → (a + c) + b ≡ (b + c) + a
swapped a b c = omega arith

swapped-two : (a b : ℕ) → a + b ≡ b + a
swapped-two a b = omega arith

alone : (a : ℕ) → a + 0 ≡ 0 + a
alone a = omega arith

behind-set : (e a b c d : ℕ) → a + b ≡ c + d → (e + a) + b ≡ (e + c) + d
behind-set e a b c d h = omega arith

behind-push : (e a b c : ℕ) → a ≡ b + c → e + a ≡ (e + b) + c
behind-push e a b c h = omega arith

behind-remove : (e a b c : ℕ) → a + b ≡ c → (e + a) + b ≡ e + c
behind-remove e a b c h = omega arith

pub bytes-set : (ds : List Definition) (i : ℕ) (new d : Definition) → i < length ds → bytes_of (set ds i new) + (get_or ds i d).bytes ≡ bytes_of ds + new.bytes
bytes-set [] i new d below = absurd (omega arith)
bytes-set (e ∷ ds) zero new d below = swapped new.bytes e.bytes (bytes_of ds)
bytes-set (e ∷ ds) (suc i) new d below =
    behind-set e.bytes (bytes_of (set ds i new)) (get_or ds i d).bytes (bytes_of ds) new.bytes (bytes-set ds i new d (omega arith))

pub bytes-push : (ds : List Definition) (new : Definition) → bytes_of (ds ++ new ∷ []) ≡ bytes_of ds + new.bytes
bytes-push [] new = alone new.bytes
bytes-push (e ∷ ds) new = behind-push e.bytes (bytes_of (ds ++ new ∷ [])) (bytes_of ds) new.bytes (bytes-push ds new)

pub bytes-remove : (ds : List Definition) (i : ℕ) (d : Definition) → i < length ds → bytes_of (remove ds i) + (get_or ds i d).bytes ≡ bytes_of ds
bytes-remove [] i d below = absurd (omega arith)
bytes-remove (e ∷ ds) zero d below = swapped-two (bytes_of ds) e.bytes
bytes-remove (e ∷ ds) (suc i) d below = behind-remove e.bytes (bytes_of (remove ds i)) (get_or ds i d).bytes (bytes_of ds) (bytes-remove ds i d (omega arith))

pub room : (ds : List Definition) → length ds ≤ 1000 → bytes_of ds ≤ 268435456 → has_room ds ≡ true
room ds few short = grind (arith, nat_tests)

pub no-room-of-bytes : (ds : List Definition) → 268435456 < bytes_of ds → has_room ds ≡ false
no-room-of-bytes ds long = grind (arith, nat_tests)

pub no-room-of-names : (ds : List Definition) → 1000 < length ds → has_room ds ≡ false
no-room-of-names ds many = grind (arith, nat_tests)

pub room-of-names : (ds : List Definition) → has_room ds ≡ true → length ds ≤ 1000
room-of-names ds h = let parts = and_parts (nat_le (length ds) 1000) (nat_le (bytes_of ds) 268435456) h in let few : nat_le (length ds) 1000 ≡ true = parts.0 in grind (arith, nat_tests)

pub room-of-bytes : (ds : List Definition) → has_room ds ≡ true → bytes_of ds ≤ 268435456
room-of-bytes ds h = let parts = and_parts (nat_le (length ds) 1000) (nat_le (bytes_of ds) 268435456) h in let short : nat_le (bytes_of ds) 268435456 ≡ true = parts.1 in grind (arith, nat_tests)

-- ---- as the calls do it

pub full-names : (items ds : List Definition) (new : Definition) → items ≡ ds → place_of new.name ds ≡ None → length items ≡ 1000 → has_room (put_named new ds) ≡ false
full-names items ds new same none many =
    let long : length ds ≡ 1000 = subst (λ (xs : List Definition). length xs ≡ 1000) same many in
    subst (λ (xs : List Definition). has_room xs ≡ false) (sym (put-behind new ds none)) (no-room-of-names (ds ++ new ∷ []) (omega (arith, length-append ds (new ∷ []))))

pub full-bytes : (items ds : List Definition) (new : Definition) (held : ℕ) → items ≡ ds → place_of new.name ds ≡ None → held ≡ bytes_of items → 268435456 - held < new.bytes
    → has_room (put_named new ds) ≡ false
full-bytes items ds new held same none sum more =
    let all : held ≡ bytes_of ds = subst (λ (xs : List Definition). held ≡ bytes_of xs) same sum in
    subst (λ (xs : List Definition). has_room xs ≡ false) (sym (put-behind new ds none)) (no-room-of-bytes (ds ++ new ∷ []) (omega (arith, bytes-push ds new)))

pub old-within : (items : List Definition) (i : ℕ) (old : Definition) (held : ℕ) → i < length items → old ≡ get_or items i old → held ≡ bytes_of items → old.bytes ≤ held
old-within items i old held below is sum =
    let one : old.bytes ≡ (get_or items i old).bytes = ap (λ (d : Definition). d.bytes) is in
    omega (arith, bytes-remove items i old below)

pub set-sum : (items : List Definition) (i : ℕ) (new old : Definition) (held : ℕ) → i < length items → old ≡ get_or items i old → held ≡ bytes_of items
    → held - old.bytes + new.bytes ≡ bytes_of (set items i new)
set-sum items i new old held below is sum =
    let one : old.bytes ≡ (get_or items i old).bytes = ap (λ (d : Definition). d.bytes) is in
    let within : old.bytes ≤ held = old-within items i old held below is sum in
    omega (arith, bytes-set items i new old below)

pub set-room : (items : List Definition) (i : ℕ) (new old : Definition) (held : ℕ) → i < length items → old ≡ get_or items i old → held ≡ bytes_of items → has_room items ≡ true
    → new.bytes ≤ 268435456 - (held - old.bytes) → has_room (set items i new) ≡ true
set-room items i new old held below is sum room-there few =
    let total : held - old.bytes + new.bytes ≡ bytes_of (set items i new) = set-sum items i new old held below is sum in
    let most : bytes_of items ≤ 268435456 = room-of-bytes items room-there in
    let names : length items ≤ 1000 = room-of-names items room-there in
    room (set items i new) (omega (arith, length-set items i new)) (omega arith)

pub set-full : (items : List Definition) (i : ℕ) (new old : Definition) (held : ℕ) → i < length items → old ≡ get_or items i old → held ≡ bytes_of items
    → 268435456 - (held - old.bytes) < new.bytes → has_room (set items i new) ≡ false
set-full items i new old held below is sum many =
    let total : held - old.bytes + new.bytes ≡ bytes_of (set items i new) = set-sum items i new old held below is sum in
    no-room-of-bytes (set items i new) (omega arith)

pub remove-sum : (items : List Definition) (i : ℕ) (old : Definition) (held : ℕ) → i < length items → old ≡ get_or items i old → held ≡ bytes_of items → held - old.bytes ≡ bytes_of (remove items i)
remove-sum items i old held below is sum =
    let one : old.bytes ≡ (get_or items i old).bytes = ap (λ (d : Definition). d.bytes) is in
    omega (arith, bytes-remove items i old below)

pub remove-room : (items : List Definition) (i : ℕ) (old : Definition) (held : ℕ) → i < length items → old ≡ get_or items i old → held ≡ bytes_of items → has_room items ≡ true → has_room (remove items i) ≡ true
remove-room items i old held below is sum room-there =
    let total : held - old.bytes ≡ bytes_of (remove items i) = remove-sum items i old held below is sum in
    let most : bytes_of items ≤ 268435456 = room-of-bytes items room-there in
    let names : length items ≤ 1000 = room-of-names items room-there in
    room (remove items i) (omega (arith, length-remove items i below)) (omega arith)

pub ruleset named_steps = (place-within, named-at, named-nowhere, put-at, put-behind, without-at, without-nowhere, bytes-set, bytes-push, bytes-remove, room, no-room-of-bytes, no-room-of-names, room-of-names, room-of-bytes)
