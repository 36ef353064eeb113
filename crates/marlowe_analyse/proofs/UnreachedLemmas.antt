-- Parts to which no run comes, as they are told.
use Rattle.std.proofs.Common.{◌≡◌, ℕ, suc, ◌+◌, Bool, true, false, cond, List, [], ◌∷◌, ◌++◌, append_assoc, map, take, length, refl, sym, ap, ◌∙◌, subst, arith}
use Rattle.std.specs.Prelude.{All, Contains, slice_index_or}
use Rattle.std.specs.declared.cmp.Ordering.{Ordering}
use Rattle.std.specs.declared.cmp.Ordering.TheVariants.{Less, Equal, Greater}
use Rattle.std.specs.Ordering.{is_lt, ordering_reverse, ordering_then, nat_cmp}
use Rattle.std.proofs.lemmas.Cmp.{nat_cmp_total}
use Rattle.std.specs.Cmp.Lexicographic.{nat_list_cmp_total, bytes_decides}
use Rattle.std.specs.List.Sorted.{IsSortedByKey}
use Rattle.std.proofs.lemmas.Map.Lookups.{exact_bytes}
use Rattle.std.specs.List.{AllByRecursion}
use Rattle.std.proofs.lemmas.List.Elements.{All-from_recursion, All-contains, All-push, recursion_from_All}
use Rattle.contract.specs.Tree.{ContractTree}
use Rattle.contract.specs.States.States.{StateMaps}
use Rattle.analysis_spec.specs.declared.path.PathStep.{PathStep}
use Rattle.analysis_spec.specs.Places.{IsPart}
use Rattle.analysis_spec.specs.Promises.{NeverReached}
use Rattle.analysis_spec.specs.Analysed.{AreNeverReached}
use Rattle.analysis_walk.proofs.ListLaws.{all_weaker, all_with}
use Rattle.places.specs.declared.key.Key.{Key}
use Rattle.places.specs.Places.{path_keys}
use Rattle.marlowe_analyse.specs.declared.unreached.Spot.{Spot}
use Rattle.marlowe_analyse.specs.Order.{key_cmp, place_key, IsBelow, StandApart}
use Rattle.marlowe_analyse.specs.RunsSupport.{TellPlaces, IsSpotOf, lies_below, kept, kept_behind}
use Rattle.marlowe_analyse.proofs.KeyLemmas.{below_by_key, key_below}

map_after : {X Y Z : Type 0} (f : Y → Z) (g : X → Y) (xs : List X) → map (λ x. f (g x)) xs ≡ map f (map g xs)
map_after f g [] = refl
map_after f g (x ∷ xs) = ap (λ zs. f (g x) ∷ zs) (map_after f g xs)

all_map : {X Y : Type 0} (P : Y → Type 0) (f : X → Y) (xs : List X) → AllByRecursion (λ x. P (f x)) xs → AllByRecursion P (map f xs)
all_map P f [] h = tt
all_map P f (x ∷ xs) h = (h.0, all_map P f xs h.1)

take_front : (ks ms : List ℕ) → take (length ks) (ks ++ ms) ≡ ks
take_front [] ms = refl
take_front (k ∷ ks) ms = ap (λ ns. k ∷ ns) (take_front ks ms)

nat_list_heads : (x y : ℕ) → x ∷ [] ≡ y ∷ [] → x ≡ y
nat_list_heads x y e = cc

-- ---- numbers in order

-- these don't stand behind those
abbrev Le : List ℕ → List ℕ → Type 0
Le k l = is_lt (key_cmp l k) ≡ false

not_less : (o : Ordering) → o ≡ Less → is_lt o ≡ false → ⊥
not_less o e h = let q : true ≡ false = ap is_lt (sym e) ∙ h in cc

le_on : (k l m : List ℕ) → Le k l → Le l m → Le k m
le_on k l m f g = by (key_cmp m k) refl
  where
    by_first : (o : Ordering) → key_cmp k l ≡ o → key_cmp m k ≡ Less → key_cmp m l ≡ Less
    by_first Less e h = nat_list_cmp_total.trans m k l h e
    by_first Equal e h = subst (λ x. key_cmp m x ≡ Less) (exact_bytes k l e) h
    by_first Greater e h = absurd (not_less (key_cmp l k) (nat_list_cmp_total.antisymm l k ∙ ap ordering_reverse e) f)

    by : (o : Ordering) → key_cmp m k ≡ o → is_lt (key_cmp m k) ≡ false
    by Less e = absurd (not_less (key_cmp m l) (by_first (key_cmp k l) refl e) g)
    by Equal e = ap is_lt e
    by Greater e = ap is_lt e

less_from : (k l : List ℕ) → Le k l → (k ≡ l → ⊥) → key_cmp k l ≡ Less
less_from k l h n = by (key_cmp k l) refl
  where
    by : (o : Ordering) → key_cmp k l ≡ o → key_cmp k l ≡ Less
    by Less e = e
    by Equal e = absurd (n (exact_bytes k l e))
    by Greater e = absurd (not_less (key_cmp l k) (nat_list_cmp_total.antisymm l k ∙ ap ordering_reverse e) h)

one_less : (a b : ℕ) (xs ys : List ℕ) → nat_cmp a b ≡ Less → key_cmp (a ∷ xs) (b ∷ ys) ≡ Less
one_less a b xs ys e = ap (λ o. ordering_then o (key_cmp xs ys)) e

one_equal : (a b : ℕ) (xs ys : List ℕ) → nat_cmp a b ≡ Equal → key_cmp (a ∷ xs) (b ∷ ys) ≡ key_cmp xs ys
one_equal a b xs ys e = ap (λ o. ordering_then o (key_cmp xs ys)) e

turned : (a b : ℕ) (o : Ordering) → nat_cmp a b ≡ o → nat_cmp b a ≡ ordering_reverse o
turned a b o e = nat_cmp_total.antisymm b a ∙ ap ordering_reverse e

-- between numbers and those that begin with them all begin with them
between : (k l m : List ℕ) → Le k l → Le l (k ++ m) → (n : List ℕ) × (l ≡ k ++ n)
between [] l m f g = (l, refl)
between (a ∷ k) [] m f g = absurd (cc)
between (a ∷ k) (b ∷ l) m f g = by (nat_cmp b a) refl (between k l m)
  where
    by : (o : Ordering) → nat_cmp b a ≡ o → (Le k l → Le l (k ++ m) → (n : List ℕ) × (l ≡ k ++ n)) → (n : List ℕ) × (b ∷ l ≡ (a ∷ k) ++ n)
    by Less e go = absurd (not_less (key_cmp (b ∷ l) (a ∷ k)) (one_less b a l k e) f)
    by Equal e go =
        let same : b ≡ a = nat_list_heads b a (exact_bytes (b ∷ []) (a ∷ []) (one_equal b a [] [] e)) in
        let rest = go (ap is_lt (sym (one_equal b a l k e)) ∙ f) (ap is_lt (sym (one_equal a b (k ++ m) l (turned b a Equal e))) ∙ g) in
        (rest.0, ap (λ x. x ∷ l) same ∙ ap (λ xs. a ∷ xs) rest.1)
    by Greater e go = absurd (not_less (key_cmp (a ∷ (k ++ m)) (b ∷ l)) (one_less a b (k ++ m) l (turned b a Greater e)) g)

-- ---- places that are kept

abbrev key_of : Spot → List ℕ
key_of s = s.key.items

abbrev HasNumbers : Spot → Type 0
HasNumbers s = s.key.items ≡ place_key s.place.now

-- none stands before one that is before it
abbrev Rises : List Spot → Type 0
Rises [] = Unit {0}
Rises (s ∷ ss) = AllByRecursion (λ t. Le (key_of s) (key_of t)) ss × Rises ss

tail_sorted : (s : Spot) (ss : List Spot) → IsSortedByKey key_of key_cmp (s ∷ ss) → IsSortedByKey key_of key_cmp ss
tail_sorted s ss h k d a b =
    let e : k + 1 ≡ suc k = omega arith in
    let f : (k + 1) + 1 ≡ suc (k + 1) = omega arith in
    let g = h (k + 1) d (omega arith) (omega (arith, b)) in
    subst (λ i. is_lt (key_cmp (key_of (slice_index_or ss (k + 1) d)) (key_of (slice_index_or (s ∷ ss) i d))) ≡ false) e
    (subst (λ i. is_lt (key_cmp (key_of (slice_index_or (s ∷ ss) i d)) (key_of (slice_index_or (s ∷ ss) (k + 1) d))) ≡ false) f g)

rises : (ss : List Spot) → IsSortedByKey key_of key_cmp ss → Rises ss
rises [] h = tt
rises (s ∷ []) h = (tt, tt)
rises (s ∷ t ∷ ss) h =
    let rest = rises (t ∷ ss) (tail_sorted s (t ∷ ss) h) in
    let first : Le (key_of s) (key_of t) = h 0 s (omega arith) (omega arith) in
    ((first, all_weaker (λ u. Le (key_of t) (key_of u)) (λ u. Le (key_of s) (key_of u)) (λ u l. le_on (key_of s) (key_of t) (key_of u) first l) ss rest.0), rest)

-- what holds of all holds of those that are kept
all_kept_behind : (P : Spot → Type 0) (last : Spot) (ss : List Spot) → AllByRecursion P ss → AllByRecursion P (kept_behind last ss)
all_kept_behind P last [] h = tt
all_kept_behind P last (s ∷ ss) h = by (lies_below last s) (all_kept_behind P last ss h.1) (all_kept_behind P s ss h.1)
  where
    by : (b : Bool) → AllByRecursion P (kept_behind last ss) → AllByRecursion P (kept_behind s ss) → AllByRecursion P (cond b (kept_behind last ss) (s ∷ kept_behind s ss))
    by true f g = f
    by false f g = (h.0, g)

all_kept : (P : Spot → Type 0) (ss : List Spot) → AllByRecursion P ss → AllByRecursion P (kept ss)
all_kept P [] h = tt
all_kept P (s ∷ ss) h = (h.0, all_kept_behind P s ss h.1)

abbrev Below : Spot → Spot → Type 0
Below above s = IsBelow above.place.now s.place.now

not_below : (above s : Spot) → HasNumbers above → HasNumbers s → lies_below above s ≡ false → Below above s → ⊥
not_below above s f g h b =
    let k = key_of above in
    let e : key_of s ≡ k ++ place_key b.0 = g ∙ (ap place_key b.1 ∙ (key_below above.place.now b.0 ∙ ap (λ ns. ns ++ place_key b.0) (sym f))) in
    let front : k ≡ take (length k) (key_of s) = sym (ap (take (length k)) e ∙ take_front k (place_key b.0)) in
    let q : true ≡ false = sym ((bytes_decides k (take (length k) (key_of s))).1 front) ∙ h in cc

-- where one doesn't lie below another, none behind it does
none_below : (above s t : Spot) → HasNumbers above → HasNumbers s → HasNumbers t → Le (key_of above) (key_of s) → Le (key_of s) (key_of t) → (Below above s → ⊥) → Below above t → ⊥
none_below above s t f g h l m n b =
    let e : key_of t ≡ key_of above ++ place_key b.0 = h ∙ (ap place_key b.1 ∙ (key_below above.place.now b.0 ∙ ap (λ ns. ns ++ place_key b.0) (sym f))) in
    let w = between (key_of above) (key_of s) (place_key b.0) l (subst (Le (key_of s)) e m) in
    n (below_by_key above.place.now s.place.now w.0 (sym g ∙ (w.1 ∙ ap (λ ns. ns ++ w.0) f)))

-- what is said of two places that are told one before the other
abbrev Apart : Spot → Spot → Type 0
Apart s t = (key_cmp (place_key s.place.now) (place_key t.place.now) ≡ Less) × (Below s t → ⊥)

apart_by : (s t : Spot) → HasNumbers s → HasNumbers t → Le (key_of s) (key_of t) → (Below s t → ⊥) → Apart s t
apart_by s t f g l n =
    (less_from (place_key s.place.now) (place_key t.place.now) (subst (λ k. Le k (place_key t.place.now)) f (subst (Le (key_of s)) g l)) (λ e. n (below_by_key s.place.now t.place.now [] (sym e ∙ sym (no_more (place_key s.place.now))))), n)
  where
    no_more : (ns : List ℕ) → ns ++ [] ≡ ns
    no_more [] = refl
    no_more (x ∷ ns) = ap (λ ms. x ∷ ms) (no_more ns)

apart_behind : (last : Spot) (ss : List Spot) → HasNumbers last → AllByRecursion HasNumbers ss → AllByRecursion (λ t. Le (key_of last) (key_of t)) ss → Rises ss
    → AllByRecursion (Apart last) (kept_behind last ss) × StandApart (map (λ (s : Spot). s.place.now) (kept_behind last ss))
apart_behind last [] f all l r = (tt, tt)
apart_behind last (s ∷ ss) f all l r = by (lies_below last s) refl (apart_behind last ss f all.1 l.1 r.1) (apart_behind s ss all.0 all.1 r.0 r.1)
  where
    behind : (Below last s → ⊥) → (t : Spot) → HasNumbers t × Le (key_of s) (key_of t) → Apart last t
    behind n t h = apart_by last t f h.0 (le_on (key_of last) (key_of s) (key_of t) l.0 h.1) (none_below last s t f all.0 h.0 l.0 h.1 n)

    by : (b : Bool) → lies_below last s ≡ b → AllByRecursion (Apart last) (kept_behind last ss) × StandApart (map (λ (s : Spot). s.place.now) (kept_behind last ss))
        → AllByRecursion (Apart s) (kept_behind s ss) × StandApart (map (λ (s : Spot). s.place.now) (kept_behind s ss))
        → AllByRecursion (Apart last) (cond b (kept_behind last ss) (s ∷ kept_behind s ss)) × StandApart (map (λ (s : Spot). s.place.now) (cond b (kept_behind last ss) (s ∷ kept_behind s ss)))
    by true e g h = g
    by false e g h =
        let n = not_below last s f all.0 e in (
          (apart_by last s f all.0 l.0 n, all_kept_behind (Apart last) s ss (all_with HasNumbers (λ t. Le (key_of s) (key_of t)) (Apart last) (λ t a b. behind n t (a, b)) ss all.1 r.0)),
          (all_map (λ q. (key_cmp (place_key s.place.now) (place_key q) ≡ Less) × (IsBelow s.place.now q → ⊥)) (λ (t : Spot). t.place.now) (kept_behind s ss) h.0, h.1),
        )

apart : (ss : List Spot) → AllByRecursion HasNumbers ss → Rises ss → StandApart (map (λ (s : Spot). s.place.now) (kept ss))
apart [] all r = tt
apart (s ∷ ss) all r =
    let h = apart_behind s ss all.0 all.1 r.0 r.1 in
    (all_map (λ q. (key_cmp (place_key s.place.now) (place_key q) ≡ Less) × (IsBelow s.place.now q → ⊥)) (λ (t : Spot). t.place.now) (kept_behind s ss) h.0, h.1)

-- one more place that stands among others
pub one_spot : (places : List (List PathStep)) (ss : List Spot) (s : Spot) → All (IsSpotOf places) ss → Contains places s.place.now → s.key.items ≡ place_key s.place.now → All (IsSpotOf places) (ss ++ s ∷ [])
one_spot places ss s all c e = All-push (IsSpotOf places) ss s all (record { one = c; numbers = e })

pub places_told : (places : List (List PathStep)) (spots : List Spot) (told : List (List Key)) → All (IsSpotOf places) spots → IsSortedByKey key_of key_cmp spots → told ≡ map (λ (s : Spot). path_keys s.place.now) (kept spots)
    → TellPlaces places told
places_told places spots told all sorted e =
    let each = recursion_from_All (IsSpotOf places) spots all in
    record {
      all = map (λ (s : Spot). s.place.now) (kept spots);
      keys = e ∙ map_after path_keys (λ (s : Spot). s.place.now) (kept spots);
      among = all_map (Contains places) (λ (s : Spot). s.place.now) (kept spots) (all_kept (λ s. Contains places s.place.now) spots (all_weaker (IsSpotOf places) (λ s. Contains places s.place.now) (λ s h. h.one) spots each));
      apart = apart spots (all_weaker (IsSpotOf places) HasNumbers (λ s h. h.numbers) spots each) (rises spots sorted);
    }

-- ---- the keys of those that are kept, one after another

abbrev keys_at : Spot → List Key
keys_at s = path_keys s.place.now

-- .. so far, and of those that are still to come
abbrev pub KeysSoFar : List Spot → Spot → List Spot → List (List Key) → Type 0
KeysSoFar spots last rest told = told ++ map keys_at (kept_behind last rest) ≡ map keys_at (kept spots)

pub keys_kept : (spots rest : List Spot) (last s : Spot) (told more : List (List Key)) → lies_below last s ≡ false → more ≡ told ++ keys_at s ∷ [] → KeysSoFar spots last (s ∷ rest) told → KeysSoFar spots s rest more
keys_kept spots rest last s told more b e h =
    ap (λ ts. ts ++ map keys_at (kept_behind s rest)) e ∙ (append_assoc told (keys_at s ∷ []) (map keys_at (kept_behind s rest)) ∙ subst (λ c. told ++ map keys_at (cond c (kept_behind last rest) (s ∷ kept_behind s rest)) ≡ map keys_at (kept spots)) b h)

pub keys_left : (spots rest : List Spot) (last s : Spot) (told : List (List Key)) → lies_below last s ≡ true → KeysSoFar spots last (s ∷ rest) told → KeysSoFar spots last rest told
keys_left spots rest last s told b h = subst (λ c. told ++ map keys_at (cond c (kept_behind last rest) (s ∷ kept_behind s rest)) ≡ map keys_at (kept spots)) b h

-- no run comes to places among such
pub never_among : (s : StateMaps) (c : ContractTree) (places all : List (List PathStep)) → AreNeverReached places s c → AllByRecursion (Contains places) all → AreNeverReached all s c
never_among s c places all h among =
    let P : List PathStep → Type 0 = λ place. IsPart place c × NeverReached place s c in
    all_weaker (Contains places) P (λ place p. All-contains P places place (All-from_recursion P places h) p) all among
