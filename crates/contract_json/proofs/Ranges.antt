-- The numbers of what `serde_json` reads lie in their ranges.
use Rattle.std.proofs.Common.{◌≡◌, ℕ, ℤ, pos, drop, zero, suc, ◌^◌, Bool, true, false, cond, ◌&&◌, List, [], ◌∷◌, Option, Some, None, option_map, option_and_then, Ok, Err, refl, subst, ap, arith, Ordering, Less, Equal, Greater}
use Rattle.std.proofs.lemmas.Bool.{and_parts}
use Rattle.std.specs.Prelude.{⊤, nat_lt, nat_le}
use Rattle.std.specs.Ordering.{nat_cmp, match_ordering}
use Rattle.std.specs.Cmp.Lexicographic.{slice_cmp}
use Rattle.std.specs.Float.{float_is_finite, binary64}
use Rattle.std.specs.Prelude.{slice_index, ◌==◌}
use Rattle.fast_float.specs.Text.{minus, Parts, scan, digits_of, nearest, with_sign}
use Rattle.json.specs.Lex.{tokens}
use Rattle.json.specs.Json as json
use Rattle.serde_json.specs.Data.{Num, unsigned, negative, float, Data, null, boolean, number, string, array, object, Items, no_items, item, Members, no_members, member, put}
use Rattle.serde_json.specs.Find.{get, get_member}
use Rattle.json_tree.specs.View.{read_within}
use Rattle.contract_json.specs.PartAt.{part_at}
use Rattle.serde_json.specs.Read.{read, max_depth, is_integer, float_of, number_from, number_of, of_json, of_items, of_members}
use Rattle.contract.specs.Collections.Answers.{◌>>=◌}
use Rattle.json_read_names.specs.Parts.{Reading, needed, whole_number, time, member_at, reading_at}
use Rattle.json_read_names.specs.declared.fault.JsonFault.TheVariants.{OutOfRange}
use Rattle.json_write_contracts.specs.WrittenNames.{number_fits, time_fits}

abbrev pub NumInRange : Num → Type 0
NumInRange (unsigned n) = number_fits (pos n) ≡ true
NumInRange (negative z) = (number_fits z ≡ true) × (time_fits z ≡ true)
NumInRange (float x) = ⊤

abbrev mutual
  pub InRange : Data → Type 0
  InRange null = ⊤
  InRange (boolean b) = ⊤
  InRange (number n) = NumInRange n
  InRange (string s) = ⊤
  InRange (array ds) = ItemsInRange ds
  InRange (object ms) = MembersInRange ms

  pub ItemsInRange : Items → Type 0
  ItemsInRange no_items = ⊤
  ItemsInRange (item d ds) = InRange d × ItemsInRange ds

  pub MembersInRange : Members → Type 0
  MembersInRange no_members = ⊤
  MembersInRange (member k d ms) = InRange d × MembersInRange ms

-- ---- numbers

some-same : {A : Type 0} (a b : A) → Some a ≡ Some b → a ≡ b
some-same a b h = cc

float-in-range : (sign : Bool) (p : Parts) (x : Num) → float_of sign p ≡ Some x → NumInRange x
float-in-range sign p x h =
    elim (float_is_finite (nearest binary64 sign p)) as (λ b. cond b (Some (float (nearest binary64 sign p))) None ≡ Some x → NumInRange x) [
      | true ↦ λ is. subst NumInRange (some-same _ _ is) tt
      | false ↦ λ is. cc
    ] h

least : (n : ℕ) → nat_lt 0 n ≡ true → nat_le n (2 ^ 63) ≡ true → NumInRange (negative (with_sign true n))
least zero positive most = cc
least (suc n) positive most = (grind arith, grind arith)

number_from-in-range : (sign : Bool) (p : Parts) (x : Num) → number_from sign p ≡ Some x → NumInRange x
number_from-in-range false p x h =
    elim (is_integer p && nat_lt (digits_of p) (2 ^ 64)) as (λ b. (is_integer p && nat_lt (digits_of p) (2 ^ 64)) ≡ b → cond b (Some (unsigned (digits_of p))) (float_of false p) ≡ Some x → NumInRange x) [
      | true ↦ λ yes_it is. subst NumInRange (some-same _ _ is) (and_parts (is_integer p) (nat_lt (digits_of p) (2 ^ 64)) yes_it).1
      | false ↦ λ _ is. float-in-range false p x is
    ] refl h
number_from-in-range true p x h =
    elim (is_integer p && nat_lt 0 (digits_of p) && nat_le (digits_of p) (2 ^ 63)) as (λ b. (is_integer p && nat_lt 0 (digits_of p) && nat_le (digits_of p) (2 ^ 63)) ≡ b → cond b (Some (negative (with_sign true (digits_of p)))) (float_of true p) ≡ Some x → NumInRange x) [
      | true ↦ λ yes_it is.
          let parts = and_parts (is_integer p && nat_lt 0 (digits_of p)) (nat_le (digits_of p) (2 ^ 63)) yes_it in
          subst NumInRange (some-same _ _ is) (least (digits_of p) (and_parts (is_integer p) (nat_lt 0 (digits_of p)) parts.0).1 parts.1)
      | false ↦ λ _ is. float-in-range true p x is
    ] refl h

either_sign : (s : List ℕ) (x : Num) (b : Bool) → cond b (number_from true (scan (drop 1 s))) (number_from false (scan s)) ≡ Some x → NumInRange x
either_sign s x true h = number_from-in-range true (scan (drop 1 s)) x h
either_sign s x false h = number_from-in-range false (scan s) x h

number_of-in-range : (s : List ℕ) (x : Num) → number_of s ≡ Some x → NumInRange x
unfolding number_of
number_of-in-range s x h = either_sign s x (slice_index s 0 == minus) h

-- ---- values

by_order : (o : Ordering) (a b c : Members) → MembersInRange a → MembersInRange b → MembersInRange c → MembersInRange (match_ordering o a b c)
by_order Less a b c h i j = h
by_order Equal a b c h i j = i
by_order Greater a b c h i j = j

put-in-range : (k : List ℕ) (d : Data) (ms : Members) → InRange d → MembersInRange ms → MembersInRange (put k d ms)
put-in-range k d no_members h i = (h, tt)
put-in-range k d (member l e ms) h i =
    by_order (slice_cmp nat_cmp k l) (member k d (member l e ms)) (member l d ms) (member l e (put k d ms)) (h, i) (h, i.1) (i.0, put-in-range k d ms h i.1)

map-some : {A B : Type 0} (f : A → B) (o : Option A) (b : B) → option_map f o ≡ Some b → (a : A) × (o ≡ Some a) × (f a ≡ b)
map-some f None b h = cc
map-some f (Some a) b h = (a, refl, some-same _ _ h)

then-some : {A B : Type 0} (f : A → Option B) (o : Option A) (b : B) → option_and_then f o ≡ Some b → (a : A) × (o ≡ Some a) × (f a ≡ Some b)
then-some f None b h = cc
then-some f (Some a) b h = (a, refl, h)

mutual
  pub of_json-in-range : (j : json.Json) (d : Data) → of_json j ≡ Some d → InRange d
  of_json-in-range json.null d h = subst InRange (some-same null d h) tt
  of_json-in-range (json.boolean b) d h = subst InRange (some-same (boolean b) d h) tt
  of_json-in-range (json.number s) d h = let n = map-some number (number_of s) d h in subst InRange n.2 (number_of-in-range s n.0 n.1)
  of_json-in-range (json.string s) d h = subst InRange (some-same (string s) d h) tt
  of_json-in-range (json.array js) d h = let ds = map-some array (of_items js) d h in subst InRange ds.2 (of_items-in-range js ds.0 ds.1)
  of_json-in-range (json.object ms) d h = let es = map-some object (of_members ms no_members) d h in subst InRange es.2 (of_members-in-range ms no_members es.0 tt es.1)

  of_items-in-range : (js : json.Items) (ds : Items) → of_items js ≡ Some ds → ItemsInRange ds
  of_items-in-range json.no_items ds h = subst ItemsInRange (some-same no_items ds h) tt
  of_items-in-range (json.item j js) ds h =
      let first = then-some (λ d. option_map (item d) (of_items js)) (of_json j) ds h in
      let rest = map-some (item first.0) (of_items js) ds first.2 in
      subst ItemsInRange rest.2 (of_json-in-range j first.0 first.1, of_items-in-range js rest.0 rest.1)

  of_members-in-range : (ms : json.Members) (before after : Members) → MembersInRange before → of_members ms before ≡ Some after → MembersInRange after
  of_members-in-range json.no_members before after r h = subst MembersInRange (some-same before after h) r
  of_members-in-range (json.member k j ms) before after r h =
      let first = then-some (λ d. of_members ms (put k d before)) (of_json j) after h in
      of_members-in-range ms (put k first.0 before) after (put-in-range k first.0 before (of_json-in-range j first.0 first.1) r) first.2

pub read-within-in-range : (n : ℕ) (text : List ℕ) (d : Data) → read_within n text ≡ Some d → InRange d
read-within-in-range n text d h =
    let j = then-some of_json (option_and_then (λ p. json.if_last p.0 p.1) (json.value n (tokens text))) d h in of_json-in-range j.0 d j.2

pub read-in-range : (text : List ℕ) (d : Data) → read text ≡ Some d → InRange d
read-in-range text d h = read-within-in-range max_depth text d h

-- ---- members and numbers of a value in range

pub bind_ok : {A B : Type 0} (r : Reading A) (f : A → Reading B) (b : B) → (r >>= f) ≡ Ok b → (a : A) × (r ≡ Ok a) × (f a ≡ Ok b)
bind_ok (Ok a) f b h = (a, refl, h)
bind_ok (Err fault) f b h = cc

pub ok-same : {A : Type 0} (a b : A) → ◌≡◌ {A = Reading A} (Ok a) (Ok b) → a ≡ b
ok-same a b h = cc

one-of : (o : Ordering) (later : Option Data) (d e : Data) → match_ordering o later (Some d) later ≡ Some e → InRange d → (later ≡ Some e → InRange e) → InRange e
one-of Less later d e h here there = there h
one-of Equal later d e h here there = subst InRange (some-same d e h) here
one-of Greater later d e h here there = there h

get_member-in-range : (key : List ℕ) (ms : Members) (e : Data) → MembersInRange ms → get_member key ms ≡ Some e → InRange e
get_member-in-range key no_members e r h = cc
get_member-in-range key (member k d ms) e r h = one-of (slice_cmp nat_cmp key k) (get_member key ms) d e h r.0 (λ later. get_member-in-range key ms e r.1 later)

found-some : (o : Option Data) (e : Data) → needed o ≡ Ok e → o ≡ Some e
found-some None e h = cc
found-some (Some d) e h = ap Some (ok-same d e h)

member_at-in-range : (key : List ℕ) (d e : Data) → InRange d → member_at key d ≡ Ok e → InRange e
member_at-in-range key null e r h = cc
member_at-in-range key (boolean b) e r h = cc
member_at-in-range key (number n) e r h = cc
member_at-in-range key (string s) e r h = cc
member_at-in-range key (array ds) e r h = cc
member_at-in-range key (object ms) e r h = get_member-in-range key ms e r (found-some (get_member key ms) e h)

-- so is each part to which names lead
pub part-in-range : (names : List (List ℕ)) (d e : Data) → InRange d → part_at names d ≡ Some e → InRange e
part-in-range [] d e r h = subst InRange (some-same d e h) r
part-in-range (name ∷ names) d e r h = let m = then-some (part_at names) (get name d) e h in part-in-range names m.0 e (member_at-in-range name d m.0 r (ap needed m.1)) m.2

-- what holds of each reading of a value in range holds of the reading of a member
pub at-fits : {X : Type 0} (P : X → Type 0) (reading : Data → Reading X) → ((e : Data) (x : X) → InRange e → reading e ≡ Ok x → P x)
    → (d : Data) (key : List ℕ) (x : X) → InRange d → reading_at reading d key ≡ Ok x → P x
at-fits P reading each d key x r h = let e = bind_ok (member_at key d) reading x h in each e.0 x (member_at-in-range key d e.0 r e.1) e.2

pub whole-fits : (d : Data) (n : ℤ) → InRange d → whole_number d ≡ Ok n → number_fits n ≡ true
whole-fits null n r h = cc
whole-fits (boolean b) n r h = cc
whole-fits (number (unsigned m)) n r h = subst (λ z. number_fits z ≡ true) (ok-same (pos m) n h) r
whole-fits (number (negative z)) n r h = subst (λ y. number_fits y ≡ true) (ok-same z n h) r.0
whole-fits (number (float x)) n r h = cc
whole-fits (string s) n r h = cc
whole-fits (array ds) n r h = cc
whole-fits (object ms) n r h = cc

moment-fits : (m : ℕ) (b : Bool) (t : ℤ) → nat_lt m (2 ^ 63) ≡ b → cond b (Ok (pos m)) (Err OutOfRange) ≡ Ok t → time_fits t ≡ true
moment-fits m true t is h = subst (λ y. time_fits y ≡ true) (ok-same (pos m) t h) is
moment-fits m false t is h = cc

pub time-fits : (d : Data) (t : ℤ) → InRange d → time d ≡ Ok t → time_fits t ≡ true
time-fits null t r h = cc
time-fits (boolean b) t r h = cc
time-fits (number (unsigned m)) t r h = moment-fits m (nat_lt m (2 ^ 63)) t refl h
time-fits (number (negative z)) t r h = subst (λ y. time_fits y ≡ true) (ok-same z t h) r.1
time-fits (number (float x)) t r h = cc
time-fits (string s) t r h = cc
time-fits (array ds) t r h = cc
time-fits (object ms) t r h = cc
