-- What one accepted transaction more, a cut and a settlement make of the lists of an index.
use Rattle.std.proofs.Common.{◌≡◌, ℕ, ◌≤◌, ◌+◌, arith, Bool, true, false, ◌||◌, not, cond, filter, List, [], ◌∷◌, ◌++◌, refl, sym, ◌∙◌, ap, subst, take, length, Option, Result, Ok, Err}
use Rattle.std.specs.Prelude.{◌==◌, OnOk, OnErr}
use Rattle.std.proofs.Math.Seq.{take-length}
use Rattle.std.proofs.lemmas.List.{length-take-le, map-append}
use Rattle.std.proofs.lemmas.List.Elements.{filter-append}
use Rattle.std.proofs.lemmas.List.Folds.{list_any-append}
use Rattle.ledger_spec.specs.Machine.declared.datum.Datum.{Datum}
use Rattle.ledger_spec.specs.EutxoTypes.declared.output.Output.{Output}
use Rattle.ledger_spec.specs.EutxoTypes.declared.output_ref.OutputRef.{OutputRef}
use Rattle.ledger_spec.specs.EutxoTypes.declared.output_ref.OutputRef.TheVariants.{Genesis, Made}
use Rattle.ledger_spec.specs.EutxoTypes.declared.tx.Tx.{Tx}
use Rattle.ledger_spec.specs.EutxoTypes.Ids.{id_of}
use Rattle.ledger_spec.specs.EutxoTypes.Parts.{same_bytes, same_ref}
use Rattle.ledger_spec.specs.LedgerLaws.Past.{with_references, created_by, is_input_of}
use Rattle.ledger_spec.proofs.FromLedgerLaws.PlainLaws.{and_true, no_more, or_true, take_twice}
use Rattle.chain_index.specs.declared.parts.Sizes.{Sizes}
use Rattle.chain_index.specs.Contents.{Contents, Indexed, first_contents, without, accepting, is_used, is_among, CanBeAdded}
use Rattle.chain_index.specs.Data.{data_by}
use Rattle.chain_index.specs.HolesSupport.{live, staying, known, AreAmong}
use Rattle.chain_index.specs.NamingSupport.{slots}
use Rattle.chain_index.specs.PartsSupport.{Parts, contents_in, first_parts, sizes_of, front, IsGrown, LeaveWith, Takes, AreUsed, AreAllUsed, AreThere, IsIndex, indexed}
use Rattle.chain_index.proofs.DataLemmas.{data_stay, data_known}
use Rattle.chain_index.proofs.FrontLemmas.{taken_back, front_kept, longer}
use Rattle.chain_index.proofs.LiveLemmas.{live_append, live_slots, none_leave, present_known}
use Rattle.chain_index.proofs.OutputLemmas.{none_made}
use Rattle.chain_index.proofs.RefLemmas.{or_left, or_elim}

-- ---- results

pub with_ok : {T E P Q R : Type 0} (r : Result T E) → OnOk r P → OnOk r Q → (P → Q → R) → OnOk r R
with_ok (Ok v) p q f = f p q
with_ok (Err e) p q f = tt

pub either_way : {T E P Q X R : Type 0} (r : Result T E) → OnOk r P → OnOk r Q → OnErr r X → (P → Q → R) → (X → R) → R
either_way (Ok v) p q x f g = f p q
either_way (Err e) p q x f g = g x

-- ---- fronts

-- what was added is taken back
pub grown_back : (old new : Parts) → IsGrown old new → front (sizes_of old) new ≡ old
grown_back old new g =
    let e = taken_back old.entries new.entries g.entries in
    let l = taken_back old.leaving new.leaving g.leaving in
    let d = taken_back old.ids new.ids g.ids in
    let o = taken_back old.objects new.objects g.objects in
    let m = taken_back old.moves new.moves g.moves in
    let s = taken_back old.starts new.starts g.starts in
    let a = taken_back old.datums new.datums g.datums in
    λ i. record { entries = e i; leaving = l i; ids = d i; objects = o i; moves = m i; starts = s i; datums = a i }

-- what was there when it was settled stays
front_stays : (old new : Parts) (z : Sizes) → AreThere z old → IsGrown old new → front z new ≡ front z old
front_stays old new z t g =
    let e = front_kept z.entries old.entries new.entries t.entries g.entries in
    let l = front_kept z.leaving old.leaving new.leaving t.leaving g.leaving in
    let d = front_kept z.ids old.ids new.ids t.ids g.ids in
    let o = front_kept z.objects old.objects new.objects t.objects g.objects in
    let m = front_kept z.moves old.moves new.moves t.moves g.moves in
    let s = front_kept z.starts old.starts new.starts t.starts g.starts in
    let a = front_kept z.datums old.datums new.datums t.datums g.datums in
    λ i. record { entries = e i; leaving = l i; ids = d i; objects = o i; moves = m i; starts = s i; datums = a i }

there_still : (old new : Parts) (z : Sizes) → AreThere z old → IsGrown old new → AreThere z new
there_still old new z t g = record {
  entries = longer z.entries old.entries new.entries t.entries g.entries;
  leaving = longer z.leaving old.leaving new.leaving t.leaving g.leaving;
  ids = longer z.ids old.ids new.ids t.ids g.ids;
  objects = longer z.objects old.objects new.objects t.objects g.objects;
  moves = longer z.moves old.moves new.moves t.moves g.moves;
  starts = longer z.starts old.starts new.starts t.starts g.starts;
  datums = longer z.datums old.datums new.datums t.datums g.datums;
}

again : {A : Type 0} (n : ℕ) (xs : List A) → take n (take n xs) ≡ take n xs
again n xs = take_twice n n xs (omega arith)

front_again : (z : Sizes) (p : Parts) → front z (front z p) ≡ front z p
front_again z p =
    let e = again z.entries p.entries in
    let l = again z.leaving p.leaving in
    let d = again z.ids p.ids in
    let o = again z.objects p.objects in
    let m = again z.moves p.moves in
    let s = again z.starts p.starts in
    let a = again z.datums p.datums in
    λ i. record { entries = e i; leaving = l i; ids = d i; objects = o i; moves = m i; starts = s i; datums = a i }

still_long : {A : Type 0} (n : ℕ) (xs : List A) → n ≤ length xs → n ≤ length (take n xs)
still_long n xs h = let e = length-take-le n xs h in omega (arith, e)

there_in_front : (z : Sizes) (p : Parts) → AreThere z p → AreThere z (front z p)
there_in_front z p t = record {
  entries = still_long z.entries p.entries t.entries;
  leaving = still_long z.leaving p.leaving t.leaving;
  ids = still_long z.ids p.ids t.ids;
  objects = still_long z.objects p.objects t.objects;
  moves = still_long z.moves p.moves t.moves;
  starts = still_long z.starts p.starts t.starts;
  datums = still_long z.datums p.datums t.datums;
}

front_all : (p : Parts) → front (sizes_of p) p ≡ p
front_all p =
    let e = take-length p.entries in
    let l = take-length p.leaving in
    let d = take-length p.ids in
    let o = take-length p.objects in
    let m = take-length p.moves in
    let s = take-length p.starts in
    let a = take-length p.datums in
    λ i. record { entries = e i; leaving = l i; ids = d i; objects = o i; moves = m i; starts = s i; datums = a i }

all_there : (p : Parts) → AreThere (sizes_of p) p
all_there p = record { entries = omega arith; leaving = omega arith; ids = omega arith; objects = omega arith; moves = omega arith; starts = omega arith; datums = omega arith }

-- ---- settled lists

-- lists whose references are used are an index that is settled
settled_index : (p : Parts) → AreAllUsed p → IsIndex p (sizes_of p)
settled_index p used = record { present = used; settled = subst AreAllUsed (sym (front_all p)) used; there = all_there p }

settled_view : (p : Parts) → indexed p (sizes_of p) ≡ (let x : Indexed = record { settled = contents_in p; present = contents_in p } in x)
settled_view p = ap (λ (q : Parts). let x : Indexed = record { settled = contents_in q; present = contents_in p } in x) (front_all p)

never_among : (b : Bool) (P : Type 0) → b ≡ false → b ≡ true → P
never_among b P f t = let e : true ≡ false = sym t ∙ f in cc

pub first_index : (genesis : List Output) → IsIndex (first_parts genesis) (sizes_of (first_parts genesis))
first_index genesis = settled_index (first_parts genesis) (record {
  entries = λ id i h. never_among (is_among (known (slots (with_references (λ j. Genesis j) 0 genesis))) (Made id i)) (is_used [] id ≡ true) (none_made id i 0 genesis) h;
  datums = λ id i h. h;
  leaving = λ id i h. h;
})

pub first_view : (genesis : List Output) → indexed (first_parts genesis) (sizes_of (first_parts genesis)) ≡ (let x : Indexed = record { settled = first_contents genesis; present = first_contents genesis } in x)
first_view genesis =
    let es = with_references (λ j. Genesis j) 0 genesis in
    let u = none_leave (live (slots es)) ∙ live_slots es ∙ sym (no_more es) ∙ sym (none_leave (es ++ [])) in
    let c : contents_in (first_parts genesis) ≡ first_contents genesis = λ i. record { unspent = u i; used = []; published = []; moves = []; starts = []; datums = [] } in
    settled_view (first_parts genesis) ∙ ap (λ (x : Contents). let y : Indexed = record { settled = x; present = x } in y) c

-- after a settlement
pub index_settled : (old new : Parts) (z : Sizes) → IsIndex old z → contents_in new ≡ contents_in old → new.leaving ≡ [] → AreAmong (known new.entries) (known old.entries) →
    AreAmong (known new.datums) (known old.datums) → IsIndex new (sizes_of new)
index_settled old new z is same none known_before data_before =
    let ids : old.ids ≡ new.ids = sym (ap (λ (c : Contents). c.used) same) in
    settled_index new (record {
      entries = λ id i h. subst (λ (l : List (List ℕ)). is_used l id ≡ true) ids (is.present.entries id i (known_before (Made id i) h));
      datums = λ id i h. subst (λ (l : List (List ℕ)). is_used l id ≡ true) ids (is.present.datums id i (data_before (Made id i) h));
      leaving = λ id i h. let e : (let b : Bool = false in b) ≡ true = sym (ap (λ (rs : List OutputRef). is_among rs (Made id i)) none) ∙ h in cc;
    })

pub view_settled : (old new : Parts) → contents_in new ≡ contents_in old → indexed new (sizes_of new) ≡ (let x : Indexed = record { settled = contents_in old; present = contents_in old } in x)
view_settled old new same = settled_view new ∙ ap (λ (c : Contents). let x : Indexed = record { settled = c; present = c } in x) same

-- after a cut
pub index_cut : (p : Parts) (z : Sizes) → IsIndex p z → IsIndex (front z p) z
index_cut p z is = record { present = is.settled; settled = subst AreAllUsed (sym (front_again z p)) is.settled; there = there_in_front z p is.there }

pub view_cut : (p : Parts) (z : Sizes) → indexed (front z p) z ≡ (let x : Indexed = record (indexed p z) { present = (indexed p z).settled } in x)
view_cut p z = ap (λ (q : Parts). let x : Indexed = record { settled = contents_in q; present = contents_in (front z p) } in x) (front_again z p)

-- ---- one accepted transaction more

-- no made output of an unused id is among references of used ones
not_among : (rs : List OutputRef) (ids : List (List ℕ)) → AreUsed rs ids → (id : List ℕ) → is_used ids id ≡ false → (i : ℕ) → is_among rs (Made id i) ≡ false
not_among rs ids used id h i = by (is_among rs (Made id i)) (used id i)
  where
    by : (b : Bool) → (b ≡ true → is_used ids id ≡ true) → b ≡ false
    by true f = sym (f refl) ∙ h
    by false f = refl

-- so none is known, and of none a datum
pub fresh_made : (p : Parts) (z : Sizes) → IsIndex p z → (id : List ℕ) → is_used p.ids id ≡ false → (i : ℕ) → is_among (known p.entries) (Made id i) ≡ false
fresh_made p z is = not_among (known p.entries) p.ids is.present.entries

pub fresh_data : (p : Parts) (z : Sizes) → IsIndex p z → (id : List ℕ) → is_used p.ids id ≡ false → (i : ℕ) → is_among (known p.datums) (Made id i) ≡ false
fresh_data p z is = not_among (known p.datums) p.ids is.present.datums

leaving_used : (tx : Tx) (old new : Parts) → AreAllUsed old → CanBeAdded (contents_in old) tx → Takes tx old new → AreUsed new.leaving old.ids
leaving_used tx old new used can takes = λ id i h.
    or_elim (is_input_of (Made id i) tx) (is_among old.leaving (Made id i)) (sym (takes.leaving (Made id i)) ∙ h)
    (λ k. used.entries id i (present_known old.leaving old.entries (Made id i) (can.there (Made id i) k)))
    (used.leaving id i)

used_before : (ids : List (List ℕ)) (x id : List ℕ) → is_used ids id ≡ true → is_used (ids ++ x ∷ []) id ≡ true
used_before ids x id h = list_any-append (same_bytes id) ids (x ∷ []) ∙ or_left (is_used ids id) (is_used (x ∷ []) id) h

used_now : (ids : List (List ℕ)) (x id : List ℕ) → same_bytes id x ≡ true → is_used (ids ++ x ∷ []) id ≡ true
used_now ids x id h = list_any-append (same_bytes id) ids (x ∷ []) ∙ or_true (is_used ids id) (is_used (x ∷ []) id) (or_left (same_bytes id x) false h)

made_known : (n : List ℕ) (k : ℕ) (os : List Output) (id : List ℕ) (i : ℕ) → is_among (known (slots (with_references (λ j. Made n j) k os))) (Made id i) ≡ true → same_bytes id n ≡ true
made_known n k [] id i h = cc
made_known n k (o ∷ os) id i h =
    or_elim (same_ref (Made id i) (Made n k)) (is_among (known (slots (with_references (λ j. Made n j) (k + 1) os))) (Made id i)) h (λ q. (and_true (same_bytes id n) (i == k) q).0) (made_known n (k + 1) os id i)

-- where what comes is known by the new id, all is known by used ones
known_used : {V : Type 0} (x : List ℕ) (es fs : List (OutputRef × Option V)) (ids : List (List ℕ)) → AreUsed (known es) ids → ((id : List ℕ) (i : ℕ) → is_among (known fs) (Made id i) ≡ true → same_bytes id x ≡ true) →
    AreUsed (known (es ++ fs)) (ids ++ x ∷ [])
known_used x es fs ids used new id i h =
    or_elim (is_among (known es) (Made id i)) (is_among (known fs) (Made id i))
    (sym (list_any-append (same_ref (Made id i)) (known es) (known fs)) ∙ sym (ap (λ (rs : List OutputRef). is_among rs (Made id i)) (map-append (λ e. e.0) es fs)) ∙ h)
    (λ k. used_before ids x id (used id i k)) (λ k. used_now ids x id (new id i k))

all_used : (tx : Tx) (old new : Parts) → AreAllUsed old → CanBeAdded (contents_in old) tx → Takes tx old new → AreAllUsed new
all_used tx old new used can takes =
    let ids = sym takes.ids in
    record {
      entries = λ id i h.
          subst (λ (l : List (List ℕ)). is_used l id ≡ true) ids
          (known_used (id_of tx) old.entries (slots (created_by tx)) old.ids used.entries (made_known (id_of tx) 0 tx.outputs) id i
          (sym (ap (λ (es : List (OutputRef × Option Output)). is_among (known es) (Made id i)) takes.entries) ∙ h));
      datums = λ id i h.
          subst (λ (l : List (List ℕ)). is_used l id ≡ true) ids
          (known_used (id_of tx) old.datums (slots (data_by tx)) old.ids used.datums (data_known tx (id_of tx) 0 tx.outputs) id i
          (sym (ap (λ (es : List (OutputRef × Option Datum)). is_among (known es) (Made id i)) takes.datums) ∙ h));
      leaving = λ id i h. subst (λ (l : List (List ℕ)). is_used l id ≡ true) ids (used_before old.ids (id_of tx) id (leaving_used tx old new used can takes id i h));
    }

pub takes_after : {tx : Tx} {old now new : Parts} → old ≡ now → Takes tx old new → Takes tx now new
takes_after {tx} {old} {now} {new} e takes = subst (λ (p : Parts). Takes tx p new) e takes

pub index_after : (old new : Parts) (z : Sizes) (tx : Tx) → IsIndex old z → CanBeAdded (contents_in old) tx → Takes tx old new → IsGrown old new → IsIndex new z
index_after old new z tx is can takes grown = record {
  present = all_used tx old new is.present can takes;
  settled = subst AreAllUsed (sym (front_stays old new z is.there grown)) is.settled;
  there = there_still old new z is.there grown;
}

-- two filters
pub filtered_twice : {A : Type 0} (p q : A → Bool) (xs : List A) → filter (λ x. not (p x || q x)) xs ≡ filter (λ x. not (p x)) (filter (λ x. not (q x)) xs)
filtered_twice p q [] = refl
filtered_twice {A} p q (x ∷ xs) = by (p x) (q x) refl (filtered_twice p q xs)
  where
    rest : List A
    rest = filter (λ y. not (q y)) xs

    by : (a b : Bool) → p x ≡ a → filter (λ y. not (p y || q y)) xs ≡ filter (λ y. not (p y)) rest →
        cond (not (a || b)) (x ∷ filter (λ y. not (p y || q y)) xs) (filter (λ y. not (p y || q y)) xs) ≡ filter (λ y. not (p y)) (cond (not b) (x ∷ rest) rest)
    by true true h go = go
    by false true h go = go
    by true false h go = go ∙ sym (ap (λ b. cond (not b) (x ∷ filter (λ y. not (p y)) rest) (filter (λ y. not (p y)) rest)) h)
    by false false h go = ap (λ (l : List A). x ∷ l) go ∙ sym (ap (λ b. cond (not b) (x ∷ filter (λ y. not (p y)) rest) (filter (λ y. not (p y)) rest)) h)

pub all_stay : (p : OutputRef → Bool) (n : List ℕ) (k : ℕ) (os : List Output) → ((i : ℕ) → p (Made n i) ≡ false) → filter (λ e. not (p e.0)) (with_references (λ j. Made n j) k os) ≡ with_references (λ j. Made n j) k os
all_stay p n k [] h = refl
all_stay p n k (o ∷ os) h =
    let rest = filter (λ e. not (p e.0)) (with_references (λ j. Made n j) (k + 1) os) in
    ap (λ b. cond (not b) ((Made n k, o) ∷ rest) rest) (h k) ∙ ap (λ (l : List (OutputRef × Output)). (Made n k, o) ∷ l) (all_stay p n (k + 1) os h)

-- nothing that comes leaves
new_stay : (tx : Tx) (old new : Parts) → AreAllUsed old → CanBeAdded (contents_in old) tx → Takes tx old new → (i : ℕ) → is_among new.leaving (Made (id_of tx) i) ≡ false
new_stay tx old new used can takes = not_among new.leaving old.ids (leaving_used tx old new used can takes) (id_of tx) can.unused

present_after : {V : Type 0} (tx : Tx) (before leaving : List OutputRef) (es fs : List (OutputRef × Option V)) (made : List (OutputRef × V)) → LeaveWith tx.inputs before leaving → fs ≡ es ++ slots made →
    staying leaving made ≡ made → staying leaving (live fs) ≡ without tx (staying before (live es)) ++ made
present_after {V} tx before leaving es fs made leave come stay =
    ap (λ l. staying leaving (live l)) come
    ∙ ap (staying leaving) (live_append es (slots made) ∙ ap (λ (l : List (OutputRef × V)). live es ++ l) (live_slots made))
    ∙ filter-append (λ e. not (is_among leaving e.0)) (live es) made
    ∙ (λ j. filter (λ e. not (leave e.0 j)) (live es) ++ stay j)
    ∙ ap (λ (l : List (OutputRef × V)). l ++ made) (filtered_twice (λ e. is_input_of e.0 tx) (λ e. is_among before e.0) (live es))

pub view_after : (old new : Parts) (z : Sizes) (tx : Tx) → IsIndex old z → CanBeAdded (contents_in old) tx → Takes tx old new → IsGrown old new →
    indexed new z ≡ (let x : Indexed = record (indexed old z) { present = accepting (indexed old z).present tx } in x)
view_after old new z tx is can takes grown =
    let stay = new_stay tx old new is.present can takes in
    let u = present_after tx old.leaving new.leaving old.entries new.entries (created_by tx) takes.leaving takes.entries (all_stay (is_among new.leaving) (id_of tx) 0 tx.outputs stay) in
    let a = present_after tx old.leaving new.leaving old.datums new.datums (data_by tx) takes.leaving takes.datums (data_stay (is_among new.leaving) tx (id_of tx) 0 tx.outputs stay) in
    let f = front_stays old new z is.there grown in
    let d = takes.ids in
    let o = takes.objects in
    let m = takes.moves in
    let s = takes.starts in
    λ i. record { settled = contents_in (f i); present = record { unspent = u i; used = d i; published = o i; moves = m i; starts = s i; datums = a i } }
