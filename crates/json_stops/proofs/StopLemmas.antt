-- Where reading stops, one part after another.
use Rattle.std.proofs.Common.{◌≡◌, ℕ, ◌+◌, ◌<◌, ◌≤◌, List, [], ◌∷◌, length, get_or, drop, map, cond, Option, Some, None, Ok, Err, refl, sym, ap, ◌∙◌, arith}
use Rattle.std.specs.Prelude.{is_some}
use Rattle.std.proofs.lemmas.List.{drop_more, drop_all}
use Rattle.serde_json.specs.Data.{Data, Items, no_items, item}
use Rattle.serde_json.specs.Find.{get, as_array}
use Rattle.serde_json.specs.View.{items_of}
use Rattle.contract.specs.Collections.Answers.{◌>>=◌}
use Rattle.json_read_names.specs.Parts.{Reading, needed, two_items, pair}
use Rattle.json_read_names.specs.declared.fault.JsonFault.{JsonFault}
use Rattle.json_read_names.specs.declared.fault.JsonFault.TheVariants.{NoForm, BadState}
use Rattle.json_forms.specs.declared.sort.Sort.{Sort}
use Rattle.json_forms.specs.declared.sort.Sort.TheVariants as sorts
use Rattle.json_forms.specs.Forms.{Field, key_word}
use Rattle.json_forms.specs.Lacking.{first_or}
use Rattle.json_stops.specs.declared.stop.Step.{Step}
use Rattle.json_stops.specs.declared.stop.Step.TheVariants as steps
use Rattle.json_stops.specs.FormsRead.{shape_of, fields_read}
use Rattle.json_stops.specs.declared.fields.Shape.{Shape}
use Rattle.json_stops.specs.declared.fields.Shape.TheVariants.{Itself, ListOf, PairOf}
use Rattle.json_stops.specs.Repeats.{Repeat, repeat_in, earlier}
use Rattle.json_stops.specs.Stops.{Part, Place, fault_as, and_rest, behind, entry_sort, items_from, fields_parts, list_parts, pair_parts, parts_by, parts, first_unread, StopsAt}
use Rattle.json_stops.specs.StopsSupport.{AreRead, lacking_or, behind_fault, fields_fault, items_fault, list_fault, pair_fault, fault_by, at_itself, under}
use Rattle.json_stops.proofs.RepeatLemmas.{entry_unread, entry_again}
use Rattle.json_stops.proofs.FaultLemmas.{fault_is}

-- ---- a part that isn't read

abbrev part_at : Step → Sort → Data → Part
part_at step sort d = record { step = step; sort = sort; json = d }

-- the part in front isn't read
unread_here : (p : Part) (ps : List Part) (f : JsonFault) → fault_as p.sort p.json ≡ Some f → first_unread (p ∷ ps) ≡ Some p
unread_here p ps f e = ap (λ o. cond (is_some o) (Some p) (first_unread ps)) e

-- it is
read_here : (p : Part) (ps : List Part) → fault_as p.sort p.json ≡ None → first_unread (p ∷ ps) ≡ first_unread ps
read_here p ps e = ap (λ o. cond (is_some o) (Some p) (first_unread ps)) e

-- reading stops at the value itself
pub stops_itself : (s : Sort) (d : Data) (f : JsonFault) → first_unread (parts s d) ≡ None → fault_as s d ≡ Some f → StopsAt s d (at_itself s d f)
stops_itself s d f inside here = record { leads = (refl, refl); inside = inside; here = here; whole = here }

-- or inside its first part that isn't read
pub stops_inside : (s : Sort) (d : Data) (p : Part) (at : Place) → first_unread (parts s d) ≡ Some p → fault_as s d ≡ fault_as p.sort p.json → StopsAt p.sort p.json at → StopsAt s d (under p.step at)
stops_inside s d p at unread same stop =
    record { leads = (p, unread, refl, stop.leads); inside = stop.inside; here = stop.here; whole = same ∙ stop.whole }

-- ---- the fault of the form itself

pub form_stops : (s : Sort) (d : Data) (f : JsonFault) → shape_of s ≡ Itself → fields_read s d ≡ Err f → StopsAt s d (at_itself s d f)
form_stops s d f n e =
    stops_itself s d f (ap first_unread (ap (λ o. parts_by o s d) n ∙ ap (fields_parts d) e)) (fault_is s d ∙ ap (λ o. fault_by o s d) n ∙ ap (fields_fault d) e)

-- ---- values behind keys

module _ (s : Sort) (d : Data) (fs : List Field) (n : shape_of s ≡ Itself) (e : fields_read s d ≡ Ok fs) where
  parts_are : parts s d ≡ behind d fs
  parts_are = ap (λ o. parts_by o s d) n ∙ ap (fields_parts d) e

  fault_behind : fault_as s d ≡ behind_fault d fs
  fault_behind = fault_is s d ∙ ap (λ o. fault_by o s d) n ∙ ap (fields_fault d) e

  -- its key lacks
  pub key_lacks : (x : Field) (i : ℕ) → i < length fs → first_unread (behind d fs) ≡ first_unread (behind d (drop i fs)) → behind_fault d fs ≡ behind_fault d (drop i fs)
      → None ≡ get (key_word (get_or fs i x).0) d → StopsAt s d (at_itself s d NoForm)
  key_lacks x i below unread fault none =
      let f = get_or fs i x in
      stops_itself s d NoForm
      (ap first_unread parts_are ∙ unread ∙ ap (λ xs. first_unread (behind d xs)) (drop_more fs i x below) ∙ ap (λ o. first_unread (and_rest f o (behind d (drop (i + 1) fs)))) (sym none))
      (fault_behind ∙ fault ∙ ap (behind_fault d) (drop_more fs i x below) ∙ ap (λ o. first_or (lacking_or f.1 o) (behind_fault d (drop (i + 1) fs))) (sym none))

  -- the value behind it isn't read
  pub key_stops : (x : Field) (i : ℕ) (v : Data) (at : Place) → i < length fs → first_unread (behind d fs) ≡ first_unread (behind d (drop i fs)) → behind_fault d fs ≡ behind_fault d (drop i fs)
      → Some v ≡ get (key_word (get_or fs i x).0) d → StopsAt (get_or fs i x).1 v at → StopsAt s d (under (steps.Key (get_or fs i x).0) at)
  key_stops x i v at below unread fault there stop =
      let f = get_or fs i x in
      stops_inside s d (part_at (steps.Key f.0) f.1 v) at
      (ap first_unread parts_are ∙ unread ∙ ap (λ xs. first_unread (behind d xs)) (drop_more fs i x below) ∙ ap (λ o. first_unread (and_rest f o (behind d (drop (i + 1) fs)))) (sym there)
      ∙ unread_here (part_at (steps.Key f.0) f.1 v) (behind d (drop (i + 1) fs)) at.fault stop.whole)
      (fault_behind ∙ fault ∙ ap (behind_fault d) (drop_more fs i x below) ∙ ap (λ o. first_or (lacking_or f.1 o) (behind_fault d (drop (i + 1) fs))) (sym there)
      ∙ ap (λ o. first_or o (behind_fault d (drop (i + 1) fs))) stop.whole ∙ sym stop.whole)
      stop

  -- all are
  pub all_keys_read : (i : ℕ) → length fs ≤ i → behind_fault d fs ≡ behind_fault d (drop i fs) → fault_as s d ≡ None
  all_keys_read i over fault = fault_behind ∙ fault ∙ ap (behind_fault d) (drop_all i fs over)

-- ---- items of a list

module _ {V : Type 0} (json : V → Data) (s inner : Sort) (d : Data) (vs : List V) (n : shape_of s ≡ ListOf inner) (e : Some (items_of (map json vs)) ≡ as_array d) (repeat : Option Repeat)
    (found : repeat ≡ repeat_in s (items_of (map json vs))) where
  items_parts_are : parts s d ≡ items_from repeat inner 0 (items_of (map json vs))
  items_parts_are = ap (λ o. parts_by o s d) n ∙ ap (list_parts s inner) (sym e) ∙ ap (λ r. items_from r inner 0 (items_of (map json vs))) (sym found)

  fault_of_items : fault_as s d ≡ items_fault repeat inner 0 (items_of (map json vs))
  fault_of_items = fault_is s d ∙ ap (λ o. fault_by o s d) n ∙ ap (list_fault s inner) (sym e) ∙ ap (λ r. items_fault r inner 0 (items_of (map json vs))) (sym found)

  -- the items from an index on
  abbrev left : ℕ → Items
  left i = items_of (map json (drop i vs))

  item_at : (i : ℕ) (v : V) → i < length vs → v ≡ get_or vs i v → left i ≡ item (json v) (left (i + 1))
  item_at i v below is = ap (λ us. items_of (map json us)) (drop_more vs i v below ∙ ap (λ x. x ∷ drop (i + 1) vs) (sym is))

  -- the item at the index isn't read as one of the sort that it has
  item_stops : (i : ℕ) (v : V) (sort : Sort) (at : Place) → i < length vs → v ≡ get_or vs i v → AreRead json inner repeat vs i → entry_sort (earlier repeat i) inner (json v) ≡ sort → StopsAt sort (json v) at
      → StopsAt s d (under (steps.Item i) at)
  item_stops i v sort at below is read as_one stop =
      stops_inside s d (part_at (steps.Item i) sort (json v)) at
      (ap first_unread items_parts_are ∙ read.0 ∙ ap (λ ds. first_unread (items_from repeat inner i ds)) (item_at i v below is)
      ∙ ap (λ t. first_unread (part_at (steps.Item i) t (json v) ∷ items_from repeat inner (i + 1) (left (i + 1)))) as_one
      ∙ unread_here (part_at (steps.Item i) sort (json v)) (items_from repeat inner (i + 1) (left (i + 1))) at.fault stop.whole)
      (fault_of_items ∙ read.1 ∙ ap (items_fault repeat inner i) (item_at i v below is) ∙ ap (λ t. first_or (fault_as t (json v)) (items_fault repeat inner (i + 1) (left (i + 1)))) as_one
      ∙ ap (λ o. first_or o (items_fault repeat inner (i + 1) (left (i + 1)))) stop.whole ∙ sym stop.whole)
      stop

  -- it isn't read
  pub item_unread : (i : ℕ) (v : V) (at : Place) → i < length vs → v ≡ get_or vs i v → AreRead json inner repeat vs i → StopsAt inner (json v) at → StopsAt s d (under (steps.Item i) at)
  item_unread i v at below is read stop = item_stops i v inner at below is read (entry_unread (earlier repeat i) inner (json v) at.fault stop.whole) stop

  -- an earlier one has its key
  pub item_again : (i : ℕ) (v : V) (first : ℕ) → i < length vs → v ≡ get_or vs i v → AreRead json inner repeat vs i → fault_as inner (json v) ≡ None → earlier repeat i ≡ Some first
      → StopsAt s d (under (steps.Item i) (at_itself (sorts.Repeated first) (json v) BadState))
  item_again i v first below is read fine again =
      item_stops i v (sorts.Repeated first) (at_itself (sorts.Repeated first) (json v) BadState) below is read (entry_again (earlier repeat i) first inner (json v) again fine)
      (stops_itself (sorts.Repeated first) (json v) BadState refl refl)

  -- all are read, and none has a key of an earlier one
  pub all_items_read : (i : ℕ) → length vs ≤ i → AreRead json inner repeat vs i → fault_as s d ≡ None
  all_items_read i over read = fault_of_items ∙ read.1 ∙ ap (λ us. items_fault repeat inner i (items_of (map json us))) (drop_all i vs over)

-- ---- the two of a pair

module _ (s first second : Sort) (d : Data) (n : shape_of s ≡ PairOf first second) where
  -- there aren't just two
  pub pair_stops : pair d ≡ Err NoForm → StopsAt s d (at_itself s d NoForm)
  pair_stops e =
      stops_itself s d NoForm (ap first_unread (ap (λ o. parts_by o s d) n ∙ ap (pair_parts first second) e)) (fault_is s d ∙ ap (λ o. fault_by o s d) n ∙ ap (pair_fault first second) e)

  module _ (a b : Data) (e : pair d ≡ Ok (a, b)) where
    pair_parts_are : parts s d ≡ part_at (steps.Item 0) first a ∷ part_at (steps.Item 1) second b ∷ []
    pair_parts_are = ap (λ o. parts_by o s d) n ∙ ap (pair_parts first second) e

    fault_of_pair : fault_as s d ≡ first_or (fault_as first a) (fault_as second b)
    fault_of_pair = fault_is s d ∙ ap (λ o. fault_by o s d) n ∙ ap (pair_fault first second) e

    pub first_stops : (at : Place) → StopsAt first a at → StopsAt s d (under (steps.Item 0) at)
    first_stops at stop =
        stops_inside s d (part_at (steps.Item 0) first a) at
        (ap first_unread pair_parts_are ∙ unread_here (part_at (steps.Item 0) first a) (part_at (steps.Item 1) second b ∷ []) at.fault stop.whole)
        (fault_of_pair ∙ ap (λ o. first_or o (fault_as second b)) stop.whole ∙ sym stop.whole)
        stop

    pub second_stops : (at : Place) → fault_as first a ≡ None → StopsAt second b at → StopsAt s d (under (steps.Item 1) at)
    second_stops at fine stop =
        stops_inside s d (part_at (steps.Item 1) second b) at
        (ap first_unread pair_parts_are ∙ read_here (part_at (steps.Item 0) first a) (part_at (steps.Item 1) second b ∷ []) fine
        ∙ unread_here (part_at (steps.Item 1) second b) [] at.fault stop.whole)
        (fault_of_pair ∙ ap (λ o. first_or o (fault_as second b)) fine)
        stop

    pub both_read : fault_as first a ≡ None → fault_as second b ≡ None → fault_as s d ≡ None
    both_read fine also = fault_of_pair ∙ ap (λ o. first_or o (fault_as second b)) fine ∙ also

-- two items of a list
pub no_pair : (d : Data) → None ≡ as_array d → pair d ≡ Err NoForm
no_pair d e = ap (λ o. needed o >>= two_items) (sym e)

other_count : {V : Type 0} (json : V → Data) (vs : List V) → (length vs ≡ 2 → ⊥) → two_items (items_of (map json vs)) ≡ Err NoForm
other_count json [] other = refl
other_count json (a ∷ []) other = refl
other_count json (a ∷ b ∷ []) other = absurd (other refl)
other_count json (a ∷ b ∷ c ∷ vs) other = refl

pub no_pair_of : {V : Type 0} (json : V → Data) (vs : List V) (d : Data) → Some (items_of (map json vs)) ≡ as_array d → (length vs ≡ 2 → ⊥) → pair d ≡ Err NoForm
no_pair_of json vs d e other = ap (λ o. needed o >>= two_items) (sym e) ∙ other_count json vs other

two_of : {V : Type 0} (json : V → Data) (vs : List V) (x y : V) → length vs ≡ 2 → two_items (items_of (map json vs)) ≡ Ok (json (get_or vs 0 x), json (get_or vs 1 y))
two_of json [] x y e = absurd (omega arith)
two_of json (a ∷ []) x y e = absurd (omega arith)
two_of json (a ∷ b ∷ []) x y e = refl
two_of json (a ∷ b ∷ c ∷ vs) x y e = absurd (omega arith)

pair_of : {V : Type 0} (json : V → Data) (vs : List V) (d : Data) (x y : V) → Some (items_of (map json vs)) ≡ as_array d → length vs ≡ 2
    → pair d ≡ Ok (json (get_or vs 0 x), json (get_or vs 1 y))
pair_of json vs d x y e two = ap (λ o. needed o >>= two_items) (sym e) ∙ two_of json vs x y two

pub pair_first : {V : Type 0} (json : V → Data) (vs : List V) (d : Data) (a : V) → Some (items_of (map json vs)) ≡ as_array d → length vs ≡ 2 → a ≡ get_or vs 0 a
    → pair d ≡ Ok (json a, json (get_or vs 1 a))
pair_first json vs d a e two is = pair_of json vs d a a e two ∙ ap (λ x. Ok (json x, json (get_or vs 1 a))) (sym is)

pub pair_both : {V : Type 0} (json : V → Data) (vs : List V) (d : Data) (a b : V) → Some (items_of (map json vs)) ≡ as_array d → length vs ≡ 2 → a ≡ get_or vs 0 a → b ≡ get_or vs 1 b
    → pair d ≡ Ok (json a, json b)
pair_both json vs d a b e two is also =
    pair_of json vs d a b e two ∙ ap (λ x. Ok (json x, json (get_or vs 1 b))) (sym is) ∙ ap (λ y. Ok (json a, json y)) (sym also)

-- ---- the law

-- the part in front isn't read, or the first that isn't comes behind it
front_or_behind : (q p : Part) (ps : List Part) (rest : Option JsonFault) (g : Option JsonFault) → fault_as q.sort q.json ≡ g → (first_unread ps ≡ Some p → rest ≡ fault_as p.sort p.json)
    → cond (is_some g) (Some q) (first_unread ps) ≡ Some p → first_or g rest ≡ fault_as p.sort p.json
front_or_behind q p ps rest None e later h = later h
front_or_behind q p ps rest (Some f) e later h = let same : q ≡ p = cc in sym e ∙ ap (λ (r : Part). fault_as r.sort r.json) same

last_by : (q p : Part) (g : Option JsonFault) → fault_as q.sort q.json ≡ g → cond (is_some g) (Some q) None ≡ Some p → fault_as q.sort q.json ≡ fault_as p.sort p.json
last_by q p None e h = cc
last_by q p (Some f) e h = let same : q ≡ p = cc in ap (λ (r : Part). fault_as r.sort r.json) same

front : (q p : Part) (ps : List Part) (rest : Option JsonFault) → (first_unread ps ≡ Some p → rest ≡ fault_as p.sort p.json)
    → first_unread (q ∷ ps) ≡ Some p → first_or (fault_as q.sort q.json) rest ≡ fault_as p.sort p.json
front q p ps rest later h = front_or_behind q p ps rest (fault_as q.sort q.json) refl later h

value_unread : (d : Data) (f : Field) (fs : List Field) (p : Part) (o : Option Data) → (first_unread (behind d fs) ≡ Some p → behind_fault d fs ≡ fault_as p.sort p.json)
    → first_unread (and_rest f o (behind d fs)) ≡ Some p → first_or (lacking_or f.1 o) (behind_fault d fs) ≡ fault_as p.sort p.json
value_unread d f fs p None later h = cc
value_unread d f fs p (Some x) later h = front (part_at (steps.Key f.0) f.1 x) p (behind d fs) (behind_fault d fs) later h

-- the fault of the first that isn't read, of values behind keys and of items
behind_unread : (d : Data) (fs : List Field) (p : Part) → first_unread (behind d fs) ≡ Some p → behind_fault d fs ≡ fault_as p.sort p.json
behind_unread d [] p e = cc
behind_unread d (f ∷ fs) p e = value_unread d f fs p (get (key_word f.0) d) (behind_unread d fs p) e

items_unread : (repeat : Option Repeat) (inner : Sort) (i : ℕ) (ds : Items) (p : Part) → first_unread (items_from repeat inner i ds) ≡ Some p → items_fault repeat inner i ds ≡ fault_as p.sort p.json
items_unread repeat inner i no_items p e = cc
items_unread repeat inner i (item d ds) p e =
    front (part_at (steps.Item i) (entry_sort (earlier repeat i) inner d) d) p (items_from repeat inner (i + 1) ds) (items_fault repeat inner (i + 1) ds) (items_unread repeat inner (i + 1) ds p) e

fields_unread : (d : Data) (r : Reading (List Field)) (p : Part) → first_unread (fields_parts d r) ≡ Some p → fields_fault d r ≡ fault_as p.sort p.json
fields_unread d (Ok fs) p e = behind_unread d fs p e
fields_unread d (Err f) p e = cc

list_unread : (s inner : Sort) (o : Option Items) (p : Part) → first_unread (list_parts s inner o) ≡ Some p → list_fault s inner o ≡ fault_as p.sort p.json
list_unread s inner (Some ds) p e = items_unread (repeat_in s ds) inner 0 ds p e
list_unread s inner None p e = cc

last_unread : (q p : Part) → first_unread (q ∷ []) ≡ Some p → fault_as q.sort q.json ≡ fault_as p.sort p.json
last_unread q p e = last_by q p (fault_as q.sort q.json) refl e

pair_unread : (first second : Sort) (r : Reading (Data × Data)) (p : Part) → first_unread (pair_parts first second r) ≡ Some p → pair_fault first second r ≡ fault_as p.sort p.json
pair_unread first second (Ok x) p e =
    front (part_at (steps.Item 0) first x.0) p (part_at (steps.Item 1) second x.1 ∷ []) (fault_as second x.1) (λ h. last_unread (part_at (steps.Item 1) second x.1) p h) e
pair_unread first second (Err f) p e = cc

unread_by : (o : Shape) (s : Sort) (d : Data) (p : Part) → first_unread (parts_by o s d) ≡ Some p → fault_by o s d ≡ fault_as p.sort p.json
unread_by Itself s d p e = fields_unread d (fields_read s d) p e
unread_by (ListOf inner) s d p e = list_unread s inner (as_array d) p e
unread_by (PairOf first second) s d p e = pair_unread first second (pair d) p e

pub unread_has_the_fault : (s : Sort) (d : Data) (p : Part) → first_unread (parts s d) ≡ Some p → fault_as s d ≡ fault_as p.sort p.json
unread_has_the_fault s d p e = fault_is s d ∙ unread_by (shape_of s) s d p e
