-- Laws for readers: what is inside a value is less deep than the value.
use Rattle.std.proofs.Common.{◌≡◌, ℕ, zero, suc, ◌<◌, ◌≤◌, List, [], ◌∷◌, length, get_or, map, ap, Option, Some, Ordering, Less, Equal, Greater, arith, subst}
use Rattle.std.specs.Ordering.{nat_cmp, match_ordering}
use Rattle.std.specs.Cmp.Lexicographic.{slice_cmp}
use Rattle.serde_json.specs.Data.{Data, null, boolean, number, string, array, object, Members, no_members, member, depth, items_depth, members_depth}
use Rattle.serde_json.specs.Find.{get, get_member, as_array}
use Rattle.serde_json.specs.View.{items_of}

at_member : (o : Ordering) (later : Option Data) (d e : Data) (n m : ℕ) → match_ordering o later (Some d) later ≡ Some e → depth d ≤ n → (later ≡ Some e → depth e ≤ m) → m ≤ n → depth e ≤ n
at_member Less later d e n m h here there le = omega (arith, there h)
at_member Equal later d e n m h here there le = let same : d ≡ e = cc in subst (λ (x : Data). depth x ≤ n) same here
at_member Greater later d e n m h here there le = omega (arith, there h)

pub member_within : (k : List ℕ) (ms : Members) (e : Data) → get_member k ms ≡ Some e → depth e ≤ members_depth ms
member_within k no_members e h = cc
member_within k (member l d ms) e h = at_member (slice_cmp nat_cmp k l) (get_member k ms) d e _ (members_depth ms) h (omega arith) (λ later. member_within k ms e later) (omega arith)

pub deeper : (k : List ℕ) (d e : Data) → get k d ≡ Some e → depth e < depth d
deeper k null e h = cc
deeper k (boolean b) e h = cc
deeper k (number n) e h = cc
deeper k (string s) e h = cc
deeper k (array ds) e h = cc
deeper k (object ms) e h = omega (arith, member_within k ms e h)

module _ {X : Type 0} (json : X → Data) where
  items_within : (vs : List X) (i : ℕ) (x : X) → i < length vs → depth (json (get_or vs i x)) ≤ items_depth (items_of (map json vs))
  items_within [] i x h = absurd (omega arith)
  items_within (v ∷ vs) zero x h = omega arith
  items_within (v ∷ vs) (suc i) x h = omega (arith, items_within vs i x (omega arith))

  -- an item of a list is less deep than the list
  pub item_deeper : (vs : List X) (i : ℕ) (x : X) (d : Data) → i < length vs → Some (items_of (map json vs)) ≡ as_array d → depth (json (get_or vs i x)) < depth d
  item_deeper vs i x null h e = cc
  item_deeper vs i x (boolean b) h e = cc
  item_deeper vs i x (number n) h e = cc
  item_deeper vs i x (string s) h e = cc
  item_deeper vs i x (array ds) h e =
      let same : items_of (map json vs) ≡ ds = cc in
      let up : items_depth (items_of (map json vs)) ≡ items_depth ds = ap items_depth same in
      omega (arith, items_within vs i x h)
  item_deeper vs i x (object ms) h e = cc
