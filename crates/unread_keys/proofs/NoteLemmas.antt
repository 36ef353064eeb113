-- The notes of lists and objects.
use Rattle.std.proofs.Common.{◌≡◌, ℕ, ◌+◌, ◌<◌, ◌≤◌, List, [], ◌∷◌, ◌++◌, length, get_or, drop, map, Option, Result, Vec, Global, refl, sym, ap, ◌∙◌, subst, rules}
use Rattle.std.proofs.lemmas.List.{drop_more, drop_all}
use Rattle.json.specs.Json.{array, object}
use Rattle.json.specs.Value.{items_view, members_view, value_view}
use Rattle.json.specs.declared.value.Value.{the_lemmas}
use Rattle.json.specs.declared.value.Value as trees
use Rattle.json_forms.specs.declared.form.Form.{Form}
use Rattle.json_forms.specs.declared.sort.Sort.{Sort}
use Rattle.json_forms.specs.Forms.{Field}
use Rattle.unread_keys.specs.declared.unread.Step.{Step}
use Rattle.unread_keys.specs.declared.unread.Step.TheVariants as steps
use Rattle.unread_keys.specs.declared.unread.Why.{Why}
use Rattle.unread_keys.specs.declared.walk.Found.{Found}
use Rattle.unread_keys.specs.Sorts.{form_of, item_sort, member_field}
use Rattle.unread_keys.specs.Unread.{Note, inside, inside_or, items_notes, keys_of, members_notes, notes}
use Rattle.unread_keys.specs.UnreadSupport.{Entry, Gains, Goes, Tree}
use Rattle.unread_keys.proofs.GainLemmas.{goes_past}

-- ---- one level

array_seen : (v : Vec Tree Global) → value_view (trees.Array v) ≡ array (items_view v.items)
array_seen v = search (rules, the_lemmas)

object_seen : (v : Vec Entry Global) → value_view (trees.Object v) ≡ object (members_view v.items)
object_seen v = search (rules, the_lemmas)

pub notes_of_array : (j : Tree) (v : Vec Tree Global) (path : List Step) (sort : Sort) → j ≡ trees.Array v → notes path sort (value_view j) ≡ items_notes path sort 0 (items_view v.items)
notes_of_array j v path sort e = ap (λ k. notes path sort (value_view k)) e ∙ ap (notes path sort) (array_seen v)

pub notes_of_object : (j : Tree) (v : Vec Entry Global) (path : List Step) (sort : Sort) → j ≡ trees.Object v
    → notes path sort (value_view j) ≡ members_notes path (form_of sort (keys_of (members_view v.items))) 0 (members_view v.items)
notes_of_object j v path sort e = ap (λ k. notes path sort (value_view k)) e ∙ ap (notes path sort) (object_seen v)

-- ---- one more

pub past_item : (start now next : Found) (path old : List Step) (sort : Sort) (items : List Tree) (i : ℕ) (item : Tree) (s : Option Sort) (all : List Note) → i < length items → item ≡ get_or items i item
    → old ≡ path → s ≡ item_sort sort i → Goes start now (items_notes path sort i (items_view (drop i items))) all → Gains now next (inside s (λ r. notes (old ++ steps.Item i ∷ []) r (value_view item)))
    → Goes start next (items_notes path sort (i + 1) (items_view (drop (i + 1) items))) all
past_item start now next path old sort items i item s all below is same as_it goes gains =
    let cut : drop i items ≡ item ∷ drop (i + 1) items = drop_more items i item below ∙ ap (λ x. x ∷ drop (i + 1) items) (sym is) in
    let one : List Note = inside (item_sort sort i) (λ r. notes (path ++ steps.Item i ∷ []) r (value_view item)) in
    let mine : Gains now next one = subst (λ ns. Gains now next ns) (ap (λ p. inside s (λ r. notes (p ++ steps.Item i ∷ []) r (value_view item))) same ∙ ap (λ t. inside t (λ r. notes (path ++ steps.Item i ∷ []) r (value_view item))) as_it) gains in
    goes_past start now next one (items_notes path sort (i + 1) (items_view (drop (i + 1) items))) all
    (subst (λ (xs : List Tree). Goes start now (items_notes path sort i (items_view xs)) all) cut goes) mine

pub past_member : (start now next : Found) (path old : List Step) (form : Option Form) (members : List Entry) (i : ℕ) (m : Entry) (s : Result Field Why) (all : List Note) → i < length members → m ≡ get_or members i m
    → old ≡ path → s ≡ member_field form m.0.now (keys_of (members_view (drop (i + 1) members))) → Goes start now (members_notes path form i (members_view (drop i members))) all
    → Gains now next (inside_or s old i m.0.now (λ f. notes (old ++ steps.Key f.0 ∷ []) f.1 (value_view m.1)))
    → Goes start next (members_notes path form (i + 1) (members_view (drop (i + 1) members))) all
past_member start now next path old form members i m s all below is same as_it goes gains =
    let cut : drop i members ≡ m ∷ drop (i + 1) members = drop_more members i m below ∙ ap (λ x. x ∷ drop (i + 1) members) (sym is) in
    let one : List Note = inside_or (member_field form m.0.now (keys_of (members_view (drop (i + 1) members)))) path i m.0.now (λ f. notes (path ++ steps.Key f.0 ∷ []) f.1 (value_view m.1)) in
    let mine : Gains now next one =
    subst (λ ns. Gains now next ns)
    (ap (λ p. inside_or s p i m.0.now (λ f. notes (p ++ steps.Key f.0 ∷ []) f.1 (value_view m.1))) same ∙ ap (λ t. inside_or t path i m.0.now (λ f. notes (path ++ steps.Key f.0 ∷ []) f.1 (value_view m.1))) as_it) gains in
    goes_past start now next one (members_notes path form (i + 1) (members_view (drop (i + 1) members))) all
    (subst (λ (xs : List Entry). Goes start now (members_notes path form i (members_view xs)) all) cut goes) mine

-- ---- at the end

pub no_items : (path : List Step) (sort : Sort) (n i : ℕ) (items : List Tree) → length items ≤ i → items_notes path sort n (items_view (drop i items)) ≡ []
no_items path sort n i items l = ap (λ (xs : List Tree). items_notes path sort n (items_view xs)) (drop_all i items l)

pub no_members : (path : List Step) (form : Option Form) (n i : ℕ) (members : List Entry) → length members ≤ i → members_notes path form n (members_view (drop i members)) ≡ []
no_members path form n i members l = ap (λ (xs : List Entry). members_notes path form n (members_view xs)) (drop_all i members l)

-- ---- keys, from an index on

pub keys_seen : (ms : List Entry) → keys_of (members_view ms) ≡ map (λ (m : Entry). m.0.now) ms
keys_seen [] = refl
keys_seen (m ∷ ms) = ap (λ ks. m.0.now ∷ ks) (keys_seen ms)

pub later_keys : (later members : List Entry) (i : ℕ) → later ≡ drop (i + 1) members → map (λ (m : Entry). m.0.now) later ≡ keys_of (members_view (drop (i + 1) members))
later_keys later members i e = ap (map (λ (m : Entry). m.0.now)) e ∙ sym (keys_seen (drop (i + 1) members))

pub object_gains : (old new : Found) (path : List Step) (sort : Sort) (members entries : List Entry) (form : Option Form) → entries ≡ members
    → form ≡ form_of sort (map (λ (m : Entry). m.0.now) entries) → Gains old new (members_notes path form 0 (members_view entries))
    → Gains old new (members_notes path (form_of sort (keys_of (members_view members))) 0 (members_view members))
object_gains old new path sort members entries form all made gains =
    let same : form ≡ form_of sort (keys_of (members_view entries)) = made ∙ ap (form_of sort) (sym (keys_seen entries)) in
    subst (λ (ms : List Entry). Gains old new (members_notes path (form_of sort (keys_of (members_view ms))) 0 (members_view ms))) all
    (subst (λ f. Gains old new (members_notes path f 0 (members_view entries))) same gains)
