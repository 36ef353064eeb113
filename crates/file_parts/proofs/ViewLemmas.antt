-- Lists of trees and of members as code has them, and what they stand for.
use Rattle.std.proofs.Common.{rules, arith, ◌≡◌, ℕ, ◌+◌, ◌<◌, ◌≤◌, List, [], ◌∷◌, ◌++◌, length, get_or, take, map, codes, Option, Vec, Global, refl, sym, ap, ◌∙◌}
use Rattle.std.specs.Prelude.{None, option_and_then}
use Rattle.std.specs.Option.{unwrap_or}
use Rattle.std.proofs.lemmas.List.{take_more, take_all, map-append}
use Rattle.json.specs.Json.{Json, item, member, object}
use Rattle.json.specs.declared.value.Value.{the_lemmas}
use Rattle.json.specs.declared.value.Value as trees
use Rattle.json.specs.Value.{items_of, items_view, members_view, value_view}
use Rattle.file_parts.specs.Files.{Files, change_items, change_members, file_path, path_among, put, with_files}
use Rattle.file_parts.specs.FilesSupport.{Entry, Pair, Tree, changed_pair, if_key, of_pairs, pair_of, put_in_item, put_in_list}

-- ---- one item more

pub one_more : {V W X : Type 0} (f : V → X) (g : W → X) (news : List V) (olds : List W) (i : ℕ) (new : V) (old : W) → i < length news → i < length olds → new ≡ get_or news i new → old ≡ get_or olds i old
    → f new ≡ g old → map f (take i news) ≡ map g (take i olds) → map f (take (i + 1) news) ≡ map g (take (i + 1) olds)
one_more f g news olds i new old below within is was same before =
    ap (map f) (take_more news i new below ∙ ap (λ x. take i news ++ x ∷ []) (sym is))
    ∙ map-append f (take i news) (new ∷ [])
    ∙ ap (λ xs. xs ++ f new ∷ []) before
    ∙ ap (λ x. map g (take i olds) ++ x ∷ []) same
    ∙ sym (map-append g (take i olds) (old ∷ []))
    ∙ ap (map g) (sym (take_more olds i old within ∙ ap (λ x. take i olds ++ x ∷ []) (sym was)))

-- all items
pub all_done : {V W X : Type 0} (f : V → X) (g : W → X) (news : List V) (olds : List W) (i : ℕ) → length news ≤ i → length olds ≤ i → map f (take i news) ≡ map g (take i olds) → map f news ≡ map g olds
all_done f g news olds i over past so = ap (map f) (sym (take_all i news over)) ∙ so ∙ ap (map g) (take_all i olds past)

-- ---- what they stand for

pub items_same : (olds news : List Tree) → map value_view news ≡ map value_view olds → items_view news ≡ items_view olds
items_same olds news e = ap items_of e

changed_all : (f : Json → Json) (olds : List Tree) → items_of (map (λ v. f (value_view v)) olds) ≡ change_items f (items_view olds)
changed_all f [] = refl
changed_all f (v ∷ vs) = ap (item (f (value_view v))) (changed_all f vs)

pub items_changed : (f : Json → Json) (olds news : List Tree) → map value_view news ≡ map (λ v. f (value_view v)) olds → items_view news ≡ change_items f (items_view olds)
items_changed f olds news e = ap items_of e ∙ changed_all f olds

pairs_seen : (ms : List Entry) → members_view ms ≡ of_pairs (map pair_of ms)
pairs_seen [] = refl
pairs_seen (m ∷ ms) = ap (member m.0.now (value_view m.1)) (pairs_seen ms)

pairs_changed : (key : List ℕ) (f : Json → Json) (ms : List Entry) → of_pairs (map (changed_pair key f) ms) ≡ change_members key f (members_view ms)
pairs_changed key f [] = refl
pairs_changed key f (m ∷ ms) = ap (member m.0.now (if_key key f m.0.now (value_view m.1))) (pairs_changed key f ms)

pub members_same : (olds news : List Entry) → map pair_of news ≡ map pair_of olds → members_view news ≡ members_view olds
members_same olds news e = pairs_seen news ∙ ap of_pairs e ∙ sym (pairs_seen olds)

pub members_changed : (key : List ℕ) (f : Json → Json) (olds news : List Entry) → map pair_of news ≡ map (changed_pair key f) olds → members_view news ≡ change_members key f (members_view olds)
members_changed key f olds news e = pairs_seen news ∙ ap of_pairs e ∙ pairs_changed key f olds

-- ---- at the end of a walk

pub members_done : (key : List ℕ) (f : Json → Json) (olds news : List Entry) (i : ℕ) → length olds ≤ i → length news ≡ length olds → map pair_of (take i news) ≡ map (changed_pair key f) (take i olds)
    → members_view news ≡ change_members key f (members_view olds)
members_done key f olds news i over same so =
    let past : length news ≤ i = omega (arith, over, same) in
    members_changed key f olds news (all_done pair_of (changed_pair key f) news olds i past over so)

pub same_done : (olds news : List Entry) (i : ℕ) → length olds ≤ i → length news ≡ length olds → map pair_of (take i news) ≡ map pair_of (take i olds) → members_view news ≡ members_view olds
same_done olds news i over same so =
    let past : length news ≤ i = omega (arith, over, same) in
    members_same olds news (all_done pair_of pair_of news olds i past over so)

pub items_done : (f : Json → Json) (olds news : List Tree) (i : ℕ) → length olds ≤ i → length news ≡ length olds → map value_view (take i news) ≡ map (λ v. f (value_view v)) (take i olds)
    → items_view news ≡ change_items f (items_view olds)
items_done f olds news i over same so =
    let past : length news ≤ i = omega (arith, over, same) in
    items_changed f olds news (all_done value_view (λ v. f (value_view v)) news olds i past over so)

-- ---- an object

pub object_seen : (v : Vec Entry Global) → value_view (trees.Object v) ≡ object (members_view v.items)
object_seen v = search (rules, the_lemmas)

view_of : (j : Tree) (v : Vec Entry Global) → j ≡ trees.Object v → value_view j ≡ object (members_view v.items)
view_of j v e = ap value_view e ∙ object_seen v

pub objects_same : (j k : Tree) (xs ys : Vec Entry Global) → j ≡ trees.Object xs → k ≡ trees.Object ys → members_view ys.items ≡ members_view xs.items → value_view k ≡ value_view j
objects_same j k xs ys e d same = view_of k ys d ∙ ap object same ∙ sym (view_of j xs e)

pub scenario_changed : (files : Files) (j k : Tree) (xs ys : Vec Entry Global) → j ≡ trees.Object xs → k ≡ trees.Object ys
    → members_view ys.items ≡ change_members (codes "contracts") (put_in_list files) (members_view xs.items) → value_view k ≡ with_files files (value_view j)
scenario_changed files j k xs ys e d changed = view_of k ys d ∙ ap object changed ∙ ap (with_files files) (sym (view_of j xs e))

pub item_changed : (files : Files) (j k : Tree) (xs ys : Vec Entry Global) → j ≡ trees.Object xs → k ≡ trees.Object ys
    → members_view ys.items ≡ change_members (codes "contract") (put files) (members_view xs.items) → value_view k ≡ put_in_item files (value_view j)
item_changed files j k xs ys e d changed = view_of k ys d ∙ ap object changed ∙ ap (put_in_item files) (sym (view_of j xs e))

pub path_of_object : (j : Tree) (v : Vec Entry Global) (path : Option (List ℕ)) → j ≡ trees.Object v → path ≡ path_among (members_view v.items) → path ≡ file_path (value_view j)
path_of_object j v path e is = is ∙ ap file_path (sym (view_of j v e))

-- what names no file stays
pub put_none : (files : Files) (old new : Json) → option_and_then files (file_path old) ≡ None → new ≡ old → new ≡ put files old
put_none files old new none same = same ∙ ap (λ o. unwrap_or o old) (sym none)

pub path_of_many : (ms : List Entry) → 1 < length ms → path_among (members_view ms) ≡ None
path_of_many [] more = absurd (omega arith)
path_of_many (m ∷ []) more = absurd (omega arith)
path_of_many (m ∷ n ∷ ms) more = refl
