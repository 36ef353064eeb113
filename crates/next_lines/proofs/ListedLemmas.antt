-- A list of which each item is written or not.
use Rattle.std.proofs.Common.{◌≡◌, ℕ, ◌+◌, ◌<◌, ◌≤◌, Bool, List, [], ◌∷◌, ◌++◌, length, get_or, map, take, drop, drop-cons, suc, Option, Result, OnOk, take_all, refl, sym, subst, ap, ◌∙◌, append_assoc, append-nil}
use Rattle.std.specs.Prelude.{flat_map}
use Rattle.std.proofs.lemmas.Simd.{map-map}
use Rattle.std.proofs.lemmas.Grind.{flat_map-append}
use Rattle.std.proofs.lemmas.List.{drop_all}
use Rattle.std.proofs.lemmas.List.Folds.{flat_map-map}
use Rattle.json.specs.Print.{print}
use Rattle.json.specs.Token.{Token}
use Rattle.json.specs.Written.{Written, Writes}
use Rattle.json.specs.Tree.{items_tokens}
use Rattle.serde_json.specs.Data.{Data, Members, array, null}
use Rattle.serde_json.specs.View.{items_of}
use Rattle.serde_json.specs.Written.{compact_text, items_outline}
use Rattle.serde_json.proofs.Texts.{print-outline}
use Rattle.json_write_contracts.specs.Members.{Ends}
use Rattle.json_write_contracts.specs.Tokens.{Adds, Puts, data_tokens}
use Rattle.json_write_contracts.proofs.AddsLaws.{then, token_put}
use Rattle.json_write_contracts.proofs.ListedLaws.{front, front-closed, take-more}
use Rattle.std.specs.declared.alloc.AllocError.{AllocError}
use Rattle.contract.specs.declared.fault.SemFault.{SemFault}
use Rattle.next_lines.specs.declared.told.CaseTold.{CaseTold}
use Rattle.next_lines.specs.declared.told.CaseTold.TheVariants as code
use Rattle.next_lines.specs.Applicable.{Applicable}
use Rattle.next_lines.specs.Json.{listed, notify_json, notify_of}
use Rattle.next_lines.specs.Seen.{seen_case, seen_cases}

pub front_append : (ds es : List Data) → front (ds ++ es) ≡ front ds ++ front es
front_append [] es = refl
front_append (d ∷ ds) es = ap (λ ts. data_tokens d ++ ts) (front_append ds es) ∙ sym (append_assoc (data_tokens d) (front ds) (front es))

flat_map_one : {X Y : Type 0} (f : X → List Y) (x : X) → flat_map f (x ∷ []) ≡ f x
flat_map_one f x = append-nil (f x)

-- one more is looked at
pub looked_at : {X : Type 0} (f : X → List Data) (xs : List X) (i : ℕ) (x : X) (a b c : Written) → i < length xs → x ≡ get_or xs i x
    → Adds a b (front (flat_map f (take i xs))) → Adds b c (front (f x)) → Adds a c (front (flat_map f (take (i + 1) xs)))
looked_at f xs i x a b c below is before here =
    let both = then before here in
    let same : front (flat_map f (take (i + 1) xs)) ≡ front (flat_map f (take i xs)) ++ front (f x) =
    ap (λ ys. front (flat_map f ys)) (take-more xs i x below is) ∙ ap front (flat_map-append f (take i xs) (x ∷ []) ∙ ap (λ ds. flat_map f (take i xs) ++ ds) (flat_map_one f x)) ∙ front_append (flat_map f (take i xs)) (f x) in
    record { tokens = both.tokens ∙ ap (λ ts. a.tokens ++ ts) (sym same); before = both.before }

-- all are, between brackets
pub all_looked_at : {X : Type 0} (f : X → List Data) (xs : List X) (i : ℕ) (a b c d : Written) → length xs ≤ i
    → Adds a b (Token.begin_array ∷ []) → Adds b c (front (flat_map f (take i xs))) → Adds c d (Token.end_array ∷ []) → Adds a d (Token.begin_array ∷ items_tokens (items_outline (items_of (flat_map f xs))))
all_looked_at f xs i a b c d over opened so_far ended =
    let whole = then opened (then so_far ended) in
    let is : front (flat_map f (take i xs)) ++ Token.end_array ∷ [] ≡ items_tokens (items_outline (items_of (flat_map f xs))) =
    ap (λ ys. front (flat_map f ys) ++ Token.end_array ∷ []) (take_all i xs over) ∙ front-closed (flat_map f xs) in
    record { tokens = whole.tokens ∙ ap (λ ts. a.tokens ++ Token.begin_array ∷ ts) is; before = whole.before }

-- ---- lists that are seen otherwise

pub list_put : {X : Type 0} (f : X → Data) (xs ys : List X) (a b : Written) → xs ≡ ys → Puts a b (array (items_of (map f xs))) → Puts a b (array (items_of (map f ys)))
list_put {X} f xs ys a b e h = subst (λ (zs : List X). Puts a b (array (items_of (map f zs)))) e h

pub seen_put : {X Y : Type 0} (f : Y → Data) (g : X → Y) (xs : List X) (a b : Written) → Puts a b (array (items_of (map (λ x. f (g x)) xs))) → Puts a b (array (items_of (map f (map g xs))))
seen_put f g xs a b h = subst (λ (ds : List Data). Puts a b (array (items_of ds))) (sym (map-map f g xs)) h

pub cases_put : (f : Applicable → List Data) (cs : List CaseTold) (a b : Written) → Puts a b (array (items_of (flat_map (λ c. f (seen_case c)) cs))) → Puts a b (listed f (seen_cases cs))
cases_put f cs a b h = subst (λ (ds : List Data). Puts a b (array (items_of ds))) (sym (flat_map-map f seen_case cs)) h

-- the members with which an object ends, one of them a flag
pub ends_with_flag : (r : Result (Unit {0}) AllocError) (a b : Written) (f : Bool → Members) (w x : Bool) → w ≡ x → OnOk r (Ends a b (f w)) → OnOk r (Ends a b (f x))
ends_with_flag r a b f w x e h = subst (λ (v : Bool). OnOk r (Ends a b (f v))) e h

-- ---- the case that takes a notify

put_from : (r : Result (Unit {0}) AllocError) (a b c : Written) (d e : Data) → b ≡ a → d ≡ e → OnOk r (Puts b c d) → OnOk r (Puts a c e)
put_from r a b c d e h k put = subst (λ (w : Written). OnOk r (Puts w c e)) h (subst (λ (x : Data). OnOk r (Puts b c x)) k put)

notify_there : (cs : List CaseTold) (i : ℕ) (x : CaseTold) (n : ℕ) (refused : Option SemFault) → i < length cs → x ≡ get_or cs i x → x ≡ code.Notify n refused → notify_of (seen_cases (drop i cs)) ≡ notify_json n refused
notify_there cs i x n refused l is e = ap (λ xs. notify_of (seen_cases xs)) (drop-cons cs i x l ∙ ap (λ y. y ∷ drop (suc i) cs) (sym is ∙ e))

pub notify_at : (r : Result (Unit {0}) AllocError) (a b c : Written) (cs : List CaseTold) (i : ℕ) (x : CaseTold) (n : ℕ) (refused : Option SemFault) → i < length cs → x ≡ get_or cs i x → x ≡ code.Notify n refused
    → notify_of (seen_cases cs) ≡ notify_of (seen_cases (drop i cs)) → b ≡ a → OnOk r (Puts b c (notify_json n refused)) → OnOk r (Puts a c (notify_of (seen_cases cs)))
notify_at r a b c cs i x n refused l is e none nothing put = put_from r a b c _ _ nothing (sym (none ∙ notify_there cs i x n refused l is e)) put

pub no_notify : (r : Result (Unit {0}) AllocError) (a b c : Written) (cs : List CaseTold) (i : ℕ) → length cs ≤ i → notify_of (seen_cases cs) ≡ notify_of (seen_cases (drop i cs)) → b ≡ a → Writes r b c Token.null
    → OnOk r (Puts a c (notify_of (seen_cases cs)))
no_notify r a b c cs i over none nothing put = put_from r a b c null _ nothing (sym (none ∙ ap (λ xs. notify_of (seen_cases xs)) (drop_all i cs over))) (token_put r put)

-- the text of a whole value, from a new writer
module _ (a b : Written) (start bytes : List ℕ) (d : Data) (empty : start ≡ []) (before : a.before ≡ start) (none : a.tokens ≡ []) (put : Puts a b d) (is : bytes ≡ b.before ++ print b.tokens) where
  whole_tokens : b.tokens ≡ data_tokens d
  whole_tokens = put.tokens ∙ ap (λ ts. ts ++ data_tokens d) none

  pub whole_text : bytes ≡ compact_text d
  whole_text = is ∙ ap (λ xs. xs ++ print b.tokens) (put.before ∙ before ∙ empty) ∙ ap print whole_tokens ∙ print-outline d
