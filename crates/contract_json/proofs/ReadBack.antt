-- What is written is read as it was.
use Rattle.std.proofs.Common.{◌≡◌, ℕ, Bool, true, false, pos, negsuc, ◌+◌, ◌≤◌, suc, max, List, [], ◌∷◌, ◌++◌, length, Some, refl, sym, subst, ap, ◌∙◌, arith, append-nil, option_map, option_and_then}
use Rattle.json.specs.Token.{Token}
use Rattle.json.specs.Lex.{tokens}
use Rattle.json.specs.Print.{print, print_from, token_text, ends, separator}
use Rattle.json.specs.Json as json
use Rattle.json.specs.Tree as tree
use Rattle.json.specs.Tree.{json_tokens, items_tokens, members_tokens}
use Rattle.json.proofs.Printed.Trees.{value-json_tokens}
use Rattle.serde_json.specs.Data.{Num, unsigned, negative, float, Data, null, boolean, number, string, array, object, Items, no_items, item, Members, no_members, member, put, depth, items_depth, members_depth}
use Rattle.serde_json.specs.Read.{number_of, of_json, of_items, of_members}
use Rattle.serde_json.specs.Written.{number_text, outline, items_outline, members_outline}
use Rattle.serde_json.proofs.Numbers.{number_of-decimal, number_of-negative}
use Rattle.json_tree.specs.View.{read_within}
use Rattle.contract_json.specs.Readable.{each_put, IsWhole, Readable, ItemsReadable, MembersReadable}

number-back : (n : Num) → IsWhole n → number_of (number_text n) ≡ Some n
number-back (unsigned n) h = number_of-decimal n h
number-back (negative (pos n)) h = absurd h
number-back (negative (negsuc n)) h = number_of-negative n h
number-back (float x) h = absurd h

mutual
  back : (d : Data) → Readable d → of_json (outline d) ≡ Some d
  back null h = refl
  back (boolean b) h = refl
  back (number n) h = ap (option_map number) (number-back n h)
  back (string s) h = refl
  back (array ds) h = ap (option_map array) (items-back ds h)
  back (object ms) h = ap (option_map object) (members-back ms no_members h.0 ∙ ap (λ es. Some es) h.1)

  items-back : (ds : Items) → ItemsReadable ds → of_items (items_outline ds) ≡ Some ds
  items-back no_items h = refl
  items-back (item d ds) h = ap (λ o. option_and_then (λ e. option_map (item e) (of_items (items_outline ds))) o) (back d h.0) ∙ ap (option_map (item d)) (items-back ds h.1)

  members-back : (ms : Members) (old : Members) → MembersReadable ms → of_members (members_outline ms) old ≡ Some (each_put ms old)
  members-back no_members old h = refl
  members-back (member k d ms) old h = ap (λ o. option_and_then (λ e. of_members (members_outline ms) (put k e old)) o) (back d h.0) ∙ members-back ms (put k d old) h.1

mutual
  deep : (d : Data) → tree.depth (outline d) ≡ depth d
  deep null = refl
  deep (boolean b) = refl
  deep (number n) = refl
  deep (string s) = refl
  deep (array ds) = ap (λ n. suc n) (items-deep ds)
  deep (object ms) = ap (λ n. suc n) (members-deep ms)

  items-deep : (ds : Items) → tree.items_depth (items_outline ds) ≡ items_depth ds
  items-deep no_items = refl
  items-deep (item d ds) = (λ j. max (deep d j) (items-deep ds j))

  members-deep : (ms : Members) → tree.members_depth (members_outline ms) ≡ members_depth ms
  members-deep no_members = refl
  members-deep (member k d ms) = (λ j. max (deep d j) (members-deep ms j))

-- a text with the tokens of a readable value reads as it
pub back-within : (n : ℕ) (d : Data) (text : List ℕ) → Readable d → depth d ≤ n → tokens text ≡ json_tokens (outline d) → read_within n text ≡ Some d
back-within n d text h shallow same =
    let within : tree.depth (outline d) ≤ n = subst (λ m. m ≤ n) (sym (deep d)) shallow in
    let whole : json.value n (tokens text) ≡ Some (outline d, []) = ap (json.value n) (same ∙ sym (append-nil (json_tokens (outline d)))) ∙ value-json_tokens (outline d) n [] within in
    ap (λ o. option_and_then of_json (option_and_then (λ p. json.if_last p.0 p.1) o)) whole ∙ back d h

-- ---- a text is longer than it is deep

-- how many lists and objects begin
abbrev opens : List Token → ℕ
opens [] = 0
opens (Token.begin_array ∷ ts) = suc (opens ts)
opens (Token.begin_object ∷ ts) = suc (opens ts)
opens (Token.end_array ∷ ts) = opens ts
opens (Token.end_object ∷ ts) = opens ts
opens (Token.key s ∷ ts) = opens ts
opens (Token.string s ∷ ts) = opens ts
opens (Token.number s ∷ ts) = opens ts
opens (Token.boolean b ∷ ts) = opens ts
opens (Token.null ∷ ts) = opens ts
opens (Token.bad ∷ ts) = opens ts

opens-append : (xs ys : List Token) → opens (xs ++ ys) ≡ opens xs + opens ys
opens-append [] ys = omega arith
opens-append (Token.begin_array ∷ xs) ys = omega (arith, opens-append xs ys)
opens-append (Token.begin_object ∷ xs) ys = omega (arith, opens-append xs ys)
opens-append (Token.end_array ∷ xs) ys = omega (arith, opens-append xs ys)
opens-append (Token.end_object ∷ xs) ys = omega (arith, opens-append xs ys)
opens-append (Token.key s ∷ xs) ys = omega (arith, opens-append xs ys)
opens-append (Token.string s ∷ xs) ys = omega (arith, opens-append xs ys)
opens-append (Token.number s ∷ xs) ys = omega (arith, opens-append xs ys)
opens-append (Token.boolean b ∷ xs) ys = omega (arith, opens-append xs ys)
opens-append (Token.null ∷ xs) ys = omega (arith, opens-append xs ys)
opens-append (Token.bad ∷ xs) ys = omega (arith, opens-append xs ys)

mutual
  opened : (j : json.Json) → tree.depth j ≤ opens (json_tokens j)
  opened json.null = omega arith
  opened (json.boolean b) = omega arith
  opened (json.number s) = omega arith
  opened (json.string s) = omega arith
  opened (json.array js) = omega (arith, items-opened js)
  opened (json.object ms) = omega (arith, members-opened ms)

  items-opened : (js : json.Items) → tree.items_depth js ≤ opens (items_tokens js)
  items-opened json.no_items = omega arith
  items-opened (json.item j js) = omega (arith, opened j, items-opened js, opens-append (json_tokens j) (items_tokens js))

  members-opened : (ms : json.Members) → tree.members_depth ms ≤ opens (members_tokens ms)
  members-opened json.no_members = omega arith
  members-opened (json.member k j ms) = omega (arith, opened j, members-opened ms, opens-append (json_tokens j) (members_tokens ms))

longer : (xs ys : List ℕ) → length ys ≤ length (xs ++ ys)
longer [] ys = omega arith
longer (x ∷ xs) ys = omega (arith, longer xs ys)

pushed : (xs : List ℕ) (y : ℕ) (ys : List ℕ) → suc (length ys) ≤ length (xs ++ y ∷ ys)
pushed [] y ys = omega arith
pushed (x ∷ xs) y ys = omega (arith, pushed xs y ys)

skipped : (t : Token) (b : Bool) (ts : List Token) (n : ℕ) → n ≤ length (print_from (ends t) ts) → n ≤ length (separator b t ++ (token_text t ++ print_from (ends t) ts))
skipped t b ts n h = omega (arith, longer (separator b t) (token_text t ++ print_from (ends t) ts), longer (token_text t) (print_from (ends t) ts), h)

print-opens : (b : Bool) (ts : List Token) → opens ts ≤ length (print_from b ts)
unfolding print_from
print-opens b [] = omega arith
print-opens b (Token.begin_array ∷ ts) = omega (arith, pushed (separator b Token.begin_array) 91 (print_from false ts), print-opens false ts)
print-opens b (Token.begin_object ∷ ts) = omega (arith, pushed (separator b Token.begin_object) 123 (print_from false ts), print-opens false ts)
print-opens b (Token.end_array ∷ ts) = skipped Token.end_array b ts (opens ts) (print-opens true ts)
print-opens b (Token.end_object ∷ ts) = skipped Token.end_object b ts (opens ts) (print-opens true ts)
print-opens b (Token.key s ∷ ts) = skipped (Token.key s) b ts (opens ts) (print-opens false ts)
print-opens b (Token.string s ∷ ts) = skipped (Token.string s) b ts (opens ts) (print-opens true ts)
print-opens b (Token.number s ∷ ts) = skipped (Token.number s) b ts (opens ts) (print-opens true ts)
print-opens b (Token.boolean c ∷ ts) = skipped (Token.boolean c) b ts (opens ts) (print-opens true ts)
print-opens b (Token.null ∷ ts) = skipped Token.null b ts (opens ts) (print-opens true ts)
print-opens b (Token.bad ∷ ts) = skipped Token.bad b ts (opens ts) (print-opens true ts)

-- the text of a value is no shorter than the value is deep
pub depth-text : (d : Data) (text : List ℕ) → text ≡ print (json_tokens (outline d)) → depth d ≤ length text
depth-text d text is =
    let printed : length text ≡ length (print (json_tokens (outline d))) = ap length is in
    omega (arith, deep d, opened (outline d), print-opens false (json_tokens (outline d)), printed)
