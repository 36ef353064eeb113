use Rattle.std.proofs.Common.{◌≡◌, ◌∙◌, ◌++◌, ◌∷◌, [], ap, sym, cond, length, string_bytes, Some, None, arith}
use Rattle.std.proofs.lemmas.Grind.{common_steps}
use Rattle.std.proofs.lemmas.Map.Text.{btree_map_updates_text}
use Rattle.std.specs.BTreeMap.{get_by_text}
use Rattle.std.specs.Str.{bytes_eq}
use Rattle.json_read_scenarios.specs.Names.{place_of}
use Rattle.json_read_scenarios.proofs.PlaceLaws.{place_of-new}
use Rattle.json_read_scenarios.proofs.name_list.NameList.with.Goals as goal

-- the new name has the place at the end, and the others keep theirs
pub invariant_of-result : goal.invariant_of-result
invariant_of-result g c =
    let name_of = g.X.Named.name in
    let items = c.self.inside.items in
    let bytes : string_bytes c.in_ok-name.name ≡ name_of c.args.item = grind (arith, common_steps) in
    let count : c.len.result ≡ length items = grind (arith, common_steps) in
    let pushed : c.push.new.self ≡ items ++ c.args.item ∷ [] = grind (arith, common_steps) in
    let is_new : place_of name_of (name_of c.args.item) items ≡ None = ap (place_of name_of (name_of c.args.item)) c.self.view_is ∙ c.requires in
    λ name.
    btree_map_updates_text (string_bytes c.in_ok-name.name) c.self.inside.places c.insert.new.self _ c.in_ok-insert.ensures.updates name
    ∙ ap (λ b. cond (bytes_eq b name) (Some c.len.result) (get_by_text c.self.inside.places name)) bytes
    ∙ ap (λ n. cond (bytes_eq (name_of c.args.item) name) (Some n) (get_by_text c.self.inside.places name)) count
    ∙ ap (λ found. cond (bytes_eq (name_of c.args.item) name) (Some (length items)) found) (c.self.invariant name)
    ∙ place_of-new name_of items c.args.item is_new name
    ∙ ap (place_of name_of name) (sym pushed)
