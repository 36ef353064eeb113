use Rattle.std.proofs.Common.{◌≡◌, ◌∙◌, ap, cond, string_bytes, Some, true, arith}
use Rattle.std.proofs.lemmas.Grind.{common_steps}
use Rattle.std.proofs.lemmas.Map.Text.{btree_map_updates_text}
use Rattle.std.specs.BTreeMap.{get_by_text}
use Rattle.std.specs.Str.{bytes_eq}
use Rattle.scenario_stops.proofs.known.put.Goals as goal

pub returns : goal.returns
returns c =
    let bytes : string_bytes c.in_ok-key.key ≡ c.args.name.now = grind (arith, common_steps) in
    λ other.
    btree_map_updates_text (string_bytes c.in_ok-key.key) c.args.names.now c.insert.new.self _ c.in_ok-insert.ensures.updates other
    ∙ ap (λ b. cond (bytes_eq b other) (Some true) (get_by_text c.args.names.now other)) bytes
