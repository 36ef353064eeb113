use Rattle.std.proofs.Common.{◌≡◌, Some, map, refl, sym, ◌∙◌, arith}
use Rattle.std.proofs.lemmas.Grind.{common_steps}
use Rattle.serde_json.specs.Find.{as_array}
use Rattle.serde_json.specs.View.{items_of}
use Rattle.json_read_inputs.specs.Rows.{number_by}
use Rattle.json_read_inputs.proofs.RowLaws.{rows-repeated, rows-fault, rows-map, is_repeated}
use Rattle.json_read_inputs.proofs.rows.entries_from_json.Goals as goal

pub returns-in-None-clause-reading : goal.returns-in-None-clause-reading
returns-in-None-clause-reading g c =
    let is : Some (items_of (map g.J.JsonValue.json c.in_ok-items.items.now)) ≡ as_array (g.J.JsonValue.json c.args.json.now) = grind (arith, common_steps) in
    λ _. rows-repeated g.K.Ord.cmp g.met.K.Ord.total g.met.K.RowKey.exact (g.K.RowKey.reading (number_by c.args.numbers)) g.J.JsonValue.json (g.J.JsonValue.json c.args.json.now) c.in_ok-items.items.now c.in_ok-rows.rows.items c.in_ok-rows.fault is
    c.in_ok-rows.ensures.ok (is_repeated _ c.in-None.ensures.unique.1)

pub returns-in-None-fault-clause-reading : goal.returns-in-None-fault-clause-reading
returns-in-None-fault-clause-reading g c =
    let is : Some (items_of (map g.J.JsonValue.json c.in_ok-items.items.now)) ≡ as_array (g.J.JsonValue.json c.args.json.now) = grind (arith, common_steps) in
    rows-map g.K.Ord.cmp g.met.K.Ord.total g.met.K.RowKey.exact (g.K.RowKey.reading (number_by c.args.numbers)) g.J.JsonValue.json (g.J.JsonValue.json c.args.json.now) c.in_ok-items.items.now c.in_ok-rows.rows.items c.in-Some.entries is
    ((λ i. (c.in_ok-rows.rows.items, sym c.in-None-fault.is i)) ∙ c.in_ok-rows.ensures.ok) (c.in-Some.ensures.unique.0 refl) c.in-Some.ensures.sorted c.in-Some.ensures.found

pub returns-in-Some-fault-clause-reading : goal.returns-in-Some-fault-clause-reading
returns-in-Some-fault-clause-reading g c =
    let is : Some (items_of (map g.J.JsonValue.json c.in_ok-items.items.now)) ≡ as_array (g.J.JsonValue.json c.args.json.now) = grind (arith, common_steps) in
    λ _. rows-fault g.K.Ord.cmp g.met.K.Ord.total g.met.K.RowKey.exact (g.K.RowKey.reading (number_by c.args.numbers)) g.J.JsonValue.json (g.J.JsonValue.json c.args.json.now) c.in_ok-items.items.now c.in_ok-rows.rows.items c.in-Some-fault.fault is
    ((λ i. (c.in_ok-rows.rows.items, sym c.in-Some-fault.is i)) ∙ c.in_ok-rows.ensures.ok) (c.in-Some.ensures.unique.0 refl)
