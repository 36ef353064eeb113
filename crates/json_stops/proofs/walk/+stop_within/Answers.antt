use Rattle.std.proofs.Common.{ap, sym, subst, ◌∙◌, Some, get_or}
use Rattle.std.proofs.lemmas.Result.{IfOk-weaker}
use Rattle.serde_json.specs.Find.{get}
use Rattle.json_stops.specs.Stops.{Place, StopsAt, IsStop}
use Rattle.json_stops.specs.StopsSupport.{place_back, under}
use Rattle.json_stops.specs.declared.stop.Step.TheVariants as steps
use Rattle.json_stops.proofs.StopLemmas.{form_stops, key_lacks, key_stops, all_keys_read, item_unread, item_again, all_items_read, pair_stops, first_stops, second_stops, both_read, no_pair, no_pair_of, pair_first, pair_both}
use Rattle.json_stops.proofs.walk.+stop_within.Goals as goal

pub stop_in_form-returns-in-Err : goal.stop_in_form-returns-in-Err
stop_in_form-returns-in-Err g t c =
    let json = g.J.JsonValue.json in
    let d = json c.args.json.now in
    IfOk-weaker c.stop_or_memory.result _ _
    (λ found e. subst (λ at. IsStop c.args.sort d at) (sym e.1) (form_stops c.args.sort d c.in-Err.fault c.requires (c.in-Err.ensures e.0)))
    c.stop_or_memory.ensures

-- ---- values behind keys

pub stop_in_fields-returns-in_default : goal.stop_in_fields-returns-in_default
stop_in_fields-returns-in_default g t c =
    let d = g.J.JsonValue.json c.args.json.now in
    subst (λ (at : Place). StopsAt c.args.sort d at) (sym c.stop_here.ensures)
    (key_lacks c.args.sort d c.args.fields.now c.requires.no_list c.requires.fields _ c.loop-field.field-index c.loop-field-test.true c.loop-field.invariant.unread c.loop-field.invariant.fault
    (c.in_default.ensures ∙ ap (λ w. get w d) c.key_word.ensures))

pub stop_in_fields-returns-in-Some-2 : goal.stop_in_fields-returns-in-Some-2
stop_in_fields-returns-in-Some-2 g t c =
    let json = g.J.JsonValue.json in
    let d = json c.args.json.now in
    let stop = rw c.in-Some-2.is at c.in_ok-found.ensures in
    IfOk-weaker c.behind.result _ _
    (λ up e. subst (λ at. IsStop c.args.sort d at) (sym e)
    (key_stops c.args.sort d c.args.fields.now c.requires.no_list c.requires.fields _ c.loop-field.field-index (json c.in-Some.part.now) (place_back json c.in-Some-2.found) c.loop-field-test.true
    c.loop-field.invariant.unread c.loop-field.invariant.fault (c.in-Some.ensures ∙ ap (λ w. get w d) c.key_word.ensures) stop))
    c.behind.ensures

pub stop_in_fields-returns : goal.stop_in_fields-returns
stop_in_fields-returns g t c =
    all_keys_read c.args.sort (g.J.JsonValue.json c.args.json.now) c.args.fields.now c.requires.no_list c.requires.fields c.loop-field.field-index c.loop-field-test.false c.loop-field.invariant.fault

-- ---- items of a list

pub stop_in_list-returns-in-Some-2 : goal.stop_in_list-returns-in-Some-2
stop_in_list-returns-in-Some-2 g t c =
    let json = g.J.JsonValue.json in
    let d = json c.args.json.now in
    let stop = rw c.in-Some-2.is at c.in_ok-found.ensures in
    IfOk-weaker c.behind.result _ _
    (λ up e. subst (λ at. IsStop c.args.sort d at) (sym e)
    (item_unread json c.args.sort c.args.inner d c.in-Some.items.now c.requires c.in-Some.ensures c.in_ok-repeat.repeat c.in_ok-repeat.ensures c.loop-index.index c.index-items-index.result
    (place_back json c.in-Some-2.found) c.loop-index-test.true c.index-items-index.is c.loop-index.invariant stop))
    c.behind.ensures

pub stop_in_list-returns-in-Some-earlier : goal.stop_in_list-returns-in-Some-earlier
stop_in_list-returns-in-Some-earlier g t c =
    let json = g.J.JsonValue.json in
    let d = json c.args.json.now in
    let fine = rw c.in_default-2.is at c.in_ok-found.ensures in
    IfOk-weaker c.behind-in-Some-earlier.result _ _
    (λ up e. subst (λ at. IsStop c.args.sort d at) (sym (e ∙ ap (λ at. Some (under (steps.Item c.loop-index.index) at)) c.stop_here-found.ensures))
    (item_again json c.args.sort c.args.inner d c.in-Some.items.now c.requires c.in-Some.ensures c.in_ok-repeat.repeat c.in_ok-repeat.ensures c.loop-index.index c.index-items-index.result
    c.in-Some-earlier.first c.loop-index-test.true c.index-items-index.is c.loop-index.invariant fine (sym c.in-Some-earlier.ensures)))
    c.behind-in-Some-earlier.ensures

pub stop_in_list-returns : goal.stop_in_list-returns
stop_in_list-returns g t c =
    let json = g.J.JsonValue.json in
    all_items_read json c.args.sort c.args.inner (json c.args.json.now) c.in-Some.items.now c.requires c.in-Some.ensures c.in_ok-repeat.repeat c.in_ok-repeat.ensures c.loop-index.index
    c.loop-index-test.false c.loop-index.invariant

-- ---- the two of a pair

pub stop_in_pair-returns-in_default : goal.stop_in_pair-returns-in_default
stop_in_pair-returns-in_default g t c =
    let d = g.J.JsonValue.json c.args.json.now in
    subst (λ (at : Place). StopsAt c.args.sort d at) (sym c.stop_here.ensures) (pair_stops c.args.sort c.args.first c.args.second d c.requires (no_pair d c.in_default.ensures))

pub stop_in_pair-returns-then-items-ne2 : goal.stop_in_pair-returns-then-items-ne2
stop_in_pair-returns-then-items-ne2 g t c =
    let json = g.J.JsonValue.json in
    let d = json c.args.json.now in
    subst (λ (at : Place). StopsAt c.args.sort d at) (sym c.stop_here-then-items-ne2.ensures)
    (pair_stops c.args.sort c.args.first c.args.second d c.requires (no_pair_of json c.in-Some.items.now d c.in-Some.ensures c.if-items-ne2.true))

pub stop_in_pair-returns-in-Some-2 : goal.stop_in_pair-returns-in-Some-2
stop_in_pair-returns-in-Some-2 g t c =
    let json = g.J.JsonValue.json in
    let d = json c.args.json.now in
    let vs = c.in-Some.items.now in
    let a = c.index-items-0.result in
    let stop = rw c.in-Some-2.is at c.in_ok-found.ensures in
    IfOk-weaker c.behind.result _ _
    (λ up e. subst (λ at. IsStop c.args.sort d at) (sym e)
    (first_stops c.args.sort c.args.first c.args.second d c.requires (json a) (json (get_or vs 1 a)) (pair_first json vs d a c.in-Some.ensures c.if-items-ne2.false c.index-items-0.is)
    (place_back json c.in-Some-2.found) stop))
    c.behind.ensures

pub stop_in_pair-returns-in-Some-3 : goal.stop_in_pair-returns-in-Some-3
stop_in_pair-returns-in-Some-3 g t c =
    let json = g.J.JsonValue.json in
    let d = json c.args.json.now in
    let vs = c.in-Some.items.now in
    let a = c.index-items-0.result in
    let b = c.index-items-1.result in
    let fine = rw c.in_default-2.is at c.in_ok-found.ensures in
    let stop = rw c.in-Some-3.is at c.in_ok-found-2.ensures in
    IfOk-weaker c.behind-in-Some-3.result _ _
    (λ up e. subst (λ at. IsStop c.args.sort d at) (sym e)
    (second_stops c.args.sort c.args.first c.args.second d c.requires (json a) (json b)
    (pair_both json vs d a b c.in-Some.ensures c.if-items-ne2.false c.index-items-0.is c.index-items-1.is) (place_back json c.in-Some-3.found) fine stop))
    c.behind-in-Some-3.ensures

pub stop_in_pair-returns-in-None : goal.stop_in_pair-returns-in-None
stop_in_pair-returns-in-None g t c =
    let json = g.J.JsonValue.json in
    let d = json c.args.json.now in
    let vs = c.in-Some.items.now in
    let a = c.index-items-0.result in
    let b = c.index-items-1.result in
    let fine = rw c.in_default-2.is at c.in_ok-found.ensures in
    let also = rw c.in-None.is at c.in_ok-found-2.ensures in
    both_read c.args.sort c.args.first c.args.second d c.requires (json a) (json b)
    (pair_both json vs d a b c.in-Some.ensures c.if-items-ne2.false c.index-items-0.is c.index-items-1.is) fine also
