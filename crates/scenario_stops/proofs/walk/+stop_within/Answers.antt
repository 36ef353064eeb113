use Rattle.std.proofs.Common.{ap, sym, subst, ◌∙◌, ◌≡◌, Some, None, Ok, refl}
use Rattle.std.proofs.lemmas.Result.{IfOk-weaker}
use Rattle.serde_json.specs.Find.{get}
use Rattle.json_forms.specs.declared.sort.Sort.TheVariants as sorts
use Rattle.scenario_stops.specs.declared.form.Shape.TheVariants.{Single}
use Rattle.scenario_stops.specs.Parts.{shape_in}
use Rattle.scenario_stops.specs.StopsSupport.{StopsAlong, IsStopIn, along}
use Rattle.scenario_stops.proofs.NameLemmas.{shape_is}
use Rattle.scenario_stops.proofs.StopLemmas.{form_stops, single_read, single_leaves, key_lacks, key_stops, more_stops, none_is_left, last_lacks, last_read, no_list, item_stops, item_read, list_read, shared}
use Rattle.scenario_stops.proofs.walk.+stop_within.Goals as goal

-- ---- values behind keys

pub stop_in_fields-returns-in_default : goal.stop_in_fields-returns-in_default
stop_in_fields-returns-in_default g t c =
    let d = g.J.JsonValue.json c.args.json.now in
    let part = c.args.part in
    λ there are.
    subst (λ w. StopsAlong (sorts.OfScenario part) there d w) (sym c.stop_here.ensures)
    (key_lacks part there d c.args.form c.args.fields.now c.requires.fields (sym (shape_is part c.args.names.now there d are) ∙ c.requires.shape) c.loop-field.names _ c.loop-field.field-index
    (c.loop-field.invariant there are) c.loop-field-test.true (c.in_default.ensures ∙ ap (λ w. get w d) c.key_word.ensures))

pub stop_in_fields-returns-in-Some-2 : goal.stop_in_fields-returns-in-Some-2
stop_in_fields-returns-in-Some-2 g t c =
    let json = g.J.JsonValue.json in
    let d = json c.args.json.now in
    let part = c.args.part in
    let stop = rw c.in-Some-2.is at c.in_ok-found.ensures in
    IfOk-weaker c.behind.result _ _
    (λ up e. subst (λ w. IsStopIn c.args.names.now part d c.stop_within.new.names w) (sym e)
    (λ there are.
    let read = c.loop-field.invariant there are in
    key_stops part there d c.args.form c.args.fields.now c.requires.fields (sym (shape_is part c.args.names.now there d are) ∙ c.requires.shape) c.loop-field.names _ c.loop-field.field-index
    read c.loop-field-test.true (json c.in-Some.value.now) (along json c.in-Some-2.found) (c.in-Some.ensures ∙ ap (λ w. get w d) c.key_word.ensures) (stop read.there read.names)))
    c.behind.ensures

pub stop_in_fields-returns-in_default-more_of : goal.stop_in_fields-returns-in_default-more_of
stop_in_fields-returns-in_default-more_of g t c =
    let d = g.J.JsonValue.json c.args.json.now in
    let part = c.args.part in
    λ there are.
    none_is_left part there d c.args.form c.args.fields.now c.requires.fields (sym (shape_is part c.args.names.now there d are) ∙ c.requires.shape) c.loop-field.names c.loop-field.field-index
    (c.loop-field.invariant there are) c.loop-field-test.false c.in_default-more_of.ensures

pub stop_in_fields-returns-in_default-member : goal.stop_in_fields-returns-in_default-member
stop_in_fields-returns-in_default-member g t c =
    let d = g.J.JsonValue.json c.args.json.now in
    let part = c.args.part in
    λ there are.
    last_lacks part there d c.args.form c.args.fields.now c.requires.fields (sym (shape_is part c.args.names.now there d are) ∙ c.requires.shape) c.loop-field.names c.loop-field.field-index
    (c.loop-field.invariant there are) c.loop-field-test.false (c.in-Some-more_of.key, c.in-Some-more_of.sort) c.in-Some-more_of.ensures (c.in_default-member.ensures ∙ ap (λ w. get w d) c.key_word-2.ensures)

pub stop_in_fields-returns-in-Some-3 : goal.stop_in_fields-returns-in-Some-3
stop_in_fields-returns-in-Some-3 g t c =
    let json = g.J.JsonValue.json in
    let d = json c.args.json.now in
    let part = c.args.part in
    let stop = rw c.in-Some-3.is at c.in_ok-found-2.ensures in
    IfOk-weaker c.behind-in-Some-3.result _ _
    (λ up e. subst (λ w. IsStopIn c.args.names.now part d c.stop_within-2.new.names w) (sym e)
    (λ there are.
    let read = c.loop-field.invariant there are in
    more_stops part there d c.args.form c.args.fields.now c.requires.fields (sym (shape_is part c.args.names.now there d are) ∙ c.requires.shape) c.loop-field.names c.loop-field.field-index
    read c.loop-field-test.false (c.in-Some-more_of.key, c.in-Some-more_of.sort) c.in-Some-more_of.ensures (json c.in-Some-member.value.now) (along json c.in-Some-3.found)
    (c.in-Some-member.ensures ∙ ap (λ w. get w d) c.key_word-2.ensures) (stop read.there read.names)))
    c.behind-in-Some-3.ensures

pub stop_in_fields-returns-in-None : goal.stop_in_fields-returns-in-None
stop_in_fields-returns-in-None g t c =
    let json = g.J.JsonValue.json in
    let d = json c.args.json.now in
    let part = c.args.part in
    let fine = rw c.in-None.is at c.in_ok-found-2.ensures in
    λ there are.
    let read = c.loop-field.invariant there are in
    last_read part there d c.args.form c.args.fields.now c.requires.fields (sym (shape_is part c.args.names.now there d are) ∙ c.requires.shape) c.loop-field.names c.loop-field.field-index
    read c.loop-field-test.false (c.in-Some-more_of.key, c.in-Some-more_of.sort) (json c.in-Some-member.value.now) c.stop_within-2.new.names c.in-Some-more_of.ensures
    (c.in-Some-member.ensures ∙ ap (λ w. get w d) c.key_word-2.ensures) (fine read.there read.names)

-- ---- items of a list

pub stop_in_list-returns-in_default : goal.stop_in_list-returns-in_default
stop_in_list-returns-in_default g t c =
    let json = g.J.JsonValue.json in
    let d = json c.args.json.now in
    let part = c.args.part in
    λ there are.
    subst (λ w. StopsAlong (sorts.OfScenario part) there d w) (sym c.stop_here.ensures)
    (no_list part there d json c.args.inner (sym (shape_is part c.args.names.now there d are) ∙ c.requires) c.in_default.ensures)

pub stop_in_list-loop-index-init : goal.stop_in_list-loop-index-init
stop_in_list-loop-index-init g t c = λ there are. record { there = _; names = are; unread = refl; fault = refl; ends = refl }

pub stop_in_list-loop-index-preserved : goal.stop_in_list-loop-index-preserved
stop_in_list-loop-index-preserved g t c =
    let json = g.J.JsonValue.json in
    let d = json c.args.json.now in
    let part = c.args.part in
    let fine = rw c.in_default-2.is at c.in_ok-found.ensures in
    λ there are.
    let read = c.loop-index.invariant there are in
    item_read part there d json c.args.inner (sym (shape_is part c.args.names.now there d are) ∙ c.requires) c.in-Some.items.now c.in-Some.ensures c.loop-index.names c.loop-index.index c.index-items-index.result
    read c.loop-index-test.true c.index-items-index.is c.stop_within.new.names (fine read.there read.names)

pub stop_in_list-returns-in-Some-2 : goal.stop_in_list-returns-in-Some-2
stop_in_list-returns-in-Some-2 g t c =
    let json = g.J.JsonValue.json in
    let d = json c.args.json.now in
    let part = c.args.part in
    let stop = rw c.in-Some-2.is at c.in_ok-found.ensures in
    IfOk-weaker c.behind.result _ _
    (λ up e. subst (λ w. IsStopIn c.args.names.now part d c.stop_within.new.names w) (sym e)
    (λ there are.
    let read = c.loop-index.invariant there are in
    item_stops part there d json c.args.inner (sym (shape_is part c.args.names.now there d are) ∙ c.requires) c.in-Some.items.now c.in-Some.ensures c.loop-index.names c.loop-index.index c.index-items-index.result
    read c.loop-index-test.true c.index-items-index.is (along json c.in-Some-2.found) (stop read.there read.names)))
    c.behind.ensures

pub stop_in_list-returns : goal.stop_in_list-returns
stop_in_list-returns g t c =
    let json = g.J.JsonValue.json in
    let d = json c.args.json.now in
    let part = c.args.part in
    λ there are.
    list_read json part there d c.args.inner (sym (shape_is part c.args.names.now there d are) ∙ c.requires) c.in-Some.items.now c.in-Some.ensures c.loop-index.names c.loop-index.index
    (c.loop-index.invariant there are) c.loop-index-test.false

-- ---- by shape

pub stop_in_shape-returns-in-Ok-Single : goal.stop_in_shape-returns-in-Ok-Single
stop_in_shape-returns-in-Ok-Single g t c =
    let d = g.J.JsonValue.json c.args.json.now in
    let part = c.args.part in
    λ there are.
    let shape : shape_in part there d ≡ Ok Single = sym (shape_is part c.args.names.now there d are) ∙ sym c.shape_in.ensures ∙ c.in-Ok-Single.is ∙ ap Ok c.in-Ok-Single.field-0-is in
    (single_read part there d shape, single_leaves part there d c.args.names.now shape are)

pub stop_in_shape-returns-in-Err : goal.stop_in_shape-returns-in-Err
stop_in_shape-returns-in-Err g t c =
    let d = g.J.JsonValue.json c.args.json.now in
    let part = c.args.part in
    λ there are.
    subst (λ w. StopsAlong (sorts.OfScenario part) there d w) (sym c.stop_here.ensures)
    (form_stops part there d c.in-Err.fault (sym (shape_is part c.args.names.now there d are) ∙ sym c.shape_in.ensures ∙ c.in-Err.is))

pub stop_within-returns-in-None : goal.stop_within-returns-in-None
stop_within-returns-in-None g t c = IfOk-weaker c.stop_in_shared.result _ _ (λ found h. h c.args.names.now) c.stop_in_shared.ensures
