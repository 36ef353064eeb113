-- Where reading stops, one part after another.
use Rattle.std.proofs.Common.{◌≡◌, ℕ, ◌+◌, ◌<◌, ◌≤◌, List, [], ◌∷◌, length, get_or, drop, map, Bool, true, false, cond, Option, Some, None, Ok, Err, refl, sym, ap, ◌∙◌, subst, arith}
use Rattle.std.specs.Prelude.{is_some}
use Rattle.std.proofs.lemmas.List.{drop_more, drop_all}
use Rattle.serde_json.specs.Data.{Data, Items, no_items, item}
use Rattle.serde_json.specs.Find.{get, as_array}
use Rattle.serde_json.specs.View.{items_of}
use Rattle.contract.specs.Collections.Answers.{◌>>=◌}
use Rattle.json_read_names.specs.Parts.{Reading, needed}
use Rattle.json_read_names.specs.declared.fault.JsonFault.{JsonFault}
use Rattle.json_read_names.specs.declared.fault.JsonFault.TheVariants.{NoForm}
use Rattle.json_read_scenarios.specs.ReadsPlan.{intent_form, plan}
use Rattle.json_read_scenarios.specs.ReadsScenario.{contract, new_thread, scenario}
use Rattle.json_read_scenarios.specs.declared.intent_forms.IntentForm.{IntentForm}
use Rattle.json_read_scenarios.specs.declared.intent_forms.IntentForm.TheVariants as intents
use Rattle.json_forms.specs.declared.form.Form.{Form}
use Rattle.json_forms.specs.declared.form.Form.TheVariants as forms
use Rattle.json_forms.specs.declared.sort.NamedSort.{NamedSort}
use Rattle.json_forms.specs.declared.sort.NamedSort.TheVariants as named
use Rattle.json_forms.specs.declared.sort.ScenarioSort.{ScenarioSort}
use Rattle.json_forms.specs.declared.sort.ScenarioSort.TheVariants as parts
use Rattle.json_forms.specs.declared.sort.Sort.{Sort}
use Rattle.json_forms.specs.declared.sort.Sort.TheVariants as sorts
use Rattle.json_forms.specs.Forms.{Field, key_word, fields_of, more_of}
use Rattle.json_forms.specs.Lacking.{first_or}
use Rattle.json_stops.specs.declared.stop.Step.{Step}
use Rattle.json_stops.specs.declared.stop.Step.TheVariants as steps
use Rattle.json_stops.specs.Stops.{Place, StopsAt, fault_of, fault_as}
use Rattle.json_stops.specs.StopsSupport.{at_itself}
use Rattle.scenario_stops.specs.declared.form.Shape.{Shape}
use Rattle.scenario_stops.specs.declared.form.Shape.TheVariants.{Single, ListOf, FormOf}
use Rattle.scenario_stops.specs.declared.known.Names.{Names}
use Rattle.scenario_stops.specs.There.{There, nothing, one_more, all_in_turn, in_turn, or_same, after}
use Rattle.scenario_stops.specs.Faults.{own_fault, fault_in}
use Rattle.scenario_stops.specs.Parts.{Part, one_form, intent_shape, single, shape_in, and_rest, behind, items_from, list_parts, parts_by, start, parts_in, first_unread}
use Rattle.scenario_stops.specs.Stops.{StopsBy, StopsIn, inside}
use Rattle.scenario_stops.specs.StopsSupport.{or_lacking, or_none, own_part, perhaps_fault, behind_fault, items_fault, list_fault, fault_by, after_items, after_key, after_keys, NamesAre, Leaves, Way, StopsAlong, KeysAreRead, ItemsAreRead}
use Rattle.scenario_stops.proofs.ChainLemmas.{made_fault}
use Rattle.scenario_stops.proofs.TurnLemmas.{turn_ends}
use Rattle.scenario_stops.proofs.FaultLemmas.{fault_is}

abbrev part_at : Step → Sort → There → Data → Part
part_at step sort there d = record { step = step; sort = sort; there = there; json = d }

-- the part in front isn't read
unread_here : (p : Part) (ps : List Part) (f : JsonFault) → fault_in p.sort p.there p.json ≡ Some f → first_unread (p ∷ ps) ≡ Some p
unread_here p ps f e = ap (λ o. cond (is_some o) (Some p) (first_unread ps)) e

-- it is
read_here : (p : Part) (ps : List Part) → fault_in p.sort p.there p.json ≡ None → first_unread (p ∷ ps) ≡ first_unread ps
read_here p ps e = ap (λ o. cond (is_some o) (Some p) (first_unread ps)) e

abbrev own : ScenarioSort → Sort
own part = sorts.OfScenario part

module _ (part : ScenarioSort) (t : There) (d : Data) where
  -- reading stops at the value itself
  stops_here : (f : JsonFault) → first_unread (parts_in (own part) t d) ≡ None → own_fault part t d ≡ Some f → StopsAlong (own part) t d ([], at_itself (own part) d f)
  stops_here f unread here = ((refl, refl, refl, unread), here)

  -- or inside its first part that isn't read
  stops_inside : (p : Part) (path : List Step) (at : Place) → first_unread (parts_in (own part) t d) ≡ Some p → own_fault part t d ≡ fault_in p.sort p.there p.json
      → StopsBy path p.sort p.there p.json at → StopsAlong (own part) t d (p.step ∷ path, at)
  stops_inside p path at unread same stop = ((p, unread, refl, stop.0), same ∙ stop.1)

  -- the fault of the form itself
  pub form_stops : (f : JsonFault) → shape_in part t d ≡ Err f → StopsAlong (own part) t d ([], at_itself (own part) d f)
  form_stops f e = stops_here f (ap first_unread (ap (λ s. parts_by s (start part t) d) e)) (fault_is part t d ∙ ap (λ s. fault_by s (start part t) d) e)

  pub single_read : shape_in part t d ≡ Ok Single → own_fault part t d ≡ None
  single_read e = fault_is part t d ∙ ap (λ s. fault_by s (start part t) d) e

  -- ---- values behind keys

  module _ (form : Form) (fs : List Field) (same : fs ≡ fields_of form) (e : shape_in part t d ≡ Ok (FormOf form)) where
    abbrev more : Option Field
    more = more_of form

    parts_are : parts_in (own part) t d ≡ behind (start part t) d fs more
    parts_are = ap (λ s. parts_by s (start part t) d) e ∙ ap (λ xs. behind (start part t) d xs more) (sym same)

    fault_behind : own_fault part t d ≡ behind_fault (start part t) d fs more
    fault_behind = fault_is part t d ∙ ap (λ s. fault_by s (start part t) d) e ∙ ap (λ xs. behind_fault (start part t) d xs more) (sym same)

    module _ (names : Names) (x : Field) (i : ℕ) (read : KeysAreRead d fs more i names (start part t)) (below : i < length fs) where
      abbrev f : Field
      f = get_or fs i x

      abbrev rest : There → List Part
      rest u = behind u d (drop (i + 1) fs) more

      abbrev rest_fault : There → Option JsonFault
      rest_fault u = behind_fault u d (drop (i + 1) fs) more

      unread_at : (o : Option Data) → o ≡ get (key_word f.0) d → first_unread (behind (start part t) d fs more) ≡ first_unread (and_rest read.there f o rest)
      unread_at o is =
          read.unread ∙ ap (λ xs. first_unread (behind read.there d xs more)) (drop_more fs i x below) ∙ ap (λ p. first_unread (and_rest read.there f p rest)) (sym is)

      fault_at : (o : Option Data) → o ≡ get (key_word f.0) d → behind_fault (start part t) d fs more ≡ or_lacking read.there f o rest_fault
      fault_at o is =
          read.fault ∙ ap (λ xs. behind_fault read.there d xs more) (drop_more fs i x below) ∙ ap (λ p. or_lacking read.there f p rest_fault) (sym is)

      -- its key lacks
      pub key_lacks : None ≡ get (key_word f.0) d → StopsAlong (own part) t d ([], at_itself (own part) d NoForm)
      key_lacks none = stops_here NoForm (ap first_unread parts_are ∙ unread_at None none) (fault_behind ∙ fault_at None none)

      -- the value behind it isn't read
      pub key_stops : (v : Data) (way : Way) → Some v ≡ get (key_word f.0) d → StopsAlong f.1 read.there v way → StopsAlong (own part) t d (steps.Key f.0 ∷ way.0, way.1)
      key_stops v way there stop =
          stops_inside (part_at (steps.Key f.0) f.1 read.there v) way.0 way.1
          (ap first_unread parts_are ∙ unread_at (Some v) there ∙ unread_here (part_at (steps.Key f.0) f.1 read.there v) (rest (after f.1 read.there v)) way.1.fault stop.1)
          (fault_behind ∙ fault_at (Some v) there ∙ ap (λ o. first_or o (rest_fault (after f.1 read.there v))) stop.1 ∙ sym stop.1)
          stop

      -- it is
      pub key_read : (v : Data) (new : Names) → Some v ≡ get (key_word f.0) d → (fault_in f.1 read.there v ≡ None) × NamesAre new (after f.1 read.there v) → KeysAreRead d fs more (i + 1) new (start part t)
      key_read v new there fine =
          record {
            there = after f.1 read.there v;
            names = fine.1;
            unread = unread_at (Some v) there ∙ read_here (part_at (steps.Key f.0) f.1 read.there v) (rest (after f.1 read.there v)) fine.0;
            fault = fault_at (Some v) there ∙ ap (λ o. first_or o (rest_fault (after f.1 read.there v))) fine.0;
            ends =
                read.ends ∙ ap (after_keys read.there d) (drop_more fs i x below) ∙ ap (λ o. after_key read.there f o (λ u. after_keys u d (drop (i + 1) fs))) (sym there);
          }

    module _ (names : Names) (i : ℕ) (read : KeysAreRead d fs more i names (start part t)) (over : length fs ≤ i) where
      unread_over : first_unread (behind (start part t) d fs more) ≡ first_unread (behind read.there d [] more)
      unread_over = read.unread ∙ ap (λ xs. first_unread (behind read.there d xs more)) (drop_all i fs over)

      fault_over : own_fault part t d ≡ perhaps_fault read.there d more
      fault_over = fault_behind ∙ read.fault ∙ ap (λ xs. behind_fault read.there d xs more) (drop_all i fs over)

      pub ends_over : after_keys (start part t) d fs ≡ read.there
      ends_over = read.ends ∙ ap (after_keys read.there d) (drop_all i fs over)

      pub no_more : None ≡ more → own_fault part t d ≡ None
      no_more none = fault_over ∙ ap (perhaps_fault read.there d) (sym none)

      module _ (f : Field) (some : Some f ≡ more) where
        unread_more : (o : Option Data) → o ≡ get (key_word f.0) d → first_unread (behind (start part t) d fs more) ≡ first_unread (and_rest read.there f o (λ u. []))
        unread_more o is = unread_over ∙ ap (λ m. first_unread (behind read.there d [] m)) (sym some) ∙ ap (λ p. first_unread (and_rest read.there f p (λ u. []))) (sym is)

        fault_more : (o : Option Data) → o ≡ get (key_word f.0) d → own_fault part t d ≡ or_none read.there f o
        fault_more o is = fault_over ∙ ap (perhaps_fault read.there d) (sym some) ∙ ap (or_none read.there f) (sym is)

        pub more_lacks : None ≡ get (key_word f.0) d → own_fault part t d ≡ None
        more_lacks none = fault_more None none

        pub more_read : (v : Data) → Some v ≡ get (key_word f.0) d → fault_in f.1 read.there v ≡ None → own_fault part t d ≡ None
        more_read v there fine = fault_more (Some v) there ∙ fine

        pub more_stops : (v : Data) (way : Way) → Some v ≡ get (key_word f.0) d → StopsAlong f.1 read.there v way → StopsAlong (own part) t d (steps.Key f.0 ∷ way.0, way.1)
        more_stops v way there stop =
            stops_inside (part_at (steps.Key f.0) f.1 read.there v) way.0 way.1
            (ap first_unread parts_are ∙ unread_more (Some v) there ∙ unread_here (part_at (steps.Key f.0) f.1 read.there v) [] way.1.fault stop.1)
            (fault_more (Some v) there)
            stop

  -- ---- items of a list

  module _ {V : Type 0} (json : V → Data) (inner : Sort) (e : shape_in part t d ≡ Ok (ListOf inner)) where
    -- it is no list
    pub no_list : None ≡ as_array d → StopsAlong (own part) t d ([], at_itself (own part) d NoForm)
    no_list none =
        stops_here NoForm (ap first_unread (ap (λ s. parts_by s (start part t) d) e ∙ ap (list_parts (start part t) inner) (sym none)))
        (fault_is part t d ∙ ap (λ s. fault_by s (start part t) d) e ∙ ap (list_fault (start part t) inner) (sym none))

    module _ (vs : List V) (is_list : Some (items_of (map json vs)) ≡ as_array d) where
      items_are : parts_in (own part) t d ≡ items_from (start part t) inner 0 (items_of (map json vs))
      items_are = ap (λ s. parts_by s (start part t) d) e ∙ ap (list_parts (start part t) inner) (sym is_list)

      fault_of_items : own_fault part t d ≡ items_fault (start part t) inner (items_of (map json vs))
      fault_of_items = fault_is part t d ∙ ap (λ s. fault_by s (start part t) d) e ∙ ap (list_fault (start part t) inner) (sym is_list)

      module _ (names : Names) (i : ℕ) (v : V) (read : ItemsAreRead json inner vs i names (start part t)) (below : i < length vs) (is : v ≡ get_or vs i v) where
        abbrev left : Items
        left = items_of (map json (drop (i + 1) vs))

        item_at : items_of (map json (drop i vs)) ≡ item (json v) left
        item_at = ap (λ us. items_of (map json us)) (drop_more vs i v below ∙ ap (λ x. x ∷ drop (i + 1) vs) (sym is))

        -- the item isn't read
        pub item_stops : (way : Way) → StopsAlong inner read.there (json v) way → StopsAlong (own part) t d (steps.Item i ∷ way.0, way.1)
        item_stops way stop =
            let p = part_at (steps.Item i) inner read.there (json v) in
            stops_inside p way.0 way.1
            (ap first_unread items_are ∙ read.unread ∙ ap (λ ds. first_unread (items_from read.there inner i ds)) item_at
            ∙ unread_here p (items_from (after inner read.there (json v)) inner (i + 1) left) way.1.fault stop.1)
            (fault_of_items ∙ read.fault ∙ ap (items_fault read.there inner) item_at ∙ ap (λ o. first_or o (items_fault (after inner read.there (json v)) inner left)) stop.1 ∙ sym stop.1)
            stop

        -- it is
        pub item_read : (new : Names) → (fault_in inner read.there (json v) ≡ None) × NamesAre new (after inner read.there (json v)) → ItemsAreRead json inner vs (i + 1) new (start part t)
        item_read new fine =
            let p = part_at (steps.Item i) inner read.there (json v) in
            record {
              there = after inner read.there (json v);
              names = fine.1;
              unread = read.unread ∙ ap (λ ds. first_unread (items_from read.there inner i ds)) item_at ∙ read_here p (items_from (after inner read.there (json v)) inner (i + 1) left) fine.0;
              fault = read.fault ∙ ap (items_fault read.there inner) item_at ∙ ap (λ o. first_or o (items_fault (after inner read.there (json v)) inner left)) fine.0;
              ends = read.ends ∙ ap (after_items read.there inner) item_at;
            }

      module _ (names : Names) (i : ℕ) (read : ItemsAreRead json inner vs i names (start part t)) (over : length vs ≤ i) where
        pub all_read : own_fault part t d ≡ None
        all_read = fault_of_items ∙ read.fault ∙ ap (λ us. items_fault read.there inner (items_of (map json us))) (drop_all i vs over)

        pub all_ends : after_items (start part t) inner (items_of (map json vs)) ≡ read.there
        all_ends = read.ends ∙ ap (λ us. after_items read.there inner (items_of (map json us))) (drop_all i vs over)

-- ---- what is there behind the parts

one_is : (b : Bool) (f g : Form) → one_form b f ≡ Ok (FormOf g) → f ≡ g
unfolding one_form
one_is true f g e = cc
one_is false f g e = absurd (cc)

-- the values behind keys add nothing
abbrev Stay : List Field → Type 0
Stay [] = Unit {0}
Stay (f ∷ fs) = ((u : There) (e : Data) → after f.1 u e ≡ u) × Stay fs

abbrev MoreStays : Option Field → Type 0
MoreStays None = Unit {0}
MoreStays (Some f) = (u : There) (e : Data) → after f.1 u e ≡ u

key_stays : (t : There) (f : Field) (o : Option Data) (rest : There → There) → ((u : There) (e : Data) → after f.1 u e ≡ u) → rest t ≡ t → after_key t f o rest ≡ t
key_stays t f None rest stays same = refl
key_stays t f (Some e) rest stays same = ap rest (stays t e) ∙ same

keys_stay : (t : There) (d : Data) (fs : List Field) → Stay fs → after_keys t d fs ≡ t
keys_stay t d [] stay = refl
keys_stay t d (f ∷ fs) stay = key_stays t f (get (key_word f.0) d) (λ u. after_keys u d fs) stay.0 (keys_stay t d fs stay.1)

abbrev StaysAll : Form → Type 0
StaysAll form = Stay (fields_of form) × MoreStays (more_of form)

form_stays : (f g : Form) (b : Bool) → StaysAll f → one_form b f ≡ Ok (FormOf g) → StaysAll g
form_stays f g b stays e = subst StaysAll (one_is b f g e) stays

intent_stays : (form : IntentForm) (g : Form) → intent_shape form ≡ Ok (FormOf g) → StaysAll g
intent_stays intents.Step g e = let same : forms.Step ≡ g = cc in subst StaysAll same (((λ u e. refl), ((λ u e. refl), ((λ u e. refl), ((λ u e. refl), tt)))), (λ u e. refl))
intent_stays intents.Steps g e = let same : forms.Steps ≡ g = cc in subst StaysAll same (((λ u e. refl), ((λ u e. refl), ((λ u e. refl), tt))), (λ u e. refl))
intent_stays intents.Claim g e = let same : forms.Claim ≡ g = cc in subst StaysAll same (((λ u e. refl), ((λ u e. refl), ((λ u e. refl), ((λ u e. refl), tt)))), tt)
intent_stays intents.Round g e = let same : forms.Round ≡ g = cc in subst StaysAll same (((λ u e. refl), ((λ u e. refl), tt)), tt)
intent_stays intents.Advance g e = let same : forms.Advance ≡ g = cc in subst StaysAll same (((λ u e. refl), tt), tt)
intent_stays intents.Nothing g e = absurd (cc)

is_no_single : {X : Type 0} (f : Option JsonFault) (form : Form) → single f ≡ Ok (FormOf form) → X
is_no_single None form e = absurd (cc)
is_no_single (Some g) form e = absurd (cc)

is_no_list : {X : Type 0} (f : Option JsonFault) (inner : Sort) → single f ≡ Ok (ListOf inner) → X
is_no_list None inner e = absurd (cc)
is_no_list (Some g) inner e = absurd (cc)

no_form_list : {X : Type 0} (b : Bool) (form : Form) (inner : Sort) → one_form b form ≡ Ok (ListOf inner) → X
unfolding one_form
no_form_list true form inner e = absurd (cc)
no_form_list false form inner e = absurd (cc)

no_intent_list : {X : Type 0} (form : IntentForm) (inner : Sort) → intent_shape form ≡ Ok (ListOf inner) → X
no_intent_list intents.Step inner e = absurd (cc)
no_intent_list intents.Steps inner e = absurd (cc)
no_intent_list intents.Claim inner e = absurd (cc)
no_intent_list intents.Round inner e = absurd (cc)
no_intent_list intents.Advance inner e = absurd (cc)
no_intent_list intents.Nothing inner e = absurd (cc)

-- but those of a scenario
abbrev StaysUnless : ScenarioSort → Form → Type 0
StaysUnless parts.Scenario form = MoreStays (more_of form)
StaysUnless other form = StaysAll form

stays_of : (part : ScenarioSort) (t : There) (d : Data) (form : Form) → shape_in part t d ≡ Ok (FormOf form) → StaysUnless part form
stays_of parts.Scenario t d form e = subst (λ g. MoreStays (more_of g)) (one_is _ forms.Scenario form e) tt
stays_of parts.Genesis t d form e = absurd (cc)
stays_of parts.Funds t d form e = form_stays forms.Funds form _ (((λ u e. refl), ((λ u e. refl), tt)), tt) e
stays_of parts.Contracts t d form e = absurd (cc)
stays_of parts.NamedContract t d form e = form_stays forms.NamedContract form _ (((λ u e. refl), ((λ u e. refl), ((λ u e. refl), tt))), tt) e
stays_of parts.Threads t d form e = absurd (cc)
stays_of parts.NamedThread t d form e = form_stays forms.NamedThread form _ (((λ u e. refl), ((λ u e. refl), ((λ u e. refl), ((λ u e. refl), ((λ u e. refl), tt))))), tt) e
stays_of parts.Plans t d form e = absurd (cc)
stays_of parts.Plan t d form e = form_stays forms.Plan form _ (((λ u e. refl), ((λ u e. refl), ((λ u e. refl), ((λ u e. refl), tt)))), (λ u e. refl)) e
stays_of parts.PlanKeys t d form e = absurd (cc)
stays_of parts.Intents t d form e = absurd (cc)
stays_of parts.Intent t d form e = intent_stays (intent_form d) form e
stays_of parts.Steps t d form e = absurd (cc)
stays_of parts.OneStep t d form e = let same : forms.OneStep ≡ form = cc in subst StaysAll same (((λ u e. refl), ((λ u e. refl), tt)), tt)
stays_of (parts.NewName kind) t d form e = is_no_single _ form e
stays_of (parts.NameOf kind) t d form e = is_no_single _ form e
stays_of parts.Count t d form e = is_no_single _ form e
stays_of parts.Workers t d form e = is_no_single _ form e
stays_of parts.Calls t d form e = is_no_single _ form e
stays_of parts.Truth t d form e = is_no_single _ form e

leaves_by : (t : There) (d : Data) (form : Form) (names : Names) → StaysAll form → NamesAre names (after_keys t d (fields_of form)) → NamesAre names t
leaves_by t d form names stays are = subst (NamesAre names) (keys_stay t d (fields_of form) stays.0) are

-- the names of what is there behind a form
pub form_leaves : (part : ScenarioSort) (t : There) (d : Data) (form : Form) (names : Names) → shape_in part t d ≡ Ok (FormOf form) → NamesAre names (after_keys (start part t) d (fields_of form)) → Leaves part names t d
form_leaves parts.Scenario t d form names e are = tt
form_leaves parts.Genesis t d form names e are = absurd (cc)
form_leaves parts.Funds t d form names e are = leaves_by t d form names (stays_of parts.Funds t d form e) are
form_leaves parts.Contracts t d form names e are = absurd (cc)
form_leaves parts.NamedContract t d form names e are = leaves_by t d form names (stays_of parts.NamedContract t d form e) are
form_leaves parts.Threads t d form names e are = absurd (cc)
form_leaves parts.NamedThread t d form names e are = leaves_by t d form names (stays_of parts.NamedThread t d form e) are
form_leaves parts.Plans t d form names e are = absurd (cc)
form_leaves parts.Plan t d form names e are = leaves_by t d form names (stays_of parts.Plan t d form e) are
form_leaves parts.PlanKeys t d form names e are = absurd (cc)
form_leaves parts.Intents t d form names e are = absurd (cc)
form_leaves parts.Intent t d form names e are = leaves_by t d form names (stays_of parts.Intent t d form e) are
form_leaves parts.Steps t d form names e are = absurd (cc)
form_leaves parts.OneStep t d form names e are = leaves_by t d form names (stays_of parts.OneStep t d form e) are
form_leaves (parts.NewName kind) t d form names e are = is_no_single _ form e
form_leaves (parts.NameOf kind) t d form names e are = is_no_single _ form e
form_leaves parts.Count t d form names e are = is_no_single _ form e
form_leaves parts.Workers t d form names e are = is_no_single _ form e
form_leaves parts.Calls t d form names e are = is_no_single _ form e
form_leaves parts.Truth t d form names e are = is_no_single _ form e

more_by : (part : ScenarioSort) (form : Form) → StaysUnless part form → MoreStays (more_of form)
more_by parts.Scenario form stays = stays
more_by parts.Genesis form stays = stays.1
more_by parts.Funds form stays = stays.1
more_by parts.Contracts form stays = stays.1
more_by parts.NamedContract form stays = stays.1
more_by parts.Threads form stays = stays.1
more_by parts.NamedThread form stays = stays.1
more_by parts.Plans form stays = stays.1
more_by parts.Plan form stays = stays.1
more_by parts.PlanKeys form stays = stays.1
more_by parts.Intents form stays = stays.1
more_by parts.Intent form stays = stays.1
more_by parts.Steps form stays = stays.1
more_by parts.OneStep form stays = stays.1
more_by (parts.NewName kind) form stays = stays.1
more_by (parts.NameOf kind) form stays = stays.1
more_by parts.Count form stays = stays.1
more_by parts.Workers form stays = stays.1
more_by parts.Calls form stays = stays.1
more_by parts.Truth form stays = stays.1

-- a value that may lack adds nothing
pub more_stays : (part : ScenarioSort) (t : There) (d : Data) (form : Form) (f : Field) (u : There) (v : Data) → shape_in part t d ≡ Ok (FormOf form) → Some f ≡ more_of form → after f.1 u v ≡ u
more_stays part t d form f u v e some = subst MoreStays (sym some) (more_by part form (stays_of part t d form e)) u v

-- ---- behind a list

items_stay : (inner : Sort) (t : There) (ds : Items) → ((u : There) (e : Data) → after inner u e ≡ u) → after_items t inner ds ≡ t
items_stay inner t no_items stays = refl
items_stay inner t (item d ds) stays = ap (λ u. after_items u inner ds) (stays t d) ∙ items_stay inner t ds stays

plain_leaves : (inner other : Sort) (t : There) (ds : Items) (names : Names) → ((u : There) (e : Data) → after inner u e ≡ u) → inner ≡ other → NamesAre names (after_items t other ds) → NamesAre names t
plain_leaves inner other t ds names stays same are = subst (NamesAre names) (ap (λ s. after_items t s ds) (sym same) ∙ items_stay inner t ds stays) are

turn_leaves : (kind : NamedSort) (inner other : Sort) → ((u : There) (e : Data) → fault_of (one_more kind u e) ≡ fault_in inner u e) → ((u : There) (e : Data) → or_same u (one_more kind u e) ≡ after inner u e)
    → (t : There) (d : Data) (ds : Items) (names : Names) → Some ds ≡ as_array d → fault_of (in_turn kind t d) ≡ None → inner ≡ other → NamesAre names (after_items t other ds) → NamesAre names (or_same t (in_turn kind t d))
turn_leaves kind inner other same goes t d ds names is fine sort are =
    let at : in_turn kind t d ≡ all_in_turn kind t ds = ap (λ o. needed o >>= all_in_turn kind t) (sym is) in
    subst (NamesAre names) (ap (λ s. after_items t s ds) (sym sort) ∙ turn_ends kind inner same goes t ds (sym (ap fault_of at) ∙ fine) ∙ ap (or_same t) (sym at)) are

list_same : (a b : Sort) → ◌≡◌ {A = Reading Shape} (Ok (ListOf a)) (Ok (ListOf b)) → a ≡ b
list_same a b e = cc

pub list_leaves : (part : ScenarioSort) (t : There) (d : Data) (inner : Sort) (ds : Items) (names : Names) → shape_in part t d ≡ Ok (ListOf inner) → Some ds ≡ as_array d → own_fault part t d ≡ None
    → NamesAre names (after_items (start part t) inner ds) → Leaves part names t d
list_leaves parts.Scenario t d inner ds names e is fine are = no_form_list _ _ inner e
list_leaves parts.Genesis t d inner ds names e is fine are = plain_leaves (own parts.Funds) inner t ds names (λ u e. refl) (list_same (own parts.Funds) inner e) are
list_leaves parts.Funds t d inner ds names e is fine are = no_form_list _ _ inner e
list_leaves parts.Contracts t d inner ds names e is fine are = turn_leaves named.Contract (own parts.NamedContract) inner (λ u e. made_fault (contract u.contracts e) _) (λ u e. refl) t d ds names is fine (list_same (own parts.NamedContract) inner e) are
list_leaves parts.NamedContract t d inner ds names e is fine are = no_form_list _ _ inner e
list_leaves parts.Threads t d inner ds names e is fine are = turn_leaves named.Thread (own parts.NamedThread) inner (λ u e. made_fault (new_thread u.contracts u.threads e) _) (λ u e. refl) t d ds names is fine (list_same (own parts.NamedThread) inner e) are
list_leaves parts.NamedThread t d inner ds names e is fine are = no_form_list _ _ inner e
list_leaves parts.Plans t d inner ds names e is fine are = turn_leaves named.Plan (own parts.Plan) inner (λ u e. made_fault (plan u.contracts u.threads u.plans e) _) (λ u e. refl) t d ds names is fine (list_same (own parts.Plan) inner e) are
list_leaves parts.Plan t d inner ds names e is fine are = no_form_list _ _ inner e
list_leaves parts.PlanKeys t d inner ds names e is fine are = plain_leaves sorts.Text inner t ds names (λ u e. refl) (list_same sorts.Text inner e) are
list_leaves parts.Intents t d inner ds names e is fine are = plain_leaves (own parts.Intent) inner t ds names (λ u e. refl) (list_same (own parts.Intent) inner e) are
list_leaves parts.Intent t d inner ds names e is fine are = no_intent_list (intent_form d) inner e
list_leaves parts.Steps t d inner ds names e is fine are = plain_leaves (own parts.OneStep) inner t ds names (λ u e. refl) (list_same (own parts.OneStep) inner e) are
list_leaves parts.OneStep t d inner ds names e is fine are = absurd (cc)
list_leaves (parts.NewName kind) t d inner ds names e is fine are = is_no_list _ inner e
list_leaves (parts.NameOf kind) t d inner ds names e is fine are = is_no_list _ inner e
list_leaves parts.Count t d inner ds names e is fine are = is_no_list _ inner e
list_leaves parts.Workers t d inner ds names e is fine are = is_no_list _ inner e
list_leaves parts.Calls t d inner ds names e is fine are = is_no_list _ inner e
list_leaves parts.Truth t d inner ds names e is fine are = is_no_list _ inner e

-- the names of what is there behind what has no parts
pub single_leaves : (part : ScenarioSort) (t : There) (d : Data) (names : Names) → shape_in part t d ≡ Ok Single → NamesAre names (start part t) → Leaves part names t d
single_leaves parts.Scenario t d names e are = tt
single_leaves parts.Genesis t d names e are = are
single_leaves parts.Funds t d names e are = are
single_leaves parts.Contracts t d names e are = absurd (cc)
single_leaves parts.NamedContract t d names e are = are
single_leaves parts.Threads t d names e are = absurd (cc)
single_leaves parts.NamedThread t d names e are = are
single_leaves parts.Plans t d names e are = absurd (cc)
single_leaves parts.Plan t d names e are = are
single_leaves parts.PlanKeys t d names e are = are
single_leaves parts.Intents t d names e are = are
single_leaves parts.Intent t d names e are = are
single_leaves parts.Steps t d names e are = are
single_leaves parts.OneStep t d names e are = are
single_leaves (parts.NewName kind) t d names e are = are
single_leaves (parts.NameOf kind) t d names e are = are
single_leaves parts.Count t d names e are = are
single_leaves parts.Workers t d names e are = are
single_leaves parts.Calls t d names e are = are
single_leaves parts.Truth t d names e are = are

-- ---- all is read

module _ (part : ScenarioSort) (t : There) (d : Data) (form : Form) (fs : List Field) (same : fs ≡ fields_of form) (e : shape_in part t d ≡ Ok (FormOf form))
    (names : Names) (i : ℕ) (read : KeysAreRead d fs (more_of form) i names (start part t)) (over : length fs ≤ i) where
  fields_leave : (new : Names) → NamesAre new read.there → Leaves part new t d
  fields_leave new are =
      form_leaves part t d form new e (subst (NamesAre new) (sym (ap (after_keys (start part t) d) (sym same) ∙ ends_over part t d form fs same e names i read over)) are)

  pub none_is_left : None ≡ more_of form → (own_fault part t d ≡ None) × Leaves part names t d
  none_is_left none = (no_more part t d form fs same e names i read over none, fields_leave names read.names)

  pub last_lacks : (f : Field) → Some f ≡ more_of form → None ≡ get (key_word f.0) d → (own_fault part t d ≡ None) × Leaves part names t d
  last_lacks f some none = (more_lacks part t d form fs same e names i read over f some none, fields_leave names read.names)

  pub last_read : (f : Field) (v : Data) (new : Names) → Some f ≡ more_of form → Some v ≡ get (key_word f.0) d → (fault_in f.1 read.there v ≡ None) × NamesAre new (after f.1 read.there v)
      → (own_fault part t d ≡ None) × Leaves part new t d
  last_read f v new some there fine = (
    more_read part t d form fs same e names i read over f some v there fine.0,
    fields_leave new (subst (NamesAre new) (more_stays part t d form f read.there v e some) fine.1),
  )

pub list_read : {V : Type 0} (json : V → Data) (part : ScenarioSort) (t : There) (d : Data) (inner : Sort) (e : shape_in part t d ≡ Ok (ListOf inner)) (vs : List V) (is_list : Some (items_of (map json vs)) ≡ as_array d)
    (names : Names) (i : ℕ) (read : ItemsAreRead json inner vs i names (start part t)) → length vs ≤ i → (own_fault part t d ≡ None) × Leaves part names t d
list_read json part t d inner e vs is_list names i read over =
    let fine = all_read part t d json inner e vs is_list names i read over in (
      fine,
      list_leaves part t d inner (items_of (map json vs)) names e is_list fine
          (subst (NamesAre names) (sym (all_ends part t d json inner e vs is_list names i read over)) read.names),
    )

-- ---- what a contract or a state has too

-- reading stops there as it does in one of these
pub record Shared (s : Sort) : Type 0 where
  pub stops : (t : There) (d : Data) (at : Place) → StopsAt s d at → StopsAlong s t d ([], at)
  pub fine : (t : There) (d : Data) → fault_as s d ≡ None → fault_in s t d ≡ None
  pub stays : (t : There) (d : Data) → t ≡ after s t d

pub shared : (s : Sort) → own_part s ≡ None → Shared s
shared sorts.Contract e = record { stops = λ t d at stop. (stop, stop.whole); fine = λ t d h. h; stays = λ t d. refl }
shared sorts.Cases e = record { stops = λ t d at stop. (stop, stop.whole); fine = λ t d h. h; stays = λ t d. refl }
shared sorts.Case e = record { stops = λ t d at stop. (stop, stop.whole); fine = λ t d h. h; stays = λ t d. refl }
shared sorts.Action e = record { stops = λ t d at stop. (stop, stop.whole); fine = λ t d h. h; stays = λ t d. refl }
shared sorts.Value e = record { stops = λ t d at stop. (stop, stop.whole); fine = λ t d h. h; stays = λ t d. refl }
shared sorts.Observation e = record { stops = λ t d at stop. (stop, stop.whole); fine = λ t d h. h; stays = λ t d. refl }
shared sorts.Bounds e = record { stops = λ t d at stop. (stop, stop.whole); fine = λ t d h. h; stays = λ t d. refl }
shared sorts.Bound e = record { stops = λ t d at stop. (stop, stop.whole); fine = λ t d h. h; stays = λ t d. refl }
shared sorts.ChoiceId e = record { stops = λ t d at stop. (stop, stop.whole); fine = λ t d h. h; stays = λ t d. refl }
shared sorts.Token e = record { stops = λ t d at stop. (stop, stop.whole); fine = λ t d h. h; stays = λ t d. refl }
shared sorts.Party e = record { stops = λ t d at stop. (stop, stop.whole); fine = λ t d h. h; stays = λ t d. refl }
shared sorts.Payee e = record { stops = λ t d at stop. (stop, stop.whole); fine = λ t d h. h; stays = λ t d. refl }
shared sorts.Text e = record { stops = λ t d at stop. (stop, stop.whole); fine = λ t d h. h; stays = λ t d. refl }
shared sorts.Hex e = record { stops = λ t d at stop. (stop, stop.whole); fine = λ t d h. h; stays = λ t d. refl }
shared sorts.Whole e = record { stops = λ t d at stop. (stop, stop.whole); fine = λ t d h. h; stays = λ t d. refl }
shared sorts.Time e = record { stops = λ t d at stop. (stop, stop.whole); fine = λ t d h. h; stays = λ t d. refl }
shared sorts.Transaction e = record { stops = λ t d at stop. (stop, stop.whole); fine = λ t d h. h; stays = λ t d. refl }
shared sorts.Interval e = record { stops = λ t d at stop. (stop, stop.whole); fine = λ t d h. h; stays = λ t d. refl }
shared sorts.Inputs e = record { stops = λ t d at stop. (stop, stop.whole); fine = λ t d h. h; stays = λ t d. refl }
shared sorts.Input e = record { stops = λ t d at stop. (stop, stop.whole); fine = λ t d h. h; stays = λ t d. refl }
shared (sorts.State ns) e = record { stops = λ t d at stop. (stop, stop.whole); fine = λ t d h. h; stays = λ t d. refl }
shared (sorts.Accounts ns) e = record { stops = λ t d at stop. (stop, stop.whole); fine = λ t d h. h; stays = λ t d. refl }
shared (sorts.AccountEntry ns) e = record { stops = λ t d at stop. (stop, stop.whole); fine = λ t d h. h; stays = λ t d. refl }
shared sorts.Account e = record { stops = λ t d at stop. (stop, stop.whole); fine = λ t d h. h; stays = λ t d. refl }
shared (sorts.Choices ns) e = record { stops = λ t d at stop. (stop, stop.whole); fine = λ t d h. h; stays = λ t d. refl }
shared (sorts.ChoiceEntry ns) e = record { stops = λ t d at stop. (stop, stop.whole); fine = λ t d h. h; stays = λ t d. refl }
shared (sorts.BoundValues ns) e = record { stops = λ t d at stop. (stop, stop.whole); fine = λ t d h. h; stays = λ t d. refl }
shared (sorts.BoundEntry ns) e = record { stops = λ t d at stop. (stop, stop.whole); fine = λ t d h. h; stays = λ t d. refl }
shared sorts.NumberOrText e = record { stops = λ t d at stop. (stop, stop.whole); fine = λ t d h. h; stays = λ t d. refl }
shared (sorts.Amount ns) e = record { stops = λ t d at stop. (stop, stop.whole); fine = λ t d h. h; stays = λ t d. refl }
shared (sorts.Repeated first) e = record { stops = λ t d at stop. (stop, stop.whole); fine = λ t d h. h; stays = λ t d. refl }
shared sorts.Amounts e = record { stops = λ t d at stop. (stop, stop.whole); fine = λ t d h. h; stays = λ t d. refl }
shared sorts.AmountEntry e = record { stops = λ t d at stop. (stop, stop.whole); fine = λ t d h. h; stays = λ t d. refl }
shared (sorts.OfScenario part) e = absurd (cc)

-- ---- the whole

pub scenario_stops : (d : Data) (way : Way) → StopsAlong (own parts.Scenario) nothing d way → StopsIn d (inside way.0 way.1)
scenario_stops d way stop = record { outer = way.0; last = way.1; stops = stop; is = refl }
