-- The JSON for tools.
use Rattle.std.specs.Prelude.{ℕ, ℤ, Bool, true, false, if◌then◌else◌, List, [], ◌∷◌, ◌++◌, map, Option, Some, None, codes}
use Rattle.serde_json.specs.Data.{Data, string, array, null}
use Rattle.serde_json.specs.View.{items_of}
use Rattle.serde_json.specs.Written.{compact_text}
use Rattle.contract.specs.declared.transaction.Transaction.{Transaction}
use Rattle.json_write_contracts.specs.WrittenNames.{two, three, four, five, six, wide_json, party_json, token_json}
use Rattle.contract_json.specs.WrittenInput.{transaction_json}
use Rattle.contract.specs.Tree.{ContractTree}
use Rattle.contract.specs.States.States.{StateMaps}
use Rattle.contract_notes.specs.Notes.{notes_of}
use Rattle.contract_notes.specs.Parties.{parties_named, once_of}
use Rattle.note_lines.specs.NoteLines.{notes_json}
use Rattle.bound_runs.specs.declared.shown.ShownRange.{ShownRange}
use Rattle.bound_runs.specs.declared.shown.ShownLoss.{ShownLoss}
use Rattle.places.specs.declared.key.Key.{Key}
use Rattle.places.specs.Texts.{kind_name, place_json}
use Rattle.analysis_lines.specs.ToldLines.{Line}

abbrev pub run_json : Option (List Transaction) → Data
run_json None = null
run_json (Some ts) = array (items_of (map transaction_json ts))

-- an alarm with its run, or where runs are left out without the key `run`
abbrev pub alarm_json : Bool → Line → Data
alarm_json false l = two (codes "kind") (string (kind_name l.kind)) (codes "place") (place_json l.place)
alarm_json true l = three (codes "kind") (string (kind_name l.kind)) (codes "place") (place_json l.place) (codes "run") (run_json l.run)

abbrev pub bound_json : Option ℤ → Data
bound_json None = null
bound_json (Some n) = wide_json n

-- a range with the runs that reach its ends, or where runs are left out without their keys
abbrev pub range_json : Bool → ShownRange → Data
range_json false r =
    four (codes "least") (bound_json r.range.least) (codes "most") (bound_json r.range.most) (codes "party") (party_json r.range.party)
    (codes "token") (token_json r.range.token)
range_json true r =
    six (codes "least") (bound_json r.range.least) (codes "least_run") (run_json r.least_run) (codes "most") (bound_json r.range.most)
    (codes "most_run") (run_json r.most_run) (codes "party") (party_json r.range.party) (codes "token") (token_json r.range.token)

abbrev pub alarms_json : Bool → List Line → Data
alarms_json runs lines = array (items_of (map (alarm_json runs) lines))

abbrev pub ranges_json : Bool → List ShownRange → Data
ranges_json runs ranges = array (items_of (map (range_json runs) ranges))

abbrev pub places_json : List (List Key) → Data
places_json places = array (items_of (map place_json places))

-- a time, which is the minimum time where all can be taken out at once; null where none is told
abbrev pub out_json : ℤ → Option (Option ℤ) → Data
out_json first None = null
out_json first (Some None) = wide_json first
out_json first (Some (Some t)) = wide_json t

-- what a party can lose, with the run in which it does
abbrev pub loss_json : Bool → ShownLoss → Data
loss_json false l = three (codes "most") (bound_json l.loss.most) (codes "party") (party_json l.loss.party) (codes "token") (token_json l.loss.token)
loss_json true l =
    four (codes "most") (bound_json l.loss.most) (codes "party") (party_json l.loss.party) (codes "run") (run_json l.run)
    (codes "token") (token_json l.loss.token)

-- what parties can lose: null where it isn't told
abbrev pub losses_json : Bool → Option (List ShownLoss) → Data
losses_json runs None = null
losses_json runs (Some losses) = array (items_of (map (loss_json runs) losses))

-- notes on names, choices and parties
abbrev pub noted_json : StateMaps → ContractTree → Data
noted_json s c = notes_json c (notes_of s c) (once_of (parties_named c))

-- .. have a key where they are wanted
abbrev pub told_json : Bool → Bool → StateMaps → ContractTree → List Line → List (List Key) → List ShownRange → Option (Option ℤ) → Option (List ShownLoss) → Data
told_json runs notes s c lines places ranges out losses =
    if notes then
    six (codes "alarms") (alarms_json runs lines) (codes "down") (losses_json runs losses) (codes "notes") (noted_json s c) (codes "out_from") (out_json s.min_time out)
    (codes "ranges") (ranges_json runs ranges) (codes "unreached") (places_json places)
    else
    five (codes "alarms") (alarms_json runs lines) (codes "down") (losses_json runs losses) (codes "out_from") (out_json s.min_time out)
    (codes "ranges") (ranges_json runs ranges) (codes "unreached") (places_json places)

-- as a line
abbrev pub told_line : Bool → Bool → StateMaps → ContractTree → List Line → List (List Key) → List ShownRange → Option (Option ℤ) → Option (List ShownLoss) → List ℕ
told_line runs notes s c lines places ranges out losses = compact_text (told_json runs notes s c lines places ranges out losses) ++ 10 ∷ []
