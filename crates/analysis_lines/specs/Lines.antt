-- The lines for people.
use Rattle.std.specs.Prelude.{ℕ, zero, suc, ℤ, pos, Bool, true, false, if◌then◌else◌, List, [], ◌∷◌, ◌++◌, flat_map, Option, Some, None, codes}
use Rattle.std.specs.Fmt.{decimal, signed_decimal}
use Rattle.std.specs.Ordering.{int_eq}
use Rattle.serde_json.specs.Written.{compact_text}
use Rattle.contract.specs.declared.transaction.Transaction.{Transaction}
use Rattle.contract.specs.Names.declared.party.Party.{Party}
use Rattle.contract.specs.Names.declared.token.Token.{Token}
use Rattle.contract.specs.Tree.{ContractTree}
use Rattle.contract.specs.States.States.{StateMaps}
use Rattle.json_write_contracts.specs.WrittenNames.{party_json, token_json}
use Rattle.contract_json.specs.WrittenInput.{transaction_json}
use Rattle.bound_runs.specs.declared.shown.ShownRange.{ShownRange}
use Rattle.bound_runs.specs.declared.shown.ShownLoss.{ShownLoss}
use Rattle.contract_notes.specs.Notes.{notes_of}
use Rattle.contract_notes.specs.Parties.{parties_named, once_of}
use Rattle.note_lines.specs.NoteLines.{notes_lines}
use Rattle.places.specs.declared.key.Key.{Key}
use Rattle.places.specs.Texts.{kind_name, place_text}
use Rattle.analysis_lines.specs.ToldLines.{Line}

-- the compact JSON of a transaction, on a line
abbrev pub transaction_line : Transaction → List ℕ
transaction_line t = compact_text (transaction_json t) ++ 10 ∷ []

-- a run, or that none is known; and nothing where runs are left out
abbrev pub run_lines : Bool → Option (List Transaction) → List ℕ
run_lines true None = codes ", not known" ++ 10 ∷ []
run_lines true (Some ts) = codes ", by this run:" ++ (10 ∷ flat_map transaction_line ts)
run_lines false run = 10 ∷ []

-- the kind of an alarm, its place and its run
abbrev pub whole_lines : Bool → Line → List ℕ
whole_lines runs l = kind_name l.kind ++ (codes " at " ++ (place_text l.place ++ run_lines runs l.run))

-- how many others are told with one, if there are any
abbrev pub number_line : ℕ → List ℕ
number_line n = codes "and at " ++ (decimal n ++ (codes " more places" ++ 10 ∷ []))

abbrev pub others_line : ℕ → List ℕ
others_line zero = []
others_line (suc zero) = codes "and at 1 more place" ++ 10 ∷ []
others_line (suc (suc n)) = number_line (suc (suc n))

-- an alarm that is told itself, and none that is told with another
abbrev pub head_lines : Bool → Line → Option ℕ → List ℕ
head_lines runs l None = []
head_lines runs l (Some n) = whole_lines runs l ++ others_line n

abbrev pub alarm_lines : Bool → Line → List ℕ
alarm_lines runs l = head_lines runs l l.head

-- all alarms, or that there is none
abbrev pub alarms_lines : Bool → List Line → List ℕ
alarms_lines runs [] = codes "never warns, stays within 128 bits" ++ 10 ∷ []
alarms_lines runs (l ∷ ls) = flat_map (alarm_lines runs) (l ∷ ls)

-- a part to which no run comes, by the keys that lead there
abbrev pub unreached_line : List Key → List ℕ
unreached_line keys = codes "never reached: " ++ (place_text keys ++ 10 ∷ [])

-- from when on all can be taken out, where it is told
abbrev pub out_line : Option (Option ℤ) → List ℕ
out_line None = []
out_line (Some None) = codes "all can be taken out at once" ++ 10 ∷ []
out_line (Some (Some t)) = codes "all can be taken out from " ++ (signed_decimal t ++ (codes " on" ++ 10 ∷ []))

-- how much more a party brings than it is paid, at most
abbrev pub loss_text : Option ℤ → List ℕ
loss_text None = codes "down not known"
loss_text (Some n) = if int_eq n (pos 0) then codes "never down" else codes "at most " ++ (signed_decimal n ++ codes " down")

-- where a state is given, only what is brought from there on counts
abbrev pub given_text : Bool → List ℕ
given_text true = codes " from the given state" ++ 10 ∷ []
given_text false = 10 ∷ []

abbrev pub loss_line : Bool → ShownLoss → List ℕ
loss_line given l =
    (compact_text (party_json l.loss.party) ++ (codes " " ++ (compact_text (token_json l.loss.token) ++ (codes " " ++ loss_text l.loss.most)))) ++ given_text given

-- what each party can lose, where it is told
abbrev pub losses_lines : Bool → Option (List ShownLoss) → List ℕ
losses_lines given None = []
losses_lines given (Some losses) = flat_map (loss_line given) losses

-- that runs start without accounts, where no state is given
abbrev pub start_line : Bool → List ℕ
start_line true = []
start_line false = codes "from a start without accounts" ++ 10 ∷ []

-- what a party is paid of a token
abbrev pub bounds_text : Option ℤ → Option ℤ → List ℕ
bounds_text (Some m) (Some n) = codes "at least " ++ (signed_decimal m ++ (codes ", at most " ++ signed_decimal n))
bounds_text (Some m) None = codes "at least " ++ signed_decimal m
bounds_text None (Some n) = codes "at most " ++ signed_decimal n
bounds_text None None = codes "not known"

abbrev pub range_line : ShownRange → List ℕ
range_line r =
    compact_text (party_json r.range.party) ++ (codes " " ++ (compact_text (token_json r.range.token) ++ (codes " " ++ (bounds_text r.range.least r.range.most ++ 10 ∷ []))))

-- ---- runs that reach bounds

-- of whom a line speaks, and of which token
abbrev pub holder_text : Party → Token → List ℕ
holder_text p t = compact_text (party_json p) ++ (codes " " ++ (compact_text (token_json t) ++ codes " "))

-- a bound and its run; nothing where none is known
abbrev pub bound_lines : List ℕ → List ℕ → Option (List Transaction) → List ℕ
bound_lines holder bound None = []
bound_lines holder bound (Some ts) = holder ++ (bound ++ run_lines true (Some ts))

abbrev pub range_runs : ShownRange → List ℕ
range_runs r =
    let holder = holder_text r.range.party r.range.token in
    bound_lines holder (bounds_text r.range.least None) r.least_run ++ bound_lines holder (bounds_text None r.range.most) r.most_run

abbrev pub loss_runs : ShownLoss → List ℕ
loss_runs l = bound_lines (holder_text l.loss.party l.loss.token) (loss_text l.loss.most) l.run

abbrev pub losses_runs : Option (List ShownLoss) → List ℕ
losses_runs None = []
losses_runs (Some losses) = flat_map loss_runs losses

abbrev pub reached_lines : List ShownRange → Option (List ShownLoss) → List ℕ
reached_lines ranges losses = flat_map range_runs ranges ++ losses_runs losses

-- ---- all of them

-- notes on names, choices and parties
abbrev pub noted_lines : StateMaps → ContractTree → List ℕ
noted_lines s c = notes_lines c (notes_of s c) (once_of (parties_named c))

-- alarms, parts to which no run comes, ranges, from when on all can be taken out, and what parties can lose; then that runs start without accounts,
-- where no state is given; then the runs that reach bounds, where runs are wanted, and last notes, where they are
abbrev pub told_lines : Bool → Bool → Bool → StateMaps → ContractTree → List Line → List (List Key) → List ShownRange → Option (Option ℤ) → Option (List ShownLoss) → List ℕ
told_lines runs notes given s c lines places ranges out losses =
    alarms_lines runs lines
    ++ (flat_map unreached_line places
    ++ (flat_map range_line ranges
    ++ (out_line out
    ++ (losses_lines given losses ++ (start_line given ++ ((if runs then reached_lines ranges losses else []) ++ (if notes then noted_lines s c else [])))))))
