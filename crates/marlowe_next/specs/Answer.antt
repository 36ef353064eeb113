-- What is printed where there is an answer.
use Rattle.std.specs.Prelude.{◌≡◌, ℕ, Bool, true, false, List, [], map, Option, None, Result, Ok, is_ok}
use Rattle.contract.specs.declared.interval.Interval.{Interval}
use Rattle.contract.specs.Tree.{ContractTree}
use Rattle.marlowe_run.specs.Semantics.Evaluation.Path.{waits_for}
use Rattle.marlowe_run.specs.Semantics.Walk.{Standing, answer_of}
use Rattle.marlowe_run.specs.Semantics.Transaction.{trimmed, begun}
use Rattle.marlowe_run.specs.Semantics.Computed.{computed}
use Rattle.next_inputs.specs.declared.offer.Offer.{Offer}
use Rattle.next_inputs.specs.Offers.{AreOffers}
use Rattle.next_inputs.specs.Opening.{opening, waits_until}
use Rattle.analysis_spec.specs.Marks.{led, settling}
use Rattle.analysis_spec.specs.Promises.{kind_of}
use Rattle.trace.specs.declared.warned.Warned.{Warned}
use Rattle.trace.specs.Warned.{warned_at}
use Rattle.marlowe_run.specs.MarloweRefusals.declared.trace_fault.TraceFault.{TraceFault}
use Rattle.places.specs.declared.key.Key.{Key}
use Rattle.places.specs.Places.{path_keys, keys_of}
use Rattle.places.specs.Texts.{kind_name}
use Rattle.marlowe_next.specs.declared.asked.Asked.{Asked}
use Rattle.marlowe_next.specs.Applicable.{refusal, applicable_from}
use Rattle.next_lines.specs.Told.{Told, up_to}
use Rattle.next_lines.specs.Lines.{lines_of}
use Rattle.next_lines.specs.Json.{json_line}
use Rattle.marlowe_next.specs.Question.{Reached, interval_at, settled_of}

-- a warning, with the keys of its place in the whole contract
abbrev pub warning_told : ContractTree → Warned → List Key × List ℕ
warning_told whole w = (keys_of w.place whole, kind_name (kind_of w.warning))

-- what is told of a contract where transactions have led. Once it has settled over the interval it stands so, and its cases offer
-- these
abbrev pub told_of : Interval → Reached → Standing → List Offer → Told
told_of i r b offers =
    let s = r.there.state in
    let c = r.there.contract in
    record {
      path = path_keys (led r.path (opening i s c).turns);
      inputs = applicable_from (refusal i s c) 0 (waits_for b.contract) offers;
      more = 0;
      until = waits_until b.contract;
      can_reduce = is_ok (answer_of (computed i s c []));
      payments = (opening i s c).payments;
      warned = map (warning_told r.whole) (warned_at (settling r.path (trimmed i s) (begun i s) c));
    }

-- one line of JSON, which tells all inputs, or lines for people, which tell all of them or so many at most
abbrev pub printed : Option ℕ → Bool → Told → List ℕ
printed most true t = json_line t
printed most false t = lines_of (up_to most t)

-- a text answers what is asked of a contract where transactions have led: it tells what the cases offer, in lines so many inputs at most
pub record IsAnswerUpTo (most : Option ℕ) (q : Asked) (reached : Result Reached TraceFault) (text : List ℕ) : Type 0 where
  pub where_led : Reached
  pub leads : reached ≡ Ok where_led
  pub left : Standing
  pub settles : settled_of q where_led ≡ Ok left
  pub offers : List Offer
  pub offered : AreOffers (trimmed (interval_at q where_led) where_led.there.state) left.state (waits_for left.contract) offers
  pub is : text ≡ printed most q.json (told_of (interval_at q where_led) where_led left offers)

-- .. also in lines all inputs
abbrev pub IsAnswer : Asked → Result Reached TraceFault → List ℕ → Type 0
IsAnswer q reached text = IsAnswerUpTo None q reached text
