-- What each step of the code answers. It serves proofs alone.
use Rattle.std.specs.Prelude.{◌≡◌, ◌≢◌, ◌↔◌, ℕ, ◌+◌, ◌-◌, ◌==◌, Bool, true, false, List, [], ◌∷◌, ◌++◌, length, take, slice_get, map, Option, Some, None, Result, Ok, Err, IsOk, IsTrue, MatchResult}
use Rattle.std.specs.declared.vec.Vec.{Vec}
use Rattle.std.specs.declared.alloc.Global.{Global}
use Rattle.contract.specs.declared.fault.SemFault.{SemFault}
use Rattle.contract.specs.declared.input.Input.{Input}
use Rattle.contract.specs.declared.interval.Interval.{Interval}
use Rattle.contract.specs.Tree.{ActionTree, ContractTree, contract_tree}
use Rattle.contract.specs.States.States.{StateMaps}
use Rattle.marlowe_run.specs.Semantics.Evaluation.Path.{waits_for}
use Rattle.marlowe_run.specs.Semantics.Walk.{Standing, standing, answer_of}
use Rattle.marlowe_run.specs.Semantics.Transaction.{trimmed, begun}
use Rattle.marlowe_run.specs.Semantics.Computed.{computed}
use Rattle.next_inputs.specs.declared.offer.Offer.{Offer}
use Rattle.next_inputs.specs.Offers.{has, AreOffers}
use Rattle.next_inputs.specs.Taking.{taken_case}
use Rattle.next_inputs.specs.Opening.{opening}
use Rattle.analysis_spec.specs.declared.path.PathStep.{PathStep}
use Rattle.analysis_spec.specs.Marks.{led, settling}
use Rattle.trace.specs.declared.sequence.Left.{Left}
use Rattle.trace.specs.declared.settling.Settled.{Settled}
use Rattle.trace.specs.declared.warned.Warned.{Warned}
use Rattle.trace.specs.Warned.{warned_at}
use Rattle.marlowe_run.specs.MarloweRefusals.declared.fault.RunFault.TheVariants as run
use Rattle.marlowe_run.specs.MarloweRefusals.declared.trace_fault.TraceFault.{TraceFault}
use Rattle.marlowe_run.specs.MarloweRefusals.declared.trace_fault.TraceFault.TheVariants as trace
use Rattle.marlowe_next.specs.declared.asked.Asked.{Asked}
use Rattle.marlowe_next.specs.declared.cases.Cases.{Cases}
use Rattle.next_lines.specs.declared.told.CaseTold.{CaseTold}
use Rattle.next_lines.specs.Applicable.{Applicable}
use Rattle.marlowe_next.specs.Applicable.{refusal, applicable, applicable_from}
use Rattle.marlowe_next.specs.Question.{Reached, answered}
use Rattle.places.specs.declared.key.Key.{Key}
use Rattle.marlowe_next.specs.Answer.{warning_told, told_of, printed, IsAnswerUpTo}
use Rattle.next_lines.specs.Told.{Told}
use Rattle.next_lines.specs.Lines.{lines_of}
use Rattle.next_lines.specs.Json.{json_line}
use Rattle.next_lines.specs.Seen.{seen_case, seen_cases}

-- what is told of a case, if something is
abbrev pub seen_if : Option CaseTold → List Applicable
seen_if None = []
seen_if (Some c) = seen_case c ∷ []

-- a text that answers, in lines with so many inputs at most, or why there is no answer
abbrev pub AnswersUpTo : Option ℕ → Asked → Result Reached TraceFault → Result (Vec ℕ Global) TraceFault → Type 0
AnswersUpTo most q reached result = MatchResult result (λ text. IsAnswerUpTo most q reached text.items) (λ fault. fault ≢ trace.Run run.Memory → answered q reached ≡ Err fault)

abbrev pub Answers : Asked → Result Reached TraceFault → Result (Vec ℕ Global) TraceFault → Type 0
Answers q reached result = AnswersUpTo None q reached result

-- how many inputs are told at most: of JSON all
abbrev pub limit : Option ℕ → Bool → Option ℕ
limit most true = None
limit most false = most

-- one line of JSON, or lines for people
abbrev pub spelled : Bool → Told → List ℕ
spelled true t = json_line t
spelled false t = lines_of t

-- a contract has settled: in this fixed interval it stands so
pub record SettlesTo (i : Interval) (s : StateMaps) (c : ContractTree) (fixed : Interval) (left : StateMaps) (rest : ContractTree) : Type 0 where
  pub interval : trimmed i s ≡ fixed
  pub stands : answer_of (opening i s c) ≡ Ok (standing left rest)

-- each input that the offer of the case at an index has takes that case
abbrev pub TakesAt : Interval → StateMaps → ContractTree → ℕ → Offer → Type 0
TakesAt j s c n f = (k : ActionTree × ContractTree) → slice_get (waits_for c) n ≡ Some k → (x : Input) → has k.0 f x ≡ true → taken_case j s x (waits_for c) ≡ Some n

-- what is told of the case at an index, from wherever the contract has settled
abbrev pub TellsCase : Interval → StateMaps → ContractTree → ℕ → Offer → List Applicable → Type 0
TellsCase j s c n f told = (i : Interval) (from : StateMaps) (whole : ContractTree) → SettlesTo i from whole j s c
    → (k : ActionTree × ContractTree) → slice_get (waits_for c) n ≡ Some k → told ≡ applicable (refusal i from whole) n k.0 f

-- so many inputs are told of the case at an index, whatever follows
abbrev pub CountsCase : ContractTree → ℕ → Offer → ℕ → Type 0
CountsCase c n f count = (refused : Input → Option SemFault) (k : ActionTree × ContractTree) → slice_get (waits_for c) n ≡ Some k → count ≡ length (applicable refused n k.0 f)

-- .. of the cases from that one on: with those of the cases before they are all
abbrev pub CountsFrom : ContractTree → List Offer → ℕ → ℕ → Type 0
CountsFrom c fs n count = (refused : Input → Option SemFault) → count + length (applicable_from refused 0 (take n (waits_for c)) (take n fs)) ≡ length (applicable_from refused 0 (waits_for c) fs)

-- so many are all that may be told
abbrev pub is_full : ℕ → Option ℕ → Bool
is_full n None = false
is_full n (Some most) = n == most

-- all inputs are told; or so many at most, the first, and how many more there are
abbrev pub TellsFirst : Option ℕ → List Applicable → List Applicable → ℕ → Type 0
TellsFirst None inputs told more = (told ≡ inputs) × (more ≡ 0)
TellsFirst (Some most) inputs told more = (told ≡ take most inputs) × (more ≡ length inputs - most)

-- what is told of all its cases, from wherever the contract has settled
abbrev pub TellsCases : Option ℕ → Interval → StateMaps → ContractTree → List Offer → Cases → Type 0
TellsCases most j s c fs cases = (i : Interval) (from : StateMaps) (whole : ContractTree) → SettlesTo i from whole j s c
    → TellsFirst most (applicable_from (refusal i from whole) 0 (waits_for c) fs) (seen_cases cases.told.items) cases.more

-- how a contract has settled over an interval
pub record HasSettled (i : Interval) (a : Standing) (left : Settled) : Type 0 where
  pub stands : answer_of (opening i a.state a.contract) ≡ Ok (standing left.outcome.state (contract_tree left.outcome.place.now))
  pub payments : left.outcome.payments ≡ (opening i a.state a.contract).payments
  pub can_reduce : IsTrue left.can_reduce ↔ IsOk (answer_of (computed i a.state a.contract []))
  pub path : left.path ≡ led [] (opening i a.state a.contract).turns
  pub warned : left.warned ≡ warned_at (settling [] (trimmed i a.state) (begun i a.state) a.contract)

-- a text tells what is so of a contract that has settled, in lines so many inputs at most
abbrev pub TellsSettled : Option ℕ → Interval → Reached → Standing → Bool → List ℕ → Type 0
TellsSettled most i r b json text = (offers : List Offer) × AreOffers (trimmed i r.there.state) b.state (waits_for b.contract) offers × (text ≡ printed most json (told_of i r b offers))

-- the cases offer these where a contract has settled
abbrev pub AreOffersThere : Interval → Left → Settled → List Offer → Type 0
AreOffersThere i from left offers = AreOffers (trimmed i from.state) left.outcome.state (waits_for (contract_tree left.outcome.place.now)) offers

-- a warning of a part that stands at the end of a path
abbrev pub under : List PathStep → Warned → Warned
under path w = record { place = path ++ w.place; warning = w.warning }

-- what is told of warnings of such a part
abbrev pub warnings_under : ContractTree → List PathStep → List Warned → List (List Key × List ℕ)
warnings_under whole path warned = map (λ w. warning_told whole (under path w)) warned
