-- The text that explains why a transaction is refused, in lines for people or as members of a JSON object for tools.
use Rattle.std.specs.Prelude.{◌≡◌, ℕ, false, List, ◌++◌, slice_get, Option, Some, None, Ok, IsOk}
use Rattle.contract.specs.declared.input.Input.{Input}
use Rattle.contract.specs.declared.interval.Interval.{Interval}
use Rattle.contract.specs.declared.transaction.Transaction.{Transaction}
use Rattle.contract.specs.Tree.{ContractTree, contract_tree}
use Rattle.contract.specs.States.States.{StateMaps}
use Rattle.marlowe_next.specs.Semantics.Walk.{Standing, standing, answer_of}
use Rattle.marlowe_next.specs.Semantics.Computed.{computed}
use Rattle.marlowe_next.specs.Semantics.Transaction.{trimmed}
use Rattle.marlowe_next.specs.AnalysisSpec.declared.path.PathStep.{PathStep}
use Rattle.marlowe_next.specs.Trace.declared.sequence.Left.{Left}
use Rattle.explain_transactions.specs.declared.explanation.Explanation.{Explanation}
use Rattle.explain_transactions.specs.declared.explanation.Explanation.TheVariants as why
use Rattle.explain_transactions.specs.Explained.{Explains}
use Rattle.marlowe_next.specs.MarloweRun.Run.{within_127}
use Rattle.marlowe_next.specs.declared.asked.Asked.{Asked}
use Rattle.marlowe_next.specs.Answer.{IsAnswerUpTo}
use Rattle.json_members.specs.declared.spelling.Spelling.{Spelling}
use Rattle.marlowe_explain.specs.Spelled.{is_for_tools, invalid_told, past_told, ambiguous_told, value_told, sum_told, unmatched_told, useless_told}

-- what can be done over an interval is asked, for people or for tools
abbrev pub asks_over : Spelling → Interval → Asked
asks_over w j = record { from = Some j.from; to = Some j.to; readable = within_127 false; json = is_for_tools w }

-- lines tell so many inputs at most
abbrev pub most_inputs : ℕ
most_inputs = 20

-- a text tells what the part of a contract takes over an interval that is left at the end of a path
abbrev pub IsNext : Spelling → Interval → ContractTree → Left → List ℕ → Type 0
IsNext w j whole left text =
    IsAnswerUpTo (Some most_inputs) (asks_over w j) (Ok (record { whole = whole; path = left.path; there = standing left.state (contract_tree left.contract.now) })) text

-- a text tells of the input at an index that no case takes it, and what the contract takes where it comes
pub record TellsUnmatched (w : Spelling) (j : Interval) (c : ContractTree) (xs : List Input) (n : ℕ) (left : Left) (text : List ℕ) : Type 0 where
  pub input : Input
  pub brought : slice_get xs n ≡ Some input
  pub next : List ℕ
  pub tells : IsNext w j c left next
  pub is : text ≡ unmatched_told w c n input left.path next

-- a text tells that there is nothing to do, and what the contract takes
pub record TellsUseless (w : Spelling) (j : Interval) (c : ContractTree) (left : Left) (text : List ℕ) : Type 0 where
  pub next : List ℕ
  pub tells : IsNext w j c left next
  pub is : text ≡ useless_told w c left.path next

-- a text is that of an explanation
abbrev pub Says : Spelling → Interval → StateMaps → ContractTree → List Input → Explanation → List ℕ → Type 0
Says w i s c xs why.InvalidInterval text = text ≡ invalid_told w i
Says w i s c xs (why.IntervalInPast least) text = text ≡ past_told w i least
Says w i s c xs (why.Ambiguous place t) text = text ≡ ambiguous_told w (trimmed i s) c place t
Says w i s c xs (why.NoMatch n left) text = TellsUnmatched w (trimmed i s) c xs n left text
Says w i s c xs (why.Useless left) text = TellsUseless w (trimmed i s) c left text
Says w i s c xs (why.ValueLeaves place) text = text ≡ value_told w c place
Says w i s c xs (why.SumLeaves place p t) text = text ≡ sum_told w c place p.now t.now

-- ---- of a part of a contract

-- what is left of the part at the end of a path, by its path in the whole contract
abbrev pub left_behind : List PathStep → Left → Left
left_behind path left = record { state = left.state; contract = left.contract; path = path ++ left.path }

-- an explanation of that part, with places of the whole contract
abbrev pub behind : List PathStep → Explanation → Explanation
behind path why.InvalidInterval = why.InvalidInterval
behind path (why.IntervalInPast least) = why.IntervalInPast least
behind path (why.Ambiguous place t) = why.Ambiguous (path ++ place) t
behind path (why.NoMatch n left) = why.NoMatch n (left_behind path left)
behind path (why.Useless left) = why.Useless (left_behind path left)
behind path (why.ValueLeaves place) = why.ValueLeaves (path ++ place)
behind path (why.SumLeaves place p t) = why.SumLeaves (path ++ place) p t

-- a text explains a transaction on the part of a contract at the end of a path: it is that of an explanation that is right of it
pub record IsExplanation (w : Spelling) (whole : ContractTree) (path : List PathStep) (a : Standing) (t : Transaction) (text : List ℕ) : Type 0 where
  pub explanation : Explanation
  pub explains : Explains t.interval a.state a.contract t.inputs explanation
  pub says : Says w t.interval a.state whole t.inputs (behind path explanation) text

abbrev pub IsAccepted : Standing → Transaction → Type 0
IsAccepted a t = IsOk (answer_of (computed t.interval a.state a.contract t.inputs))

-- there is a text exactly where the transaction is refused
abbrev pub TellsIfRefused : Spelling → ContractTree → List PathStep → Standing → Transaction → Option (List ℕ) → Type 0
TellsIfRefused w whole path a t None = IsAccepted a t
TellsIfRefused w whole path a t (Some text) = IsExplanation w whole path a t text
