-- What explains a refusal, in lines or members: which text it explains, or which transaction.
use Rattle.std.specs.Prelude.{◌≡◌, ◌⊎◌, ℕ, ℤ, Bool, true, false, List, [], take, map, slice_get, option_map, Option, Some, None, Result, Ok, Err}
use Rattle.std.specs.Borrow.{Bor}
use Rattle.std.specs.Option.{unwrap_or}
use Rattle.contract.specs.Tree.{ContractTree, contract_tree}
use Rattle.contract.specs.declared.interval.Interval.{Interval}
use Rattle.contract.specs.declared.transaction.Transaction.{Transaction}
use Rattle.marlowe_explain.specs.Semantics.Walk.{Standing, standing}
use Rattle.marlowe_explain.specs.AnalysisSpec.declared.path.PathStep.{PathStep}
use Rattle.marlowe_explain.specs.AnalysisSpec.Marks.{leads_after}
use Rattle.marlowe_explain.specs.Trace.Traces.{left_by}
use Rattle.explanations.specs.JsonReadNames.ReadsText.{of_text, of_text_within}
use Rattle.marlowe_explain.specs.JsonReadContracts.ReadsContract.{contract}
use Rattle.marlowe_explain.specs.JsonReadInputs.ReadsInput.{transaction}
use Rattle.marlowe_explain.specs.JsonReadTransactions.ReadsTransactions.{transactions_of}
use Rattle.marlowe_explain.specs.JsonReadTransactions.declared.fault.ReadFault.{ReadFault}
use Rattle.marlowe_explain.specs.JsonReadTransactions.declared.fault.ReadFault.TheVariants as read_faults
use Rattle.explanations.specs.JsonForms.declared.sort.Numbers.{Numbers}
use Rattle.explanations.specs.JsonForms.declared.sort.Numbers.TheVariants as numbers
use Rattle.explanations.specs.JsonForms.declared.sort.Sort.{Sort}
use Rattle.explanations.specs.JsonForms.declared.sort.Sort.TheVariants as sorts
use Rattle.marlowe_explain.specs.MarloweRun.Start.{start_of}
use Rattle.marlowe_explain.specs.MarloweRun.declared.readable.Readable.{Readable}
use Rattle.explanations.specs.JsonMembers.declared.spelling.Spelling.{Spelling}
use Rattle.explanations.specs.declared.how.How.{How}
use Rattle.explanations.specs.Explained as texts
use Rattle.explain_tables.specs.Explained as tables
use Rattle.marlowe_explain.specs.Explained as transactions
use Rattle.refusal_reasons.specs.declared.source.Source.{Source}
use Rattle.refusal_reasons.specs.declared.source.Sources.{Sources}
use Rattle.refusal_reasons.specs.declared.source.Over.{Over}
use Rattle.refusal_reasons.specs.declared.source.Behind.{Behind}
use Rattle.refusal_reasons.specs.declared.source.Behind.TheVariants.{Nothing, One, Many, Next}

-- what is written of a text, or nothing where there is no text
abbrev pub IfAny : (Option (List ℕ) → Type 0) → List ℕ → Type 0
IfAny Tells written = Tells (Some written) ⊎ (written ≡ []) × Tells None

-- ---- what is explained

-- a text nests no deeper than so many levels, and its explanation is spelled so
abbrev pub within : ℕ → Spelling → How
within depth w = record { depth = depth; spelling = w }

-- a text that isn't read as one of a sort, under a path
abbrev pub TellsText : How → List ℕ → List ℕ → Sort → List ℕ → Type 0
TellsText how path text sort written = texts.Explains how path text sort written

-- .. of a sort that nests no deeper than 127 levels: a state or a transaction
abbrev pub TellsFlat : Spelling → Source → Sort → List ℕ → Type 0
TellsFlat w s sort written = TellsText (within 127 w) s.path.now s.text.now sort written

-- a contract that isn't read
abbrev pub TellsContract : ℕ → Spelling → Source → List ℕ → Type 0
TellsContract depth w s written = TellsText (within depth w) s.path.now s.text.now sorts.Contract written

-- a scenario that isn't read
abbrev pub TellsScenario : ℕ → Spelling → Source → List ℕ → Type 0
TellsScenario depth w s written = texts.ExplainsScenario (within depth w) s.path.now s.text.now written

-- a transaction that is refused where the part of a contract at the end of a path stands so
abbrev pub TellsTransaction : Spelling → ContractTree → List PathStep → Standing → Transaction → List ℕ → Type 0
TellsTransaction w whole path a tx written = transactions.IsExplanation w whole path a tx written

-- a transaction, if it is refused
abbrev pub TellsIfRefused : Spelling → ContractTree → List PathStep → Standing → Transaction → List ℕ → Type 0
TellsIfRefused w whole path a tx written = IfAny (transactions.TellsIfRefused w whole path a tx) written

-- a contract, if it has no table
abbrev pub TellsTable : Spelling → ContractTree → List ℕ → Type 0
TellsTable w c written = IfAny (tables.TellsIfRefused w c) written

-- ---- the first that isn't read

-- what isn't read is explained, and else what comes behind it
abbrev pub ReadFirst : {X F : Type 0} → Result X F → (List ℕ → Type 0) → (X → List ℕ → Type 0) → List ℕ → Type 0
ReadFirst (Err fault) here behind written = here written
ReadFirst (Ok x) here behind written = behind x written

-- ---- transactions one after another

-- where others lead, this holds of the path there and of how the contract stands
pub record LeadsWhere (a : Standing) (before : List Transaction) (Holds : List PathStep → Standing → Type 0) : Type 0 where
  pub there : Standing
  pub leads : left_by 0 a before ≡ Ok there
  pub holds : Holds (leads_after [] a before) there

-- one of them, behind those before it
pub record TellsRefused (w : Spelling) (a : Standing) (txs : List Transaction) (written : List ℕ) : Type 0 where
  pub index : ℕ
  pub refused : Transaction
  pub is_there : slice_get txs index ≡ Some refused
  pub tells : LeadsWhere a (take index txs) (λ path there. TellsTransaction w a.contract path there refused written)

-- a transaction without inputs over an interval, which begins at the minimum time unless another start is asked for, and has its start alone
-- unless an end is asked for
abbrev pub interval_of : Over → ℤ → Interval
interval_of over now = let from = unwrap_or over.from now in record { from = from; to = unwrap_or over.to from }

abbrev pub empty_over : Over → Standing → Transaction
empty_over over there = record { interval = interval_of over there.state.min_time; inputs = [] }

-- .. where all have led, if an interval is asked about
abbrev pub TellsOver : Spelling → ContractTree → Option Over → List ℕ → List PathStep → Standing → Type 0
TellsOver w whole None written path there = written ≡ []
TellsOver w whole (Some over) written path there = TellsIfRefused w whole path there (empty_over over there) written

-- the one that is refused, or what is asked about where all have led
abbrev pub TellsRead : Spelling → Option Over → Standing → List Transaction → List ℕ → Type 0
TellsRead w over a txs written = TellsRefused w a txs written ⊎ LeadsWhere a txs (TellsOver w a.contract over written)

-- a piece of a text, under its path
pub record TellsPieceOf (w : Spelling) (path : List ℕ) (written : List ℕ) : Type 0 where
  pub piece : List ℕ
  pub tells : TellsText (within 127 w) path piece sorts.Transaction written

-- .. of one of the texts
pub record TellsPiece (w : Spelling) (sources : Sources) (written : List ℕ) : Type 0 where
  pub index : ℕ
  pub path : Bor (List ℕ)
  pub is_there : slice_get sources.paths.now index ≡ Some path
  pub tells : TellsPieceOf w path.now written

-- ---- behind a refusal

-- a contract is read, then a state, if one is given, and then what the command has behind them
abbrev pub TellsOne : Spelling → Standing → Source → List ℕ → Type 0
TellsOne w a t written =
    ReadFirst (of_text transaction t.text.now) (TellsFlat w t sorts.Transaction) (TellsIfRefused w a.contract [] a) written

-- of too many transactions there is nothing to tell
abbrev pub TellsUnread : Spelling → Sources → ReadFault → List ℕ → Type 0
TellsUnread w ts read_faults.TooMany written = written ≡ []
TellsUnread w ts fault written = TellsPiece w ts written

abbrev pub TellsThese : Spelling → Option Over → Standing → Sources → List ℕ → Result (List Transaction) ReadFault → Type 0
TellsThese w over a ts written (Ok txs) = TellsRead w over a txs written
TellsThese w over a ts written (Err fault) = TellsUnread w ts fault written

abbrev pub TellsMany : Spelling → Option Over → Standing → Sources → List ℕ → Type 0
TellsMany w over a ts written = TellsThese w over a ts written (transactions_of (map (λ text. text.items) ts.texts.now))

abbrev pub TellsNext : Spelling → Standing → Behind → List ℕ → Type 0
TellsNext w a Nothing written = written ≡ []
TellsNext w a (One t) written = TellsOne w a t written
TellsNext w a (Many ts) written = TellsMany w None a ts written
TellsNext w a (Next ts over) written = TellsMany w (Some over) a ts written

-- a number of a state may also be a text of its digits
abbrev pub numbers_of : Bool → Numbers
numbers_of false = numbers.Whole
numbers_of true = numbers.OrTexts

-- a state that is given isn't read
abbrev pub TellsState : Spelling → Option Source → Bool → List ℕ → Type 0
TellsState w None texts written = ⊥
TellsState w (Some s) texts written = TellsFlat w s (sorts.State (numbers_of texts)) written

abbrev pub TellsFrom : Spelling → Option Source → Bool → Behind → ContractTree → List ℕ → Type 0
TellsFrom w s texts behind c written =
    ReadFirst (start_of texts (option_map (λ source. source.text.now) s)) (TellsState w s texts) (λ start. TellsNext w (standing start c) behind) written

abbrev pub Tells : Source → Option Source → Readable → Behind → Spelling → List ℕ → Type 0
Tells c s readable behind w written =
    ReadFirst (of_text_within readable.depth contract c.text.now) (TellsContract readable.depth w c)
    (λ whole. TellsFrom w s readable.text_numbers behind (contract_tree whole)) written

-- of a table the contract alone
abbrev pub TellsOfTable : Source → ℕ → Spelling → List ℕ → Type 0
TellsOfTable c depth w written =
    ReadFirst (of_text_within depth contract c.text.now) (TellsContract depth w c)
    (λ whole. TellsTable w (contract_tree whole)) written
