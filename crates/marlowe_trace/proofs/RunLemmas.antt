-- A trace is runs, one after another.
use Rattle.std.proofs.Common.{◌≡◌, ◌≢◌, ℕ, suc, Bool, false, List, [], ◌∷◌, ◌++◌, Some, Result, Ok, Err, refl, sym, ap, ◌∙◌}
use Rattle.std.specs.Prelude.{option_map}
use Rattle.contract.specs.Collections.Answers.{◌>>=◌}
use Rattle.contract.specs.declared.fault.SemFault.{SemFault}
use Rattle.contract.specs.declared.fault.SemFault.TheVariants as sem
use Rattle.contract.specs.declared.transaction.Transaction.{Transaction}
use Rattle.contract.specs.declared.tree.Contract.{Contract}
use Rattle.contract.specs.Tree.{ContractTree, contract_tree}
use Rattle.contract.specs.States.States.{StateMaps}
use Rattle.marlowe_run.specs.JsonReadNames.Parts.{Reading}
use Rattle.marlowe_run.specs.JsonReadNames.ReadsText.{of_text, of_text_within}
use Rattle.marlowe_run.specs.JsonReadNames.declared.fault.JsonFault.{JsonFault}
use Rattle.marlowe_run.specs.JsonReadNames.declared.fault.JsonFault.TheVariants as json
use Rattle.marlowe_run.specs.JsonReadContracts.ReadsContract.{contract}
use Rattle.marlowe_run.specs.JsonReadInputs.ReadsInput.{transaction}
use Rattle.json_read_transactions.specs.declared.fault.ReadFault.{ReadFault}
use Rattle.json_read_transactions.specs.ReadsTransactions.{transactions_of}
use Rattle.json_read_transactions.proofs.TakingLaws.{one_is_read_alone, rest_is_read}
use Rattle.marlowe_run.specs.Semantics.Walk.{Standing, standing, answer_of}
use Rattle.marlowe_run.proofs.FromSemantics.Faults.{never_memory}
use Rattle.analysis_spec.specs.Runs.{walk_from}
use Rattle.trace.specs.Traces.{walks, left_then, left_by}
use Rattle.marlowe_run.specs.MarloweRefusals.declared.trace_fault.TraceFault.{TraceFault}
use Rattle.marlowe_run.specs.MarloweRefusals.declared.trace_fault.TraceFault.TheVariants as trace
use Rattle.marlowe_run.specs.MarloweRefusals.Faults.{read_as, contract_fault, state_fault, transaction_fault, semantics_fault}
use Rattle.marlowe_run.specs.MarloweRefusals.TraceFaults.{told_as, texts_fault}
use Rattle.marlowe_run.specs.declared.readable.Readable.{Readable}
use Rattle.marlowe_run.specs.Run.{printed, answer_text, transaction_text, run_from, run_within}
use Rattle.marlowe_run.specs.Start.{state_reading}
use Rattle.marlowe_trace.specs.declared.texts.Asked.{Asked}
use Rattle.marlowe_trace.specs.Traced.{Told, lines_of, refused_of, told_of, trace_from, trace_text}
use Rattle.marlowe_trace.specs.Laws.{as_trace, OneIsARun, StandsFor, renumbered, behind, all_of, TraceIsRuns}
use Rattle.marlowe_trace.proofs.StepLemmas.{walks_on, lines_end, printed_line, line_printed}

-- ---- one transaction

told_contract : (f : JsonFault) → as_trace (Err (contract_fault f)) ≡ Err (trace.Run (contract_fault f))
told_contract json.Memory = refl
told_contract json.NotJson = refl
told_contract json.TooLong = refl
told_contract json.NoForm = refl
told_contract json.NotWhole = refl
told_contract json.OutOfRange = refl
told_contract json.BadHex = refl
told_contract json.Merkleized = refl
told_contract json.BadState = refl

told_state : (f : JsonFault) → as_trace (Err (state_fault f)) ≡ Err (trace.Run (state_fault f))
told_state json.Memory = refl
told_state json.NotJson = refl
told_state json.TooLong = refl
told_state json.NoForm = refl
told_state json.NotWhole = refl
told_state json.OutOfRange = refl
told_state json.BadHex = refl
told_state json.Merkleized = refl
told_state json.BadState = refl

told_refused : (f : SemFault) → f ≢ sem.Memory → as_trace (Err (semantics_fault f)) ≡ Ok ([], Some (trace.Refused 1 f))
told_refused sem.InvalidInterval n = refl
told_refused sem.IntervalInPast n = refl
told_refused sem.Ambiguous n = refl
told_refused sem.NoMatch n = refl
told_refused sem.Useless n = refl
told_refused sem.Leaves128 n = refl
told_refused sem.Memory n = absurd (n refl)

abbrev told : Bool → Standing → List Transaction → Result Told TraceFault
told last a ts = Ok (told_of last a ts)

told_one : (last : Bool) (a : Standing) (tx : Transaction) (r : Result Standing SemFault) → answer_of (walk_from a tx) ≡ r → told last a (tx ∷ []) ≡ as_trace (answer_text (walk_from a tx) r)
told_one last a tx (Ok b) h =
    let whole : left_by 0 a (tx ∷ []) ≡ Ok b = ap (λ r. left_then r 0 (λ c. left_by 1 c [])) h in
    λ i. Ok (line_printed a tx last b h i, refused_of (whole i))
told_one last a tx (Err f) h =
    let first : left_by 0 a (tx ∷ []) ≡ Err (record { index = 0; fault = f }) = ap (λ r. left_then r 0 (λ c. left_by 1 c [])) h in
    let lines : told last a (tx ∷ []) ≡ Ok ([], Some (trace.Refused 1 f)) = λ i. Ok (lines_end a tx [] last f h i, refused_of (first i)) in
    lines ∙ sym (told_refused f (λ e. never_memory tx.interval a.state a.contract tx.inputs (h ∙ ap (λ (g : SemFault). let z : Result Standing SemFault = Err g in z) e)))

module _ (asked : Asked) (t : List ℕ) (tx : Transaction) (is : of_text transaction t ≡ Ok tx) where
  by_state : (c : ContractTree) (r : Reading StateMaps)
      → (read_as (λ f. trace.Run (state_fault f)) r >>= λ s. told_as texts_fault (transactions_of (t ∷ [])) >>= λ ts. Ok (told_of asked.last (standing s c) ts))
      ≡ as_trace (read_as state_fault r >>= λ s. read_as transaction_fault (of_text transaction t) >>= λ u. transaction_text s c u)
  by_state c (Ok s) =
      ap (λ (q : Result (List Transaction) ReadFault). told_as texts_fault q >>= λ ts. Ok (told_of asked.last (standing s c) ts)) (one_is_read_alone t tx is)
      ∙ (told_one asked.last (standing s c) tx (answer_of (walk_from (standing s c) tx)) refl
      ∙ ap (λ (q : Reading Transaction). as_trace (read_as transaction_fault q >>= λ u. transaction_text s c u)) (sym is))
  by_state c (Err f) = sym (told_state f)

  by_contract : (s : List ℕ) (r : Reading Contract)
      → (read_as (λ f. trace.Run (contract_fault f)) r >>= λ given. trace_from asked (contract_tree given) (Some s) (t ∷ []))
      ≡ as_trace (read_as contract_fault r >>= λ given. run_from (state_reading asked.readable.text_numbers) (contract_tree given) s t)
  unfolding trace_from run_from
  by_contract s (Ok given) = by_state (contract_tree given) (of_text (state_reading asked.readable.text_numbers) s)
  by_contract s (Err f) = sym (told_contract f)

pub one_is_a_run : OneIsARun
unfolding trace_text run_within
one_is_a_run asked c s t tx is = by_contract asked t tx is s (of_text_within asked.readable.depth contract c)

-- ---- one after another

-- a trace from texts that stand for where a contract stands
traced_from : (readable : Readable) (c s : List ℕ) (ts : List (List ℕ)) (a : Standing) (txs : List Transaction) → StandsFor readable c s a → transactions_of ts ≡ Ok txs → trace_text (all_of readable) c (Some s) ts ≡ Ok (told_of false a txs)
unfolding trace_text trace_from
traced_from readable c s ts a txs h is =
    ap (λ (r : Reading Contract). read_as (λ f. trace.Run (contract_fault f)) r >>= λ given. trace_from (all_of readable) (contract_tree given) (Some s) ts) h.1
    ∙ (ap (λ (tree : ContractTree). trace_from (all_of readable) tree (Some s) ts) h.2
    ∙ (ap (λ (r : Reading StateMaps). read_as (λ f. trace.Run (state_fault f)) r >>= λ st. told_as texts_fault (transactions_of ts) >>= λ us. told false (standing st a.contract) us) h.3
    ∙ ap (λ (q : Result (List Transaction) ReadFault). told_as texts_fault q >>= λ us. told false a us) is))

run_from_there : (readable : Readable) (c s t : List ℕ) (a b : Standing) (tx : Transaction) → StandsFor readable c s a → of_text transaction t ≡ Ok tx → answer_of (walk_from a tx) ≡ Ok b → run_within readable c s t ≡ Ok (printed (walk_from a tx) b)
unfolding run_within run_from
run_from_there readable c s t a b tx h is next =
    ap (λ (r : Reading Contract). read_as contract_fault r >>= λ given. run_from (state_reading readable.text_numbers) (contract_tree given) s t) h.1
    ∙ (ap (λ (tree : ContractTree). run_from (state_reading readable.text_numbers) tree s t) h.2
    ∙ (ap (λ (r : Reading StateMaps). read_as state_fault r >>= λ st. read_as transaction_fault (of_text transaction t) >>= λ u. transaction_text st a.contract u) h.3
    ∙ (ap (λ (q : Reading Transaction). read_as transaction_fault q >>= λ u. transaction_text a.state a.contract u) is ∙ ap (answer_text (walk_from a tx)) next)))

-- numbers are one higher behind one more
shifted_by : (txs : List Transaction) (n : ℕ) (r : Result Standing SemFault) → ((c : Standing) → refused_of (left_by (suc (suc n)) c txs) ≡ option_map renumbered (refused_of (left_by (suc n) c txs)))
    → refused_of (left_then r (suc n) (λ c. left_by (suc (suc n)) c txs)) ≡ option_map renumbered (refused_of (left_then r n (λ c. left_by (suc n) c txs)))
shifted_by txs n (Ok c) h = h c
shifted_by txs n (Err f) h = refl

shifted : (txs : List Transaction) (n : ℕ) (b : Standing) → refused_of (left_by (suc n) b txs) ≡ option_map renumbered (refused_of (left_by n b txs))
shifted [] n b = refl
shifted (tx ∷ txs) n b = shifted_by txs n (answer_of (walk_from b tx)) (λ c. shifted txs (suc n) c)

told_more : (a b : Standing) (tx : Transaction) (txs : List Transaction) → answer_of (walk_from a tx) ≡ Ok b → told false a (tx ∷ txs) ≡ behind (printed (walk_from a tx) b) (told false b txs)
told_more a b tx txs h =
    let lines : lines_of false (walks a (tx ∷ txs)) ≡ printed (walk_from a tx) b ++ lines_of false (walks b txs) =
    ap (lines_of false) (walks_on a tx txs b h) ∙ ap (λ l. l ++ lines_of false (walks b txs)) (printed_line a tx txs b h) in
    let refused : refused_of (left_by 0 a (tx ∷ txs)) ≡ option_map renumbered (refused_of (left_by 0 b txs)) =
    ap (λ r. refused_of (left_then r 0 (λ c. left_by 1 c txs))) h ∙ shifted txs 0 b in
    λ i. Ok (lines i, refused i)

pub trace_is_runs : TraceIsRuns
trace_is_runs readable c s t d u ts a b tx txs from is next there read = (
  run_from_there readable c s t a b tx from is next,
  traced_from readable c s (t ∷ ts) a (tx ∷ txs) from read
      ∙ (told_more a b tx txs next ∙ ap (behind (printed (walk_from a tx) b)) (sym (traced_from readable d u ts b txs there (rest_is_read t ts tx txs is read)))),
)
