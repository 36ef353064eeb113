-- What a command answers, or why it refuses, with what explains that.
use Rattle.std.specs.Prelude.{◌≡◌, ◌⊎◌, ℕ, List, [], Result, Ok, Err}
use Rattle.contract.specs.Collections.Answers.{◌>>=◌}
use Rattle.marlowe_explain.specs.Semantics.Walk.{Standing}
use Rattle.explanations.specs.JsonReadNames.ReadsText.{of_text}
use Rattle.marlowe_explain.specs.JsonReadInputs.ReadsInput.{transaction}
use Rattle.marlowe_explain.specs.MarloweRefusals.Faults.{read_as, transaction_fault}
use Rattle.marlowe_explain.specs.MarloweRefusals.declared.fault.RunFault.{RunFault}
use Rattle.marlowe_explain.specs.MarloweRun.Run.{transaction_text}
use Rattle.refusal_reasons.specs.declared.reasoned.Reasoned.{Reasoned}
use Rattle.refusal_reasons.specs.declared.reasoned.Reasoned.TheVariants.{Answer, Refused}

-- it answers so; or it refuses by this fault, which is explained so, or by nothing for want of memory
abbrev pub IsReasoned : {F : Type 0} → Result (List ℕ) F → (List ℕ → Type 0) → Reasoned F → Type 0
IsReasoned answer Tells (Answer text) = answer ≡ Ok text.items
IsReasoned answer Tells (Refused fault told) = (answer ≡ Err fault) × ((told.items ≡ []) ⊎ Tells told.items)

-- what a run answers from where a contract stands: the transaction is read, and then computed
abbrev pub run_behind : Standing → List ℕ → Result (List ℕ) RunFault
run_behind a t = read_as transaction_fault (of_text transaction t) >>= λ tx. transaction_text a.state a.contract tx
