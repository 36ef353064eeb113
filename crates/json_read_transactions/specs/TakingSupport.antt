-- No reader needs this file: it serves the proofs of this crate.
-- Transactions that are read behind others.
use Rattle.std.specs.Prelude.{◌≡◌, ◌≢◌, ℕ, List, [], ◌∷◌, ◌++◌, length, Result, Ok, Err, MatchResult, if◌then◌else◌}
use Rattle.std.specs.List.{list_all}
use Rattle.contract.specs.Collections.Answers.{◌>>=◌}
use Rattle.contract.specs.declared.transaction.Transaction.{Transaction}
use Rattle.json_read_names.specs.Parts.{Reading}
use Rattle.json_read_names.specs.ReadsText.{of_text}
use Rattle.json_read_inputs.specs.ReadsInput.{transaction}
use Rattle.json_read_transactions.specs.declared.fault.ReadFault.{ReadFault}
use Rattle.json_read_transactions.specs.declared.fault.ReadFault.TheVariants as faults
use Rattle.json_read_transactions.specs.ReadsTransactions.{is_blank, taken}

-- these, and those of the readings behind them
abbrev pub going_on : List Transaction → List (Reading Transaction) → Result (List Transaction) ReadFault
going_on before readings = taken (length before) readings >>= λ ts. Ok (before ++ ts)

-- what readings stand for went behind the old ones, which are the new ones now; or there is a fault, whatever comes behind them
abbrev pub Takes : List (Reading Transaction) → List Transaction → List Transaction → Result (Unit {0}) ReadFault → Type 0
Takes readings old new result = MatchResult result
    (λ _. (more : List (Reading Transaction)) → going_on old (readings ++ more) ≡ going_on new more)
    (λ fault. fault ≢ faults.Memory → (more : List (Reading Transaction)) → going_on old (readings ++ more) ≡ Err fault)

-- that of a line, unless it is blank
abbrev pub line_readings : List ℕ → List (Reading Transaction)
line_readings line = if list_all is_blank line then [] else of_text transaction line ∷ []
