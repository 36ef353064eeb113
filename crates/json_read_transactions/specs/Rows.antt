-- Worked rows of texts, computed on the definitions.
use Rattle.std.specs.Prelude.{◌≡◌, ℕ, pos, List, [], ◌∷◌, ◌++◌, codes, Ok, Err}
use Rattle.contract.specs.declared.transaction.Transaction.{Transaction}
use Rattle.json_read_names.specs.declared.fault.JsonFault.TheVariants.{NotJson, NoForm}
use Rattle.json_read_transactions.specs.declared.fault.ReadFault.TheVariants as faults
use Rattle.json_read_transactions.specs.ReadsTransactions.{lines, taken, transactions_of}

-- a transaction, and a text of it
abbrev pub moment : Transaction
moment = record { interval = record { from = pos 1; to = pos 2 }; inputs = [] }

abbrev pub moment_text : List ℕ
moment_text = codes "{\"tx_inputs\":[],\"tx_interval\":{\"from\":1,\"to\":2}}"

-- an empty text, blank lines and an empty list have none
abbrev pub NoneIsRead : Type 0
NoneIsRead = transactions_of ([] ∷ codes "\n \t\r\n" ∷ codes "[]" ∷ []) ≡ Ok []

-- blank lines are no lines; the blanks of another stay
abbrev pub BlankLinesAreLeftOut : Type 0
BlankLinesAreLeftOut = lines (codes "a\r\n\r\n \nb c") ≡ codes "a\r" ∷ codes "b c" ∷ []

-- one, a list of one, and two lines
abbrev pub FourAreRead : Type 0
FourAreRead =
    transactions_of (moment_text ∷ (codes "[" ++ (moment_text ++ codes "]")) ∷ (moment_text ++ (codes "\r\n\r\n" ++ moment_text)) ∷ []) ≡ Ok (moment ∷ moment ∷ moment ∷ moment ∷ [])

-- a fault has the number of what is met in it, through all texts: blank lines don't count
abbrev pub FaultsAreNumbered : Type 0
FaultsAreNumbered =
    (transactions_of (moment_text ∷ codes "\n\n7\nx" ∷ []) ≡ Err (faults.Text 2 NoForm))
    × (transactions_of ((codes "[" ++ (moment_text ++ codes ",7]")) ∷ codes "x" ∷ []) ≡ Err (faults.Text 2 NoForm))
    × (transactions_of (codes "[]" ∷ codes "[7" ∷ []) ≡ Err (faults.Text 1 NotJson))

-- the 10,000th is read, and the one behind it is one too many, whatever it is
abbrev pub TenThousandAreRead : Type 0
TenThousandAreRead =
    (taken 9999 (Ok moment ∷ []) ≡ Ok (moment ∷ []))
    × (taken 9999 (Ok moment ∷ Err NoForm ∷ []) ≡ Err faults.TooMany)
    × (taken 9999 (Err NoForm ∷ Ok moment ∷ []) ≡ Err (faults.Text 10000 NoForm))
