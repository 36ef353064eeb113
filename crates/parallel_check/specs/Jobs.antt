-- What is answered to many jobs, each a transaction with its resolution.
use Rattle.std.specs.Prelude.{List, map}
use Rattle.eutxo.specs.EutxoTypes.declared.tx.Tx.{Tx}
use Rattle.eutxo.specs.declared.resolved.Resolved.{Resolved}
use Rattle.eutxo.specs.Asked.{Judges}
use Rattle.eutxo.specs.Checks.{CheckOf, check_of}

-- the check of each job, in the order of the jobs
abbrev pub checks_of : {V : Type 0} → Judges V → List (Tx × Resolved V) → List (CheckOf V)
checks_of j jobs = map (λ job. check_of j job.0 job.1) jobs
