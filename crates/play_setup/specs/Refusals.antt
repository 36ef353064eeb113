-- What of a setup is refused, by its fault: with the fault as lines have it, and in words.
use Rattle.std.specs.Prelude.{ℕ, List, codes}
use Rattle.parties.specs.LedgerSpec.Compiler.declared.fault.CompileFault.{CompileFault}
use Rattle.parties.specs.LedgerSpec.Compiler.declared.fault.CompileFault.TheVariants as compiles
use Rattle.parties.specs.EutxoTypes.declared.fault.TxFault.{TxFault}
use Rattle.parties.specs.LedgerSpec.BuilderSpec.declared.fault.BuildFault.{BuildFault}
use Rattle.parties.specs.LedgerSpec.declared.genesis_fault.GenesisFault.{GenesisFault}
use Rattle.parties.specs.LedgerSpec.declared.genesis_fault.GenesisFault.TheVariants as begins
use Rattle.marlowe_refusals.specs.Refusals.{compile_fault_name}
use Rattle.play_lines.specs.PlayLines.{build_fault_text, tx_fault_text}
use Rattle.fault_words.specs.Words.{build_words, rule_words}
use Rattle.setup_refusals.specs.declared.refusal.Cause.{Cause}
use Rattle.setup_refusals.specs.declared.refusal.SetupRefusal.{SetupRefusal}
use Rattle.setup_refusals.specs.declared.refusal.SetupRefusal.TheVariants.{Genesis, Contract, Thread}

abbrev pub cause : List ℕ → List ℕ → Cause
cause fault words = record { fault = fault; words = words }

-- no ledger begins so
abbrev pub genesis_name : GenesisFault → List ℕ
genesis_name begins.NotKey = codes "NotKey"
genesis_name begins.TooLarge = codes "TooLarge"
genesis_name begins.Memory = codes "Memory"

abbrev pub genesis_words : GenesisFault → List ℕ
genesis_words begins.NotKey = codes "what the ledger begins with isn't under a key"
genesis_words begins.TooLarge = codes "the ledger would begin with more than 2^127 - 1 of a token"
genesis_words begins.Memory = codes "memory was refused"

abbrev pub by_genesis : GenesisFault → SetupRefusal
by_genesis fault = Genesis (cause (genesis_name fault) (genesis_words fault))

-- a contract isn't compiled, or another has its id
abbrev pub compile_words : CompileFault → List ℕ
compile_words compiles.TooManyNodes = codes "the contract has too many parts"
compile_words compiles.TooDeep = codes "the contract is too deep"
compile_words compiles.Memory = codes "memory was refused"

abbrev pub by_compiler : List ℕ → CompileFault → SetupRefusal
by_compiler name fault = Contract name (cause (compile_fault_name fault) (compile_words fault))

abbrev pub in_use : List ℕ → SetupRefusal
in_use name = Contract name (cause (codes "IdInUse") (codes "another contract has the same id"))

-- a thread's start isn't built, or the ledger refuses it
abbrev pub by_builder : List ℕ → BuildFault → SetupRefusal
by_builder name fault = Thread name (cause (build_fault_text fault) (build_words fault))

abbrev pub by_rule : List ℕ → TxFault → SetupRefusal
by_rule name fault = Thread name (cause (tx_fault_text fault) (rule_words fault))
